use Rattle.std.proofs.Common.{◌≡◌, ◌++◌, codes, length}
use Rattle.proof_script.proofs.ListsAt.{before, AreItems, AllGoOn}
use Rattle.proof_script.proofs.term_lists.read_list.Given as goal

abbrev pub decreases-loop-made : goal.decreases-loop-made
decreases-loop-made l = length l.rest

-- the terms that were read, each with `, ` after it, and what each list at the front goes on with
abbrev pub invariant-loop-made : goal.invariant-loop-made
invariant-loop-made l =
    record {
      read : l.fn.bytes ≡ codes "[" ++ (before l.sig l.variables l.made ++ l.rest);
      items : AreItems l.sig l.variables l.made;
      goes_on : AllGoOn l.sig l.variables l.fn.bytes l.rest;
    }
