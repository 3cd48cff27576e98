-- The flags of the nodes so far.
use Rattle.std.proofs.Common.{◌≡◌, ℕ, Some, true, length}
use Rattle.std.specs.Prelude.{slice_get}
use Rattle.clause_core.specs.declared.clauses.Clause.{Clause}
use Rattle.inference_rules.specs.Answers.{clauses_of}
use Rattle.script_trim.specs.Sharing.{IsAlone}
use Rattle.script_trim.proofs.lone_nodes.lone_nodes.Given as goal

abbrev pub invariant-loop-number : goal.invariant-loop-number
invariant-loop-number l =
    (length l.flags.items ≡ l.number) × ((i : ℕ) (c : Clause) → slice_get l.flags.items i ≡ Some true →
    slice_get (clauses_of l.nodes) i ≡ Some c → IsAlone (clauses_of l.nodes) i c)
