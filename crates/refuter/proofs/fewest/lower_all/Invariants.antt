use Rattle.std.proofs.Common.{◌≡◌, ◌<◌, MatchBool, sum}
use Rattle.term_core.specs.declared.ids.SortId.{SortId}
use Rattle.spec_core.specs.Sig.{IsSort}
use Rattle.spec_core.specs.Order.{constructors_of}
use Rattle.refuter.specs.Fewest.{lowered_by, number_in}
use Rattle.refuter.specs.After.{constructors_after}
use Rattle.refuter.proofs.fewest.lower_all.Given as goal

abbrev pub invariant-loop-number : goal.invariant-loop-number
invariant-loop-number l =
    record {
      each : (s : SortId) → IsSort l.sig s →
          lowered_by (number_in l.row) (number_in l.next s) (constructors_after l.sig l.number s) ≡ lowered_by
          (number_in l.row) (number_in l.row s) (constructors_of l.sig s);
      fell : MatchBool l.lowered (sum l.next < sum l.row) (l.next ≡ l.row);
    }
