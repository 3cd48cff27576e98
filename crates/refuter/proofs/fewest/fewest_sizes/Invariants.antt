use Rattle.std.proofs.Common.{◌≡◌, ℕ, List, Some, sum, length}
use Rattle.std.specs.Prelude.{slice_get}
use Rattle.refuter.specs.Fewest.{IsRowOf}
use Rattle.refuter.proofs.fewest.fewest_sizes.Given as goal

abbrev pub invariant-loop-row : goal.invariant-loop-row
invariant-loop-row l =
    record {
      each : (depth : ℕ) (row : List ℕ) → slice_get l.rows depth ≡ Some row → IsRowOf l.sig depth row;
      here : IsRowOf l.sig (length l.rows) l.row.items;
    }

abbrev pub decreases-loop-row : goal.decreases-loop-row
decreases-loop-row l = sum l.row.items
