use Rattle.std.proofs.Common.{◌≡◌, ◌++◌, take}
use Rattle.open_evaluation.specs.Marks.{marked_constants}
use Rattle.open_evaluation.proofs.naming.add_constants.Given as goal

abbrev pub invariant-loop-place : goal.invariant-loop-place
invariant-loop-place l = l.symbols ≡ l.fn.symbols ++ marked_constants l.first (take l.place l.sorts)
