use Rattle.std.specs.List.{AllByRecursion}
use Rattle.open_goals.specs.Stops.{IsNear}
use Rattle.open_goals.proofs.near.lemma_nears.Given as goal

abbrev pub invariant-loop-place : goal.invariant-loop-place
invariant-loop-place g l = AllByRecursion (IsNear l.lemmas) l.made.items
