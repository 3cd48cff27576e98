use Rattle.std.proofs.Common.{◌≡◌, subst, refl, Some}
use Rattle.std.specs.Prelude.{slice_get}
use Rattle.std.proofs.lemmas.Option.{slice_get_read}
use Rattle.search_cases.proofs.searches.compare.Goals as goal

pub compare_goal-requires-clause-listed : goal.compare_goal-requires-clause-listed
compare_goal-requires-clause-listed c = (
  c.loop-goal.goal-index,
  subst (λ gs. slice_get gs c.loop-goal.goal-index ≡ Some c.goal-item.result) c.as_slice-goal-items.ensures
      (slice_get_read c.as_slice-goal-items.result.now _ c.loop-goal.goal-index c.goal-item.result refl
      c.loop-goal-test.true c.goal-item.is),
)
