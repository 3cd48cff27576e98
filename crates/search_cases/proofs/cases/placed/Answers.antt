use Rattle.spec_core.specs.WellSorted.{sorts_of}
use Rattle.ground_eval.proofs.GoalSides.{values_ground}
use Rattle.search_cases.proofs.cases.placed.Goals as goal

pub place_values-requires : goal.place_values-requires
place_values-requires c = values_ground c.args.spec.now (sorts_of c.args.vars.now) c.args.values.now
    (c.are_values.ensures c.if-not-are_values.false)
