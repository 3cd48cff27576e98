use Rattle.value_bank.proofs.Placed.{term_within}
use Rattle.sample_values.proofs.Keeping.{evaluator_kept}
use Rattle.sample_values.proofs.evaluator.Evaluator.place.Goals as goal

pub number-requires : goal.number-requires
number-requires c = term_within c.value.new.self c.in_ok-id.id.0 c.args.value.now c.in_ok-id.ensures.placed

pub invariant_of-self : goal.invariant_of-self
invariant_of-self c = evaluator_kept c.self.inside.spec.now c.self.inside.machine c.self.inside.sides.items
    c.self.inside.bank c.value.new.self c.self.inside.kept c.value.ensures.adds c.self.invariant

pub invariant_of-self-2 : goal.invariant_of-self-2
invariant_of-self-2 c = evaluator_kept c.self.inside.spec.now c.self.inside.machine c.self.inside.sides.items
    c.self.inside.bank c.value.new.self c.self.inside.kept c.value.ensures.adds c.self.invariant
