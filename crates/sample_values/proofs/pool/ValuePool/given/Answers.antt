use Rattle.sample_values.proofs.Keeping.{pool_kept}
use Rattle.sample_values.proofs.pool.ValuePool.given.Goals as goal

pub invariant_of-self : goal.invariant_of-self
invariant_of-self c = pool_kept c.self.inside.evaluator c.build.new.self c.self.inside.known
    c.build.ensures.spec c.build.ensures.adds c.self.invariant

pub invariant_of-self-then-is_constructor : goal.invariant_of-self-then-is_constructor
invariant_of-self-then-is_constructor c = pool_kept c.self.inside.evaluator c.build.new.self c.self.inside.known
    c.build.ensures.spec c.build.ensures.adds c.self.invariant

pub invariant_of-self-in_err-call : goal.invariant_of-self-in_err-call
invariant_of-self-in_err-call c = pool_kept c.self.inside.evaluator c.call.new.self c.self.inside.known
    c.call.ensures.spec c.call.ensures.adds c.self.invariant

pub invariant_of-self-in-None : goal.invariant_of-self-in-None
invariant_of-self-in-None c = pool_kept c.self.inside.evaluator c.call.new.self c.self.inside.known
    c.call.ensures.spec c.call.ensures.adds c.self.invariant

pub invariant_of-self-in-Some : goal.invariant_of-self-in-Some
invariant_of-self-in-Some c = pool_kept c.self.inside.evaluator c.call.new.self c.self.inside.known
    c.call.ensures.spec c.call.ensures.adds c.self.invariant
