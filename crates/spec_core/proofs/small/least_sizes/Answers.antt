use Rattle.std.proofs.Common.{arith, ◌≡◌, ◌++◌, subst, take, drop, length, sym}
use Rattle.std.proofs.lemmas.Grind.{common_steps}
use Rattle.spec_core.specs.Sizes.{AreLeast}
use Rattle.spec_core.proofs.LeastSizes.{least_of_settled}
use Rattle.spec_core.proofs.Rounds.{settled_by}
use Rattle.spec_core.proofs.small.least_sizes.Goals as goal

pub returns : goal.returns
returns c =
    let e : take c.loop.least.len (c.lower_all.new.least
    ++ drop (length c.lower_all.new.least) c.loop.least.items) ≡ c.lower_all.new.least = grind (
      arith,
      common_steps,
    ) in
    subst (λ xs. AreLeast c.args.tables.now xs) (sym e)
    (least_of_settled c.args.tables.now c.lower_all.new.least c.lower_all.ensures.reached
    (settled_by c.args.tables.now c.lower_all.new.least _ c.lower_all.result c.loop-test.false
    c.lower_all.ensures.lowered))
