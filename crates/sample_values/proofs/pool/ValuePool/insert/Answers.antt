use Rattle.std.proofs.Common.{ap, sym, ◌∙◌, subst}
use Rattle.spec_core.specs.declared.records.Spec.{Spec}
use Rattle.spec_core.specs.Sorts.{IsValue}
use Rattle.sample_values.specs.Evaluators.{Evaluated}
use Rattle.sample_values.proofs.Keeping.{pool_kept}
use Rattle.sample_values.proofs.Placing.{built_ground}
use Rattle.sample_values.proofs.pool.ValuePool.insert.Goals as goal

pub place-requires : goal.place-requires
place-requires c = built_ground c.args.self.now.spec.sig c.args.value.now c.requires.1

pub invariant_of-self : goal.invariant_of-self
invariant_of-self c = pool_kept c.self.inside.evaluator c.place.new.self c.self.inside.known c.place.ensures.spec
    c.place.ensures.adds c.self.invariant

pub invariant_of-self-2 : goal.invariant_of-self-2
invariant_of-self-2 c = pool_kept c.self.inside.evaluator c.place.new.self c.self.inside.known c.place.ensures.spec
    c.place.ensures.adds c.self.invariant

pub number-requires : goal.number-requires
number-requires c =
    let same = c.place.ensures.spec ∙ ap (λ (e : Evaluated). e.spec) c.self.view_is in (
      c.args.value.now,
      c.in_ok-place.ensures.placed,
      subst (λ (s : Spec). IsValue s.sig c.args.sort c.args.value.now) (sym same) c.requires,
    )
