use Rattle.std.proofs.Common.{inl, inr, refl}
use Rattle.std.specs.Prelude.{◌⊎◌}
use Rattle.inference_rules.specs.Parts.{IsPart}
use Rattle.inference_rules.proofs.Parts.{sides_at, no_sides_next}
use Rattle.inference_rules.proofs.generalizing.stands_in_sides.Goals as goal
use Rattle.inference_rules.proofs.generalizing.stands_in_sides.Goals.{then-is_part-via-then-is_part}
use Rattle.inference_rules.proofs.generalizing.stands_in_sides.Goals.{then-is_part-via-else-is_part+then-is_part-2}

pub returns-then-is_part : goal.returns-then-is_part
returns-then-is_part c =
    let t = c.args.term.now in
    let e = c.equation-item.result in
    let either : IsPart t e.left ⊎ IsPart t e.right = elim c.then-is_part.branch [
      | then-is_part-via-then-is_part w ↦ inl (c.is_part.ensures.0 w.if-is_part.true)
      | then-is_part-via-else-is_part+then-is_part-2 w ↦ inr (w.is_part-else-is_part.ensures.0 w.if-is_part-2.true)
    ] in (
      λ true. sides_at t c.args.equations.now c.loop-equation.equation-index e c.loop-equation-test.true
          c.equation-item.is either,
      λ p. refl,
    )

pub loop-equation-preserved : goal.loop-equation-preserved
loop-equation-preserved c =
    no_sides_next c.args.term.now c.args.equations.now c.loop-equation.equation-index c.equation-item.result
    c.loop-equation-test.true c.equation-item.is c.loop-equation.invariant
    (λ p. let yes = c.is_part.ensures.1 p in let no = c.if-is_part.false in cc)
    (λ p. let yes = c.is_part-else-is_part.ensures.1 p in let no = c.if-is_part-2.false in cc)
