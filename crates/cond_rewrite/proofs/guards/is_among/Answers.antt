use Rattle.std.proofs.Common.{◌≡◌, inl, inr, refl}
use Rattle.spec_core.specs.declared.records.Equation.{Equation}
use Rattle.clause_core.specs.Equations.{IsEither}
use Rattle.clause_core.proofs.AmongEquations.{among_here}
use Rattle.cond_rewrite.specs.Applied.{applied_guard}
use Rattle.cond_rewrite.proofs.guards.is_among.Goals as goal
use Rattle.cond_rewrite.proofs.guards.is_among.Goals.{then-equates-via-then-equates}
use Rattle.cond_rewrite.proofs.guards.is_among.Goals.{then-equates-via-else-equates+then-equates-2}

pub returns-then-equates : goal.returns-then-equates
returns-then-equates c =
    let e : Equation = applied_guard c.args.theta.now.terms c.args.guard.now in
    let d : Equation = c.premise-item.result in
    let either : IsEither e d = elim c.then-equates.branch [
      | then-equates-via-then-equates w ↦ let h = w.if-equates.ensures.0 refl in
          let l : d.left ≡ e.left = h.0 in let r : d.right ≡ e.right = h.1 in
          inl (λ i. record { left = l i; right = r i })
      | then-equates-via-else-equates+then-equates-2 w ↦ let h = w.if-equates-2.ensures.0 refl in
          let l : d.left ≡ e.right = h.1 in let r : d.right ≡ e.left = h.0 in
          inr (λ i. record { left = l i; right = r i })
    ] in (
      λ y. among_here e c.args.premises.now c.loop-premise.premise-index d c.loop-premise-test.true
          c.premise-item.is either,
      λ a. refl,
    )
