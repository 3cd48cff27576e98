use Rattle.std.proofs.Common.{◌≡◌, true, false, arith, refl, sym, ◌∙◌}
use Rattle.std.specs.Prelude.{drop}
use Rattle.std.proofs.lemmas.List.{drop_all}
use Rattle.explorations.proofs.ClaimLists.{all_stay, none_stay, one_stays}
use Rattle.explorations.proofs.proving.stay_proved.Goals as goal

pub returns-then-not-stays_if_proved : goal.returns-then-not-stays_if_proved
returns-then-not-stays_if_proved c = (
  (λ t. absurd (let q : false ≡ true = t in cc)),
  (λ h. absurd (
      let one =
      all_stay c.args.before.now c.args.claims.now c.loop-claim.claim-index c.claim-item.result
      c.loop-claim-test.true c.claim-item.is c.loop-claim.invariant h in
      let q : false ≡ true = sym c.if-not-stays_if_proved.true ∙ c.stays_if_proved.ensures.1 one in cc)),
)

pub loop-claim-preserved : goal.loop-claim-preserved
loop-claim-preserved c =
    one_stays c.args.before.now c.args.claims.now c.loop-claim.claim-index c.claim-item.result
    c.loop-claim-test.true c.claim-item.is c.loop-claim.invariant
    (c.stays_if_proved.ensures.0 c.if-not-stays_if_proved.false)

pub returns : goal.returns
returns c = (
  (λ t. none_stay (drop c.loop-claim.claim-index c.args.before.now) c.args.before.now c.args.claims.now
      (drop_all c.loop-claim.claim-index c.args.before.now (omega (arith, c.loop-claim-test.false)))
      c.loop-claim.invariant),
  (λ h. refl),
)
