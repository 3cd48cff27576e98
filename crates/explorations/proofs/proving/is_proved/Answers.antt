use Rattle.std.proofs.Common.{◌≡◌, true, false, arith, refl, sym, ◌∙◌}
use Rattle.std.specs.Prelude.{drop}
use Rattle.std.proofs.lemmas.List.{drop_all}
use Rattle.explorations.proofs.ClaimLists.{none_proved, proved_here, proved_later}
use Rattle.explorations.proofs.proving.is_proved.Goals as goal

pub returns-then-is_proof_of : goal.returns-then-is_proof_of
returns-then-is_proof_of c = (
  (λ t. proved_here c.args.name.now c.args.claims.now c.loop-claim.claim-index c.claim-item.result
      c.loop-claim-test.true c.claim-item.is c.loop-claim.invariant
      (c.is_proof_of.ensures.0 c.if-is_proof_of.true)),
  (λ h. refl),
)

pub loop-claim-preserved : goal.loop-claim-preserved
loop-claim-preserved c =
    proved_later c.args.name.now c.args.claims.now c.loop-claim.claim-index c.claim-item.result
    c.loop-claim-test.true c.claim-item.is c.loop-claim.invariant
    (λ here. let q : false ≡ true = sym c.if-is_proof_of.false ∙ c.is_proof_of.ensures.1 here in cc)

pub returns : goal.returns
returns c = (
  (λ t. absurd (let q : false ≡ true = t in cc)),
  (λ h. absurd (none_proved c.args.name.now (drop c.loop-claim.claim-index c.args.claims.now) c.args.claims.now
      (drop_all c.loop-claim.claim-index c.args.claims.now (omega (arith, c.loop-claim-test.false)))
      c.loop-claim.invariant h)),
)
