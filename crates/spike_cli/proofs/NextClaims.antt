-- The goal that is claimed next, and what its claim adds to the goals proved.
use Rattle.std.proofs.Common.{◌≡◌, ◌<◌, ◌+◌, ◌∙◌, ℕ, List, [], ◌∷◌, ◌++◌, Some, sym, ap, subst, refl, arith}
use Rattle.std.proofs.Common.{length, get_or, take}
use Rattle.std.specs.Prelude.{slice_get}
use Rattle.std.proofs.lemmas.List.{length-take}
use Rattle.std.proofs.lemmas.Option.{slice_get_read}
use Rattle.spec_core.specs.declared.records.Goal.{Goal}
use Rattle.clause_core.specs.declared.reports.Claim.{Claim}
use Rattle.search_claims.specs.Claims.{AreClaims}
use Rattle.spike_cli.specs.Claims.{number_proved, proved_goals}
use Rattle.spike_cli.proofs.ProvedGoals.{proved-append}
use Rattle.spike_cli.proofs.ReportedClaims.{as_many}

-- the goal that is read, as one of the specification's
pub listed :
    (goals items : List Goal) (i : ℕ) (one : Goal) → items ≡ goals → i < length items →
    one ≡ get_or items i one → slice_get goals i ≡ Some one
listed goals items i one same h is =
    subst (λ gs. slice_get gs i ≡ Some one) same (slice_get_read items _ i one refl h is)

-- after claims on the goals before it, the claim on this goal adds its number if it proves it
pub proved_next :
    (IsOn : List Claim → Goal → Claim → Type 0) (goals : List Goal) (i : ℕ)
    (claims : List Claim) (claim : Claim) → i < length goals → AreClaims IsOn [] (take i goals) claims →
    proved_goals claims ++ number_proved i claim.outcome ≡ proved_goals (claims ++ claim ∷ [])
proved_next IsOn goals i claims claim h all =
    let count : length claims ≡ i =
    omega (arith, as_many IsOn [] (take i goals) claims all, length-take i goals, h) in
    let n : i ≡ 0 + length claims = omega (arith, count) in
    ap (λ k. proved_goals claims ++ number_proved k claim.outcome) n
    ∙ sym (proved-append 0 claims claim)
