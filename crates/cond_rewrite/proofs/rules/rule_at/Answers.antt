use Rattle.std.proofs.Common.{◌≡◌, ◌+◌, ◌<◌, ◌≤◌, ℕ, List, Option, Some, None, MatchOption, length, get_or, refl, ap}
use Rattle.std.proofs.Common.{sym, ◌∙◌, arith, Bor}
use Rattle.std.specs.Prelude.{slice_get}
use Rattle.std.specs.Option.{IfSome}
use Rattle.std.specs.List.{HoldsAt}
use Rattle.std.proofs.lemmas.Option.{slice_get_within, slice_get-get_or}
use Rattle.spec_core.specs.declared.records.Rule.{Rule}
use Rattle.spec_core.specs.declared.records.Spec.{Spec}
use Rattle.clause_core.specs.RuleInstances.{RuleAt}
use Rattle.cond_rewrite.proofs.rules.rule_at.Goals as goal

-- what a look-up at a place says of the next number
looked_up :
    (spec : Spec) (rules : List Rule) → rules ≡ spec.rules → (number place : ℕ) (found : Option (Bor Rule)) →
    number ≡ place + 1 →
    MatchOption found (length rules ≤ place) (λ r. (place < length rules)
    × HoldsAt (λ d. r.now ≡ d) rules place) → IfSome found (λ r. r.now ≡ get_or rules place r.now) →
    MatchOption found (RuleAt spec number → ⊥) (λ r. (at : RuleAt spec number) × (at.rule ≡ r.now))
looked_up spec rules e number place None n h is = λ at.
    let long : length rules ≡ length spec.rules = ap (λ (rs : List Rule). length rs) e in
    omega (arith, n, h, at.counts, long, slice_get_within spec.rules at.place at.rule at.is)
looked_up spec rules e number place (Some r) n h is =
    let there : slice_get rules place ≡ Some r.now = slice_get-get_or rules place r.now h.0
    ∙ ap (λ x. Some x) (sym is) in
    (record { place = place; rule = r.now; counts = n; is = ap (λ rs. slice_get rs place) (sym e) ∙ there }, refl)

pub returns-in_err-place : goal.returns-in_err-place
returns-in_err-place c = rw c.from_residual.ensures (λ at. c.in_err-place.ensures (omega (arith, at.counts)))

pub returns : goal.returns
returns c =
    looked_up c.args.spec.now c.as_slice.result.now c.as_slice.ensures c.args.number c.in_ok-place.field-0
    c.get.result (omega (arith, c.in_ok-place.ensures)) c.get.ensures.lookup.3 c.get.ensures.lookup.1
