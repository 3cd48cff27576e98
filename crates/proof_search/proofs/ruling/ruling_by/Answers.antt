use Rattle.std.proofs.Common.{◌≡◌, ℕ, suc, List, map, None, Option, true, false, get_or, ap, sym, ◌∙◌, subst}
use Rattle.std.specs.Prelude.{is_some}
use Rattle.std.proofs.lemmas.Option.{slice_get-get_or}
use Rattle.clause_core.specs.RuleInstances.{IsInstance}
use Rattle.clause_core.specs.declared.steps.Place.{Place}
use Rattle.clause_core.specs.declared.steps.Step.{Step}
use Rattle.routine_proof.specs.Candidates.{Candidate, Gives, certain, each, nothing}
use Rattle.routine_proof.specs.First.{IsFirst}
use Rattle.proof_search.specs.declared.ruling.ByRule.{ByRule}
use Rattle.proof_search.specs.Ruling.{ruling_step, rulings_by}
use Rattle.proof_search.specs.Taking.{IsTaken, SaysAt, place_of}
use Rattle.proof_search.proofs.OtherRules.{none_unfit}
use Rattle.proof_search.proofs.TakenSteps.{certain_found}
use Rattle.proof_search.proofs.Walking.{found_at, passed_at, skipped_at, none_found, each_mapped}
use Rattle.proof_search.proofs.ruling.ruling_by.Goals as goal

-- the steps by the rules at the places are those by their numbers
by_places : {R : Type 0} (is : Candidate → R → Type 0) (entry : ByRule) (place : Place)
    (places : List ℕ) (found : Option R) →
    IsFirst is (each places (λ (k : ℕ). certain (ruling_step entry place (suc k)))) found →
    IsFirst is (rulings_by entry place (map (λ k. suc k) places)) found
by_places is entry place places found first =
    subst (λ (cs : List Candidate). IsFirst is cs found)
    (sym (each_mapped (λ (n : ℕ). certain (ruling_step entry place n)) (λ (k : ℕ). suc k) places))
    first

-- the step that is made is that at the place by the number
same_step : (entry : ByRule) (place : Place) (n : ℕ) {p : Place} {number : ℕ} {step : Step} →
    step ≡ ruling_step entry p number → p ≡ place → number ≡ n → step ≡ ruling_step entry place n
same_step entry place n {p} {number} made at is =
    made ∙ ap (λ (q : Place). ruling_step entry q number) at ∙ ap (λ m. ruling_step entry place m) is

pub returns-then-is_some : goal.returns-then-is_some
returns-then-is_some g c =
    let place = place_of c.args.at.now c.args.index in
    let says = SaysAt (g.O.TermOrder.above c.args.order.now) c.args.at.now in
    let i = c.loop-rule.rule-index in
    let found = c.in_ok-found.found in
    let k = get_or c.args.from.now i 0 in
    let step = same_step c.args.entry place (suc k) c.step-step.ensures
    (c.in_ok-copy_place.ensures ∙ c.in_ok-place.ensures) c.in-Some.ensures in
    let there : is_some found ≡ true = cc (c.is_some.ensures, c.if-is_some.true) in
    by_places (Gives says) c.args.entry place c.args.from.now found
    (found_at (Gives says) c.args.from.now
    (λ (k : ℕ). certain (ruling_step c.args.entry place (suc k))) i k found
    (slice_get-get_or c.args.from.now i 0 c.loop-rule-test.true)
    c.loop-rule.invariant.passed there (certain_found says
    (ruling_step c.args.entry place (suc k)) found
    (subst (λ (s : Step). IsTaken says s nothing found) step c.in_ok-found.ensures)))

pub loop-rule-preserved : goal.loop-rule-preserved
loop-rule-preserved g c =
    let place = place_of c.args.at.now c.args.index in
    let says = SaysAt (g.O.TermOrder.above c.args.order.now) c.args.at.now in
    let i = c.loop-rule.rule-index in
    let found = c.in_ok-found.found in
    let k = get_or c.args.from.now i 0 in
    let step = same_step c.args.entry place (suc k) c.step-step.ensures
    (c.in_ok-copy_place.ensures ∙ c.in_ok-place.ensures) c.in-Some.ensures in
    let there : is_some found ≡ false = cc (c.is_some.ensures, c.if-is_some.false) in
    record {
      passed = passed_at (Gives says) c.args.from.now
          (λ (k : ℕ). certain (ruling_step c.args.entry place (suc k))) i k found
          (slice_get-get_or c.args.from.now i 0 c.loop-rule-test.true)
          c.loop-rule.invariant.passed there (certain_found says
          (ruling_step c.args.entry place (suc k)) found
          (subst (λ (s : Step). IsTaken says s nothing found) step c.in_ok-found.ensures));
      known = c.in_ok-place.ensures;
    }

pub returns : goal.returns
returns g c =
    let place = place_of c.args.at.now c.args.index in
    let says = SaysAt (g.O.TermOrder.above c.args.order.now) c.args.at.now in
    by_places (Gives says) c.args.entry place c.args.from.now None
    (none_found (Gives says) c.args.from.now
    (λ (k : ℕ). certain (ruling_step c.args.entry place (suc k))) c.loop-rule.rule-index
    c.loop-rule-test.false c.loop-rule.invariant.passed)

pub loop-rule-preserved-in_default : goal.loop-rule-preserved-in_default
loop-rule-preserved-in_default g c =
    let place = place_of c.args.at.now c.args.index in
    let above = g.O.TermOrder.above c.args.order.now in
    let at = c.args.at.now in
    let i = c.loop-rule.rule-index in
    let k = get_or c.args.from.now i 0 in
    let there = c.requires.there in
    let same = there.term ∙ sym c.term-term.ensures in
    record {
      passed = skipped_at (Gives (SaysAt above at)) c.args.from.now
          (λ (k : ℕ). certain (ruling_step c.args.entry place (suc k))) i k
          (slice_get-get_or c.args.from.now i 0 c.loop-rule-test.true)
          c.loop-rule.invariant.passed
          (none_unfit above at c.requires.at c.args.entry place there.place (suc k)
          (λ by fits. c.in_default.ensures by (subst (λ t. IsInstance by.rule t) same fits)));
      known = c.loop-rule.invariant.known;
    }
