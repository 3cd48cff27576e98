-- The first faults of three specifications of addition: of linearity, of overlap and of guards.
use Rattle.std.proofs.Common.{◌≡◌, ℕ, zero, suc, List, [], ◌∷◌, Some, None, inl, inr, refl, ap, sym, ◌∙◌, subst, arith}
use Rattle.std.proofs.Common.{codes}
use Rattle.std.specs.Prelude.{option_map, slice_get, false}
use Rattle.term_core.specs.Tree.{var}
use Rattle.spec_core.specs.declared.records.Guard.{Guard}
use Rattle.spec_core.specs.declared.records.Rule.{Rule}
use Rattle.spec_core.specs.declared.records.VarInfo.{VarInfo}
use Rattle.spec_core.specs.Groups.{Whole, alone, split, wanting}
use Rattle.spec_core.specs.Linear.{IsLinear, LeftSidesAreLinear}
use Rattle.spec_core.specs.Naturals.{naturals, plus_zero_rule, zero_term, plus_term}
use Rattle.sample_specs.specs.SumOrder.{AboveInSums}
use Rattle.overlap_check.specs.declared.answers.Linear.TheVariants.{Repeated}
use Rattle.overlap_check.specs.declared.answers.Overlap.TheVariants.{Both}
use Rattle.overlap_check.specs.Repetition.{IsLinearity}
use Rattle.overlap_check.specs.Answers.{IsOverlap}
use Rattle.overlap_check.specs.Examples.{right_zero_rule, same_rule, same_second, two_zeros}
use Rattle.clause_core.specs.Admitted.{RuleIsOrdered}
use Rattle.spec_admit.specs.FirstFault.{Tells}
use Rattle.spec_admit.specs.declared.faults.AdmitFault.TheVariants.{Linear, Overlap, Guards}
use Rattle.spec_admit.specs.Examples.{half_rule, half, if_true}
use Rattle.spec_admit.proofs.AdditionFaults.{two_variables, only_rule, one_rule_apart}

pub linear : IsLinearity same_second (Repeated 2 (record { 0 = 0 })) →
    Tells AboveInSums same_second (Linear 2 (codes "x"))
linear h =
    let place : h.0 ≡ 1 = omega (arith, h.1) in
    let at : Some same_rule ≡ Some h.2.rule = sym (ap (λ n. slice_get same_second.rules n) place) ∙ h.2.at in
    let same : h.2.rule ≡ same_rule = cc in
    record {
      place = h.0;
      counts = h.1;
      var = 0;
      first = h.2;
      named = ap (λ (r : Rule). option_map (λ (i : VarInfo). i.name) (slice_get r.vars 0)) same;
    }

-- what holds of two rules holds of each rule of a list of both
each_of_two : (P : Rule → Type 0) (r q : Rule) → P r → P q → (k : ℕ) (rule : Rule) →
    slice_get (r ∷ q ∷ []) k ≡ Some rule → P rule
each_of_two P r q a b zero rule at = let s : Some r ≡ Some rule = at in let e : r ≡ rule = cc in subst P e a
each_of_two P r q a b (suc zero) rule at = let s : Some q ≡ Some rule = at in let e : q ≡ rule = cc in subst P e b
each_of_two P r q a b (suc (suc k)) rule at = absurd (let s : None ≡ Some rule = at in cc)

one_variable : IsLinear (plus_term (var 0) zero_term)
one_variable n (inl h) = h
one_variable n (inr (inl (e, inl f))) = f
one_variable n (inr (inl (e, inr f))) = f
one_variable n (inr (inr (inl h))) = h
one_variable n (inr (inr (inr (inl h)))) = h.1
one_variable n (inr (inr (inr (inr h)))) = h

pub overlap : LeftSidesAreLinear naturals → IsOverlap two_zeros (Both 1 2 (zero_term ∷ zero_term ∷ [])) →
    Tells AboveInSums two_zeros (Overlap 1 2 (zero_term ∷ zero_term ∷ []))
overlap linear both = (
  each_of_two (λ r. IsLinear r.left) plus_zero_rule right_zero_rule (linear 0 plus_zero_rule refl) one_variable,
  each_of_two (RuleIsOrdered AboveInSums) plus_zero_rule right_zero_rule
      (record { right = λ env. omega arith; guards = tt })
      (record { right = λ env. omega arith; guards = tt }),
  both,
)

half_ordered : RuleIsOrdered AboveInSums half_rule
half_ordered = record { right = λ env. omega arith; guards = ((λ env. omega arith, λ env. omega arith), tt) }

-- one list that begins with a test leaves the other side of the test without a list
not_whole : {ms : List (ℕ × List Guard)} → (Whole [] → ⊥) → Whole ms → ms ≡ (0, if_true ∷ []) ∷ [] → ⊥
not_whole nothing (alone {k = k}) e =
    let pair : ◌≡◌ {A = ℕ × List Guard} (k, []) (0, if_true ∷ []) = cc in
    let list : [] ≡ if_true ∷ [] = ap (λ (p : ℕ × List Guard). p.1) pair in
    cc
not_whole nothing (split test begin true_side false_side) e = nothing
    (subst (λ ns. Whole (wanting false ns)) e false_side)

pub guards : (Whole [] → ⊥) → Tells AboveInSums half (Guards 1)
guards nothing = (
  only_rule half_rule (λ r. IsLinear r.left) two_variables,
  only_rule half_rule (RuleIsOrdered AboveInSums) half_ordered,
  one_rule_apart half_rule,
  inl (λ w. not_whole nothing w refl, refl),
)
