-- What the steps say at plus(zero, ?0) = ?0.
use Rattle.std.proofs.Common.{◌≡◌, ℕ, zero, suc, List, [], ◌∷◌, true, false, Some, None, inl, inr, refl, ap, sym, ◌∙◌}
use Rattle.std.proofs.Common.{arith}
use Rattle.std.specs.Prelude.{◌+◌, Err, codes, slice_get}
use Rattle.std.proofs.lemmas.List.Sorted.{IsPermutation-refl}
use Rattle.term_core.specs.Tree.{Tree, var, app, none, some, instance}
use Rattle.spec_core.specs.declared.records.Equation.{Equation}
use Rattle.spec_core.specs.declared.records.Rule.{Rule}
use Rattle.spec_core.specs.Naturals.{naturals, zero_term, succ_term, plus_term, plus_zero_rule, plus_succ_rule}
use Rattle.term_core.specs.Contexts.{Context, hole, under, around, plug}
use Rattle.clause_core.specs.declared.steps.Step.TheVariants.{Subsume, ByLemma, Rule as by_rule, Decompose}
use Rattle.clause_core.specs.declared.answers.Why.TheVariants.{NoSuchNode, NoSuchPlace, NoSuchRule, DoesNotFit}
use Rattle.clause_core.specs.declared.answers.Why.TheVariants.{NotProvedBefore}
use Rattle.clause_core.specs.Places.{path_of}
use Rattle.clause_core.specs.RuleInstances.{RuleAt, IsInstance}
use Rattle.clause_core.specs.Simplifying.{SameHeads}
use Rattle.clause_core.specs.ExampleClauses.{conclusion_side, SaysAlone, gives, less, same_as_first}
use Rattle.clause_core.specs.ClauseExamples.{equals, zero_sum, same_x}
use Rattle.clause_core.proofs.SmallPlaces.{first, first_is, left_side}

abbrev pub zero_rule_at : RuleAt naturals 1
zero_rule_at = record { place = 0; rule = plus_zero_rule; counts = refl; is = refl }

abbrev pub succ_rule_at : RuleAt naturals 2
succ_rule_at = record { place = 1; rule = plus_succ_rule; counts = refl; is = refl }

pub by_first_rule : SaysAlone naturals zero_sum (by_rule (conclusion_side true []) 1) (gives (less same_x ∷ []) [])
by_first_rule = inl (
  left_side _ [] _,
  inl (
    zero_rule_at,
    inl (
      (record { terms = var 0 ∷ []; long = refl; is = refl }, tt),
      (
        _,
        ((refl, refl), tt),
        tt,
        inl (((record { equations = omega arith; depth = omega arith; size = omega arith }, tt), omega arith), refl),
      ),
    ),
  ),
)

succ_does_not_fit : IsInstance plus_succ_rule (plus_term zero_term (var 0)) → ⊥
succ_does_not_fit m =
    let q : app 4 (some (succ_term (instance m.terms (var 0))) (some (instance m.terms (var 1)) none)) ≡ app 4
    (some zero_term (some (var 0) none)) = m.is in
    let k : ◌≡◌ {A = ℕ} 3 2 = cc in
    omega arith

pub by_second_rule : SaysAlone naturals zero_sum (by_rule (conclusion_side true []) 2) (Err DoesNotFit)
by_second_rule = inl (left_side _ [] _, inl (succ_rule_at, inr (λ m. succ_does_not_fit m.0, refl)))

no_variable_has_arguments : (c : Context) (t : Tree) → var 0 ≡ plug c t → (1 ∷ []) ≡ path_of c → ⊥
no_variable_has_arguments hole t e p = let q : ◌≡◌ {A = List ℕ} (1 ∷ []) [] = p in cc
no_variable_has_arguments (under f before c after) t e p = let q : var 0 ≡ app f
    (around before (plug c t) after) = e in cc

pub below_a_variable : SaysAlone naturals zero_sum (by_rule (conclusion_side false (1 ∷ [])) 1) (Err NoSuchPlace)
below_a_variable = inr (
  λ at. no_variable_has_arguments at.round at.term
      (sym (ap (λ (e : Equation). e.right) (first_is _ [] at.at)) ∙ at.is) at.path,
  refl,
)

third : (p : ℕ) (rule : Rule) → 3 ≡ p + 1 → slice_get naturals.rules p ≡ Some rule → ⊥
third zero rule n at = omega arith
third (suc zero) rule n at = omega arith
third (suc (suc p)) rule n at = let e : None ≡ Some rule = at in cc

pub by_third_rule : SaysAlone naturals zero_sum (by_rule (conclusion_side true []) 3) (Err NoSuchRule)
by_third_rule = inl (left_side _ [] _, inr (λ r. third r.place r.rule r.counts r.is, refl))

pub by_no_rule : SaysAlone naturals zero_sum (by_rule (conclusion_side true []) 0) (Err NoSuchRule)
by_no_rule = inl (left_side _ [] _, inr (λ r. omega (arith, r.counts), refl))

no_heads : SameHeads naturals.sig (equals (plus_term zero_term (var 0)) (var 0)) → ⊥
no_heads h = let e : var 0 ≡ app h.head h.rights = h.is_right in cc

pub no_constructor : SaysAlone naturals zero_sum (Decompose true 1) (Err DoesNotFit)
no_constructor = inl (first _ [], inr (no_heads, refl))

pub by_itself : SaysAlone naturals zero_sum (Subsume 0 (var 0 ∷ [])) (gives [] (same_as_first ∷ []))
by_itself = inl (
  record { clause = zero_sum; is = refl },
  inl (
    (refl, tt),
    inl (
      record { equations = omega arith; depth = omega arith; size = omega arith },
      inl ((tt, (inl (inl refl), tt)), (_, tt, ((refl, IsPermutation-refl _), tt), inl ((tt, omega arith), refl))),
    ),
  ),
)

pub by_no_node : SaysAlone naturals zero_sum (Subsume 1 (var 0 ∷ [])) (Err NoSuchNode)
by_no_node = inr (λ n. let e : None ≡ Some n.clause = n.is in cc, refl)

pub by_no_lemma : SaysAlone naturals zero_sum (ByLemma (codes "g") (var 0 ∷ [])) (Err NotProvedBefore)
by_no_lemma = inr (λ l. l.may_be_used, refl)
