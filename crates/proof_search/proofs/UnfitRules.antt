-- Rules whose left side becomes no term: none becomes a variable, and only those of a function
-- become its call.
use Rattle.std.proofs.Common.{◌≡◌, ℕ, suc, ◌+◌, ◌<◌, ◌≤◌, ◌⊎◌, List, true, false, Option, Some, None, inl, inr, ap}
use Rattle.std.proofs.Common.{sym, ◌∙◌, subst, arith, length, get_or}
use Rattle.std.specs.Prelude.{MatchOption, is_some, slice_get}
use Rattle.std.proofs.lemmas.Option.{slice_get_within, get_or_from_slice_get}
use Rattle.term_core.specs.Tree.{Tree, Trees, var, app}
use Rattle.term_core.proofs.Numbers.{below_or_last}
use Rattle.spec_core.specs.declared.records.Spec.{Spec}
use Rattle.spec_core.specs.RuleTables.{has_head, numbers_of}
use Rattle.spec_core.specs.WellSorted.{IsWellSorted}
use Rattle.spec_core.proofs.RuleTables.{instance_head, rule_has_place}
use Rattle.clause_core.specs.RuleInstances.{RuleAt, IsInstance}
use Rattle.proof_search.proofs.OtherRules.{not_variable}

-- what is said if an option has no value
pub where_none :
    {X : Type 0} (o : Option X) (P : Type 0) (Q : X → Type 0) → is_some o ≡ false →
    MatchOption o P Q → P
where_none None P Q none p = p
where_none (Some x) P Q none p = absurd (let q : true ≡ false = none in cc)

module _ (spec : Spec) (t : Tree) where
  -- the left side of the rule with this number doesn't become the term
  abbrev pub Unfit : ℕ → Type 0
  Unfit n = (by : RuleAt spec n) → IsInstance by.rule t → ⊥

  -- so are the rules at the first of these places
  abbrev pub UnfitBefore : List ℕ → ℕ → Type 0
  UnfitBefore places k = (j : ℕ) → j < k → Unfit (suc (get_or places j 0))

  pub one_more :
      (places : List ℕ) (k : ℕ) → UnfitBefore places k → Unfit (suc (get_or places k 0)) →
      UnfitBefore places (k + 1)
  one_more places k before here j lt = by (below_or_last j k lt)
    where
      by : (j < k) ⊎ (j ≡ k) → Unfit (suc (get_or places j 0))
      by (inl h) = before j h
      by (inr e) = subst (λ m. Unfit (suc (get_or places m 0))) (sym e) here

  module _ (fine : IsWellSorted spec) where
    pub none_variable : (m : ℕ) → var m ≡ t → (n : ℕ) → Unfit n
    none_variable m e n by fits =
        not_variable spec.sig by.rule.left fits.terms m
        (fine.rules by.place by.rule by.is).left (fits.is ∙ sym e)

    -- if those of the function don't, none does
    pub none_called :
        (f : ℕ) (ts : Trees) → app f ts ≡ t → (places : List ℕ) →
        places ≡ numbers_of f 0 spec.rules → (k : ℕ) → length places ≤ k → UnfitBefore places k →
        (n : ℕ) → Unfit n
    none_called f ts e places are k le before n by fits =
        let left = (fine.rules by.place by.rule by.is).left in
        let root : has_head f by.rule.left ≡ true =
        instance_head spec.sig by.rule.left f fits.terms ts left (fits.is ∙ sym e) in
        let found = rule_has_place f spec.rules by.place by.rule by.is root in
        let at : slice_get places found.0 ≡ Some by.place =
        ap (λ ps. slice_get ps found.0) are ∙ found.1 in
        let within = slice_get_within places found.0 by.place at in
        let same = get_or_from_slice_get places found.0 by.place 0 at in
        let rule : RuleAt spec (suc (get_or places found.0 0)) =
        record {
          place = by.place;
          rule = by.rule;
          counts = omega (arith, same);
          is = by.is;
        } in
        before found.0 (omega (arith, within, le)) rule fits
