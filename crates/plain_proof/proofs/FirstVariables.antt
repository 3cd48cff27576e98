-- The first variable whose cases close, for an equation and for a goal.
use Rattle.std.proofs.Common.{◌≡◌, ℕ, ◌+◌, ◌<◌, ◌≤◌, ◌⊎◌, length, List, [], ◌∷◌, Some, None, Option, inl, inr, get_or}
use Rattle.std.proofs.Common.{ap, sym, ◌∙◌, subst, arith}
use Rattle.std.specs.Prelude.{slice_get}
use Rattle.std.proofs.lemmas.Option.{slice_get-get_or, slice_get_within}
use Rattle.term_core.specs.declared.ids.SortId.{SortId}
use Rattle.term_core.specs.declared.ids.VarId.{VarId}
use Rattle.term_core.specs.Variables.{Occurs}
use Rattle.term_core.proofs.Numbers.{below_or_last}
use Rattle.spec_core.specs.declared.records.Equation.{Equation}
use Rattle.spec_core.specs.declared.records.Goal.{Goal}
use Rattle.spec_core.specs.declared.records.Spec.{Spec}
use Rattle.spec_core.specs.WellSorted.{sorts_of}
use Rattle.plain_proof.specs.Limits.{AreWithin}
use Rattle.plain_proof.specs.FirstPlain.{HasPlain, IsFirstPlain}
use Rattle.plain_proof.specs.CaseAnswers.{HasCases, IsCovered, IsFirstCovered}

module _ (spec : Spec) (ctx : List SortId) (e : Equation) (most : ℕ) where
  -- the sort of a variable is the one at its place
  sort_here : (k : ℕ) (s : SortId) → k < length ctx → s ≡ get_or ctx k s → slice_get ctx k ≡ Some s
  sort_here k s lt at = slice_get-get_or ctx k s lt ∙ ap (λ (r : SortId). Some r) (sym at)

  pub is_covered : (k : ℕ) (s : SortId) → k < length ctx → s ≡ get_or ctx k s →
      Occurs k e.left ⊎ Occurs k e.right → HasCases spec ctx e most s k → IsCovered spec ctx e most k
  is_covered k s lt at o h = (s, sort_here k s lt at, o, h)

  pub absent : (k : ℕ) → (Occurs k e.left → ⊥) → (Occurs k e.right → ⊥) → IsCovered spec ctx e most k → ⊥
  absent k l r h = elim h.2 as (λ _. ⊥) [ inl o ↦ l o | inr o ↦ r o ]

  pub without_cases : (k : ℕ) (s : SortId) → k < length ctx → s ≡ get_or ctx k s →
      (HasCases spec ctx e most s k → ⊥) → IsCovered spec ctx e most k → ⊥
  without_cases k s lt at never h =
      let both : Some s ≡ Some h.0 = sym (sort_here k s lt at) ∙ h.1 in
      let same : h.0 ≡ s = cc in
      never (subst (λ (r : SortId). HasCases spec ctx e most r k) same h.3)

  -- no variable before the next one
  pub none_next : (k : ℕ) → ((y : ℕ) → y < k → IsCovered spec ctx e most y → ⊥) →
      (IsCovered spec ctx e most k → ⊥) → (y : ℕ) → y < k + 1 → IsCovered spec ctx e most y → ⊥
  none_next k before here y lt h =
      elim (below_or_last y k lt) as (λ _. ⊥) [
        | inl b ↦ before y b h
        | inr q ↦ here (subst (λ m. IsCovered spec ctx e most m) q h)
      ]

  pub none_at_all : (k : ℕ) → length ctx ≤ k → ((y : ℕ) → y < k → IsCovered spec ctx e most y → ⊥) → (y : ℕ) →
      IsCovered spec ctx e most y → ⊥
  none_at_all k past before y h = before y (omega (arith, past, slice_get_within ctx y h.0 h.1)) h

-- a goal without exactly one conclusion, or with a premise, or beyond the limits, has no plain proof
pub none_premises : (spec : Spec) (goal : Goal) (most : ℕ) → (goal.premises ≡ [] → ⊥) → IsFirstPlain spec goal most None
none_premises spec goal most never y h = never h.1.no_premises

pub none_conclusions : (spec : Spec) (goal : Goal) (most : ℕ) → (length goal.conclusions ≡ 1 → ⊥) →
    IsFirstPlain spec goal most None
none_conclusions spec goal most never y h = never (ap (λ (es : List Equation). length es) h.1.conclusion)

one_equation : (d e : Equation) → (d ∷ []) ≡ (e ∷ []) → d ≡ e
one_equation d e q = cc

pub none_outside : (spec : Spec) (goal : Goal) (e : Equation) (most : ℕ) → goal.conclusions ≡ e ∷ [] →
    (AreWithin e.left e.right → ⊥) → IsFirstPlain spec goal most None
none_outside spec goal e most is out y h =
    let q = one_equation h.1.equation e (sym h.1.conclusion ∙ is) in
    out (subst (λ (z : Equation). AreWithin z.left z.right) q h.1.within)

module _ (spec : Spec) (goal : Goal) (e : Equation) (most : ℕ) (none : goal.premises ≡ [])
    (is : goal.conclusions ≡ e ∷ []) (small : AreWithin e.left e.right) where
  plain_covered : (x : ℕ) → HasPlain spec goal most x → IsCovered spec (sorts_of goal.vars) e most x
  plain_covered x h =
      let p = h.1 in
      let q = one_equation p.equation e (sym p.conclusion ∙ is) in
      subst (λ (z : Equation). IsCovered spec (sorts_of goal.vars) z most x) q (
        p.sort,
        p.sorted,
        p.occurs,
        (h.0, p.cases, h.2),
      )

  covered_plain : (x : ℕ) → IsCovered spec (sorts_of goal.vars) e most x → HasPlain spec goal most x
  covered_plain x h = (
    h.3.0,
    record {
      equation = e;
      sort = h.0;
      no_premises = none;
      conclusion = is;
      occurs = h.2;
      sorted = h.1;
      within = small;
      cases = h.3.1;
    },
    h.3.2,
  )

  -- the first variable of the equation is that of the goal
  pub first_of_goal : (ctx : List SortId) → ctx ≡ sorts_of goal.vars → (found : Option VarId) →
      IsFirstCovered spec ctx e most found → IsFirstPlain spec goal most found
  first_of_goal ctx at None h = λ y p. h y (subst (λ (ss : List SortId). IsCovered spec ss e most y) (sym at)
      (plain_covered y p))
  first_of_goal ctx at (Some x) h = (
    covered_plain x.0 (subst (λ (ss : List SortId). IsCovered spec ss e most x.0) at h.0),
    λ y lt p. h.1 y lt (subst (λ (ss : List SortId). IsCovered spec ss e most y) (sym at) (plain_covered y p)),
  )

-- a list of one item
pub one_item : (es : List Equation) (d : Equation) → length es ≡ 1 → d ≡ get_or es 0 d → es ≡ d ∷ []
one_item [] d n at = absurd (omega (arith, n))
one_item (e ∷ []) d n at = ap (λ (z : Equation). z ∷ []) (sym at)
one_item (e ∷ f ∷ es) d n at = absurd (omega (arith, n))
