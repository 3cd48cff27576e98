-- The variables of a sorted clause are those of its leading equation, and those of each side of its
-- only conclusion that has them all.
use Rattle.std.proofs.Common.{◌≡◌, ℕ, suc, ◌<◌, List, [], ◌∷◌, ◌++◌, Bool, true, false, inl, inr, refl, ap, subst}
use Rattle.std.proofs.Common.{length}
use Rattle.std.specs.Prelude.{slice_get}
use Rattle.std.specs.List.{AllByRecursion}
use Rattle.term_core.specs.Tree.{Tree, trees_of}
use Rattle.term_core.specs.Variables.{OccursAny}
use Rattle.term_core.specs.declared.ids.SortId.{SortId}
use Rattle.term_core.proofs.Items.{all_append}
use Rattle.spec_core.specs.declared.records.Equation.{Equation}
use Rattle.spec_core.specs.Sig.{Sig}
use Rattle.spec_core.specs.Sorts.{Sorted}
use Rattle.spec_core.specs.WellSorted.{EquationsAreSorted}
use Rattle.spec_core.proofs.Determined.{occurs_within}
use Rattle.clause_core.specs.declared.clauses.Clause.{Clause}
use Rattle.clause_core.specs.Clauses.{ClauseIsSorted}
use Rattle.clause_core.specs.Places.{side}
use Rattle.fitting_lists.specs.Fitting.{Located, both_sides, has_all, located, leading}
use Rattle.fitting_lists.specs.Answering.{AreVariables}
use Rattle.fitting_lists.proofs.AllItems.{all_taken, all_kept}
use Rattle.fitting_lists.proofs.VariableTests.{all_occur}

-- the variables of the terms are below this number
abbrev AreWithin : ℕ → List Tree → Type 0
AreWithin count ts = (n : ℕ) → OccursAny n (trees_of ts) → n < count

module _ (sig : Sig) (ctx : List SortId) where
  -- both sides have one sort
  abbrev IsSorted : Equation → Type 0
  IsSorted e = (s : SortId) × Sorted sig ctx e.left s × Sorted sig ctx e.right s

  left_within : (e : Equation) → IsSorted e → AreWithin (length ctx) (e.left ∷ [])
  left_within e h n (inl o) = occurs_within sig ctx e.left h.0 h.1 n o
  left_within e h n (inr o) = absurd o

  right_within : (e : Equation) → IsSorted e → AreWithin (length ctx) (e.right ∷ [])
  right_within e h n (inl o) = occurs_within sig ctx e.right h.0 h.2 n o
  right_within e h n (inr o) = absurd o

  sides_within : (e : Equation) → IsSorted e → AreWithin (length ctx) (both_sides e)
  sides_within e h n (inl o) = occurs_within sig ctx e.left h.0 h.1 n o
  sides_within e h n (inr o) = right_within e h n o

  located_within :
      (k : Bool) (es : List Equation) → EquationsAreSorted sig ctx es →
      AllByRecursion (λ (e : Located). AreWithin (length ctx) (both_sides e.equation))
      (located k es)
  located_within k [] h = tt
  located_within k (e ∷ es) h =
      (sides_within e (h 0 e refl), located_within k es (λ n d at. h (suc n) d at))

module _ (sig : Sig) (c : Clause) (sorted : ClauseIsSorted sig c) where
  -- the terms have the variables of the clause
  abbrev HaveAll : List Tree → Type 0
  HaveAll ts = AreVariables (length c.ctx) ts

  have_all : (ts : List Tree) → AreWithin (length c.ctx) ts → has_all c ts ≡ true → HaveAll ts
  have_all ts within all n = (within n, all_occur c ts all n)

  abbrev LeadersHaveAll : List Located → Type 0
  LeadersHaveAll es = AllByRecursion (λ (e : Located). HaveAll (both_sides e.equation)) es

  -- the variables of the clause are those of the leading equation
  pub all_leading : LeadersHaveAll (leading c)
  all_leading =
      let Within : Located → Type 0 = λ e. AreWithin (length c.ctx) (both_sides e.equation) in
      let conclusions = located true c.conclusions in
      let premises = located false c.premises in
      all_taken _ 1 _ (
      all_kept Within _ (λ e. has_all c (both_sides e.equation)) (conclusions ++ premises)
      (λ e within all. have_all (both_sides e.equation) within all)
      (all_append Within conclusions premises
      (located_within sig c.ctx true c.conclusions sorted.conclusions)
      (located_within sig c.ctx false c.premises sorted.premises)))

  pub leading_variables :
      (e : Located) → leading c ≡ e ∷ [] → AreVariables (length c.ctx) (both_sides e.equation)
  leading_variables e is = (subst LeadersHaveAll is all_leading).0

  -- and those of a side of the only conclusion that has them all
  pub side_variables :
      (e : Equation) → c.conclusions ≡ e ∷ [] → (left : Bool) →
      has_all c (side left e ∷ []) ≡ true → AreVariables (length c.ctx) (side left e ∷ [])
  side_variables e alone left all = have_all (side left e ∷ []) (within left) all
    where
      is : IsSorted sig c.ctx e
      is = sorted.conclusions 0 e (ap (λ (es : List Equation). slice_get es 0) alone)

      within : (left : Bool) → AreWithin (length c.ctx) (side left e ∷ [])
      within true = left_within sig c.ctx e is
      within false = right_within sig c.ctx e is
