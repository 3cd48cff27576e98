-- The walk over the sides of a goal when some variables have no value.
use Rattle.std.proofs.Common.{◌≡◌, ◌≤◌, ℕ, zero, suc, length, arith, List, [], ◌∷◌, Option, Some, None, inl, inr, refl}
use Rattle.std.proofs.Common.{sym, ◌∙◌, take, drop}
use Rattle.std.specs.Prelude.{slice_get}
use Rattle.std.specs.List.{AllByRecursion}
use Rattle.term_core.proofs.Items.{drop_here}
use Rattle.spec_core.specs.declared.records.Equation.{Equation}
use Rattle.spec_core.specs.declared.records.Goal.{Goal}
use Rattle.spec_core.specs.declared.records.Verdict.{Verdict}
use Rattle.spec_core.specs.declared.records.Verdict.TheVariants.{Holds, Fails}
use Rattle.spec_core.specs.Overlap.{NoOverlap}
use Rattle.spec_core.specs.Groups.{GroupsAreWhole}
use Rattle.open_evaluation.specs.OpenVerdict.{OpenConclusionsSay, OpenPremisesSay}
use Rattle.ground_eval.specs.declared.answers.OpenSides.TheVariants.{Same, Differ, Unknown}
use Rattle.ground_eval.specs.OpenSides.{Setting, SidesOpen, IsSame, IsDifferent, Isnt, PremisesOpen, ConclusionsOpen}
use Rattle.ground_eval.specs.OpenSides.{GoalOpens}

-- what holds of the items before a place holds of all if there are no more
pub all_taken : {X : Type 0} (P : X → Type 0) (xs : List X) (n : ℕ) → length xs ≤ n →
    AllByRecursion P (take n xs) → AllByRecursion P xs
all_taken P [] n le a = tt
all_taken P (x ∷ xs) zero le a = absurd (omega (arith, le))
all_taken P (x ∷ xs) (suc n) le a = (a.0, all_taken P xs n (omega (arith, le)) a.1)

module _ (s : Setting) (budget : ℕ) where
  abbrev pub IsSo : Equation → Type 0
  IsSo e = SidesOpen s budget e Same

  abbrev pub Apart : Equation → Type 0
  Apart e = SidesOpen s budget e Differ

  abbrev Premises : List Equation → List Equation → Verdict → Type 0
  Premises = OpenPremisesSay s.spec s.values budget

  abbrev Conclusions : List Equation → Verdict → Type 0
  Conclusions = OpenConclusionsSay s.spec s.values budget

  -- after premises whose sides are the same the rest decides
  premises_after : (es cs : List Equation) (i : ℕ) (r : Verdict) → AllByRecursion IsSo (take i es) →
      Premises (drop i es) cs r → Premises es cs r
  premises_after es cs zero r a h = h
  premises_after [] cs (suc i) r a h = h
  premises_after (e ∷ es) cs (suc i) r a h = inr (a.0.0, premises_after es cs i r a.1 h)

  -- and if it says nothing, all say nothing
  premises_still : (es cs : List Equation) (i : ℕ) (r : Verdict) → AllByRecursion IsSo (take i es) →
      Isnt s (Premises (drop i es) cs r) → Isnt s (Premises es cs r)
  premises_still es cs zero r a h = h
  premises_still [] cs (suc i) r a h = h
  premises_still (e ∷ es) cs (suc i) r a h = λ apart whole x. elim x [
    | inl y ↦ a.0.1 apart whole y.0
    | inr y ↦ premises_still es cs i r a.1 h apart whole y.1
  ]

  conclusions_after : (es : List Equation) (i : ℕ) (r : Verdict) → AllByRecursion Apart (take i es) →
      Conclusions (drop i es) r → Conclusions es r
  conclusions_after es zero r a h = h
  conclusions_after [] (suc i) r a h = h
  conclusions_after (e ∷ es) (suc i) r a h = inr (a.0.0, conclusions_after es i r a.1 h)

  conclusions_still : (es : List Equation) (i : ℕ) (r : Verdict) → AllByRecursion Apart (take i es) →
      Isnt s (Conclusions (drop i es) r) → Isnt s (Conclusions es r)
  conclusions_still es zero r a h = h
  conclusions_still [] (suc i) r a h = h
  conclusions_still (e ∷ es) (suc i) r a h = λ apart whole x. elim x [
    | inl y ↦ a.0.1 apart whole y.0
    | inr y ↦ conclusions_still es i r a.1 h apart whole y.1
  ]

  no_premise : (e : Equation) (es cs : List Equation) (r : Verdict) → SidesOpen s budget e Unknown →
      Isnt s (Premises (e ∷ es) cs r)
  no_premise e es cs r u apart whole (inl x) = u.1 apart whole x.0
  no_premise e es cs r u apart whole (inr x) = u.0 apart whole x.0

  no_conclusion : (e : Equation) (es : List Equation) (r : Verdict) → SidesOpen s budget e Unknown →
      Isnt s (Conclusions (e ∷ es) r)
  no_conclusion e es r u apart whole (inl x) = u.0 apart whole x.0
  no_conclusion e es r u apart whole (inr x) = u.1 apart whole x.0

  module _ (es : List Equation) (i : ℕ) (e : Equation) (at : slice_get es i ≡ Some e) where
    pub premise_differs : AllByRecursion IsSo (take i es) → SidesOpen s budget e Differ →
        PremisesOpen s budget es Differ
    premise_differs a h cs = premises_after es cs i Holds a (rw (drop_here es i e at) (inl (h.0, refl)))

    pub premise_unknown : AllByRecursion IsSo (take i es) → SidesOpen s budget e Unknown →
        PremisesOpen s budget es Unknown
    premise_unknown a h cs r = premises_still es cs i r a (rw (drop_here es i e at) (no_premise e _ cs r h))

    pub conclusion_same : AllByRecursion Apart (take i es) → SidesOpen s budget e Same →
        ConclusionsOpen s budget es (Some Holds)
    conclusion_same a h = conclusions_after es i Holds a (rw (drop_here es i e at) (inl (h.0, refl)))

    pub conclusion_unknown : AllByRecursion Apart (take i es) → SidesOpen s budget e Unknown →
        ConclusionsOpen s budget es None
    conclusion_unknown a h r = conclusions_still es i r a (rw (drop_here es i e at) (no_conclusion e _ r h))

  pub all_differ : (es : List Equation) → AllByRecursion Apart es → ConclusionsOpen s budget es (Some Fails)
  all_differ [] a = refl
  all_differ (e ∷ es) a = inr (a.0.0, all_differ es a.1)

  -- if each premise holds, the conclusions decide
  pub conclusions_say : (es cs : List Equation) (r : Verdict) → PremisesOpen s budget es Same →
      Conclusions cs r → Premises es cs r
  conclusions_say [] cs r a h = h
  conclusions_say (e ∷ es) cs r a h = inr (a.0.0, conclusions_say es cs r a.1 h)

  pub conclusions_silent : (es cs : List Equation) (r : Verdict) → PremisesOpen s budget es Same →
      Isnt s (Conclusions cs r) → Isnt s (Premises es cs r)
  conclusions_silent [] cs r a h = h
  conclusions_silent (e ∷ es) cs r a h = λ apart whole x. elim x [
    | inl y ↦ a.0.1 apart whole y.0
    | inr y ↦ conclusions_silent es cs r a.1 h apart whole y.1
  ]

  -- so the goal's verdict is that of its conclusions
  pub goal_opens : (goal : Goal) (r : Option Verdict) → PremisesOpen s budget goal.premises Same →
      ConclusionsOpen s budget goal.conclusions r → GoalOpens s budget goal r
  goal_opens goal (Some r) a h = conclusions_say goal.premises goal.conclusions r a h
  goal_opens goal None a h = λ r. conclusions_silent goal.premises goal.conclusions r a (h r)

  -- if no sides are both, the walk has one verdict
  module _ (apart : NoOverlap s.spec) (whole : GroupsAreWhole s.spec) where
    abbrev pub NoneIsBoth : List Equation → Type 0
    NoneIsBoth es = (k : ℕ) (e : Equation) → slice_get es k ≡ Some e → IsSame s budget e →
        Isnt s (IsDifferent s budget e)

    one_conclusion : (es : List Equation) (p q : Verdict) → NoneIsBoth es → Conclusions es p → Conclusions es q → p ≡ q
    one_conclusion [] p q h x y = x ∙ sym y
    one_conclusion (e ∷ es) p q h (inl x) (inl y) = x.1 ∙ sym y.1
    one_conclusion (e ∷ es) p q h (inl x) (inr y) = absurd (h 0 e refl x.0 apart whole y.0)
    one_conclusion (e ∷ es) p q h (inr x) (inl y) = absurd (h 0 e refl y.0 apart whole x.0)
    one_conclusion (e ∷ es) p q h (inr x) (inr y) = one_conclusion es p q (λ k d at. h (suc k) d at) x.1 y.1

    pub one_open_verdict : (es cs : List Equation) (p q : Verdict) → NoneIsBoth es → NoneIsBoth cs →
        Premises es cs p → Premises es cs q → p ≡ q
    one_open_verdict [] cs p q h i x y = one_conclusion cs p q i x y
    one_open_verdict (e ∷ es) cs p q h i (inl x) (inl y) = x.1 ∙ sym y.1
    one_open_verdict (e ∷ es) cs p q h i (inl x) (inr y) = absurd (h 0 e refl y.0 apart whole x.0)
    one_open_verdict (e ∷ es) cs p q h i (inr x) (inl y) = absurd (h 0 e refl x.0 apart whole y.0)
    one_open_verdict (e ∷ es) cs p q h i (inr x) (inr y) = one_open_verdict es cs p q (λ k d at. h (suc k) d at)
        i x.1 y.1
