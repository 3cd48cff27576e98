-- The walk over the sides of a goal.
use Rattle.std.proofs.Common.{◌≡◌, ℕ, zero, suc, List, [], ◌∷◌, Some, inl, inr, refl, take, drop}
use Rattle.std.specs.Prelude.{slice_get}
use Rattle.std.specs.List.{AllByRecursion}
use Rattle.term_core.specs.Tree.{Tree}
use Rattle.spec_core.specs.declared.records.Equation.{Equation}
use Rattle.spec_core.specs.declared.records.Goal.{Goal}
use Rattle.spec_core.specs.declared.records.Spec.{Spec}
use Rattle.spec_core.specs.declared.records.Verdict.{Verdict}
use Rattle.spec_core.specs.declared.records.Verdict.TheVariants.{Holds, Fails, Spent}
use Rattle.spec_core.specs.Truth.{AllHold, AllBroken}
use Rattle.spec_core.specs.Verdict.{SidesSame, SidesDiffer, ConclusionsSay, PremisesSay}
use Rattle.ground_eval.specs.declared.answers.Sides.TheVariants.{Differ, Spent as SidesAreSpent}
use Rattle.ground_eval.specs.Sides.{SidesAre, PremisesAre, ConclusionsAre, IsDecided}
use Rattle.term_core.proofs.Items.{drop_here}

module _ (spec : Spec) (values : List Tree) (budget : ℕ) where
  -- after premises whose sides are the same the rest decides
  pub premises_after : (es cs : List Equation) (i : ℕ) (r : Verdict) →
      AllByRecursion (SidesSame spec values budget) (take i es) →
      PremisesSay spec values budget (drop i es) cs r → PremisesSay spec values budget es cs r
  premises_after es cs zero r a h = h
  premises_after [] cs (suc i) r a h = h
  premises_after (e ∷ es) cs (suc i) r a h = inr (inr (a.0, premises_after es cs i r a.1 h))

  -- after conclusions whose sides differ the rest decides
  pub conclusions_after : (es : List Equation) (i : ℕ) (r : Verdict) →
      AllByRecursion (SidesDiffer spec values budget) (take i es) →
      ConclusionsSay spec values budget (drop i es) r → ConclusionsSay spec values budget es r
  conclusions_after es zero r a h = h
  conclusions_after [] (suc i) r a h = h
  conclusions_after (e ∷ es) (suc i) r a h = inr (inr (a.0, conclusions_after es i r a.1 h))

  module _ (es : List Equation) (i : ℕ) (e : Equation) (at : slice_get es i ≡ Some e) where
    pub premise_differs : AllByRecursion (SidesSame spec values budget) (take i es) →
        SidesDiffer spec values budget e → PremisesAre spec values budget es Differ
    premise_differs a h cs = premises_after es cs i Holds a (rw (drop_here es i e at) (inr (inl (h, refl))))

    pub premise_spent : AllByRecursion (SidesSame spec values budget) (take i es) →
        SidesAre spec values budget e SidesAreSpent → PremisesAre spec values budget es SidesAreSpent
    premise_spent a h apart whole cs = premises_after es cs i Spent a
        (rw (drop_here es i e at) (inl (h apart whole, refl)))

    pub conclusion_holds : AllByRecursion (SidesDiffer spec values budget) (take i es) →
        SidesSame spec values budget e → ConclusionsAre spec values budget es Holds
    conclusion_holds a h = conclusions_after es i Holds a (rw (drop_here es i e at) (inr (inl (h, refl))))

    pub conclusion_spent : AllByRecursion (SidesDiffer spec values budget) (take i es) →
        SidesAre spec values budget e SidesAreSpent → ConclusionsAre spec values budget es Spent
    conclusion_spent a h apart whole = conclusions_after es i Spent a
        (rw (drop_here es i e at) (inl (h apart whole, refl)))

  premises_whole : (es cs : List Equation) (r : Verdict) → AllByRecursion (SidesSame spec values budget) es →
      ConclusionsSay spec values budget cs r → PremisesSay spec values budget es cs r
  premises_whole [] cs r a h = h
  premises_whole (e ∷ es) cs r a h = inr (inr (a.0, premises_whole es cs r a.1 h))

  conclusions_whole : (es : List Equation) → AllByRecursion (SidesDiffer spec values budget) es →
      ConclusionsSay spec values budget es Fails
  conclusions_whole [] a = refl
  conclusions_whole (e ∷ es) a = inr (inr (a.0, conclusions_whole es a.1))

  all_hold : (es : List Equation) → AllByRecursion (SidesSame spec values budget) es → AllHold spec values es
  all_hold [] a = tt
  all_hold (e ∷ es) a = ((a.0.0, a.0.1.0, a.0.2.0, a.0.1.1, a.0.2.1), all_hold es a.1)

  all_broken : (es : List Equation) → AllByRecursion (SidesDiffer spec values budget) es → AllBroken spec values es
  all_broken [] a = tt
  all_broken (e ∷ es) a = ((a.0.0, a.0.1, a.0.3.0, a.0.4.0, a.0.2, a.0.3.1, a.0.4.1), all_broken es a.1)

  -- the goal's verdict is that of its conclusions if each premise holds
  pub conclusions_decide : (goal : Goal) → AllByRecursion (SidesSame spec values budget) goal.premises →
      (r : Verdict) → ConclusionsAre spec values budget goal.conclusions r → IsDecided spec values budget goal r
  conclusions_decide goal a Holds h = premises_whole goal.premises goal.conclusions Holds a h
  conclusions_decide goal a Fails h = (
    premises_whole goal.premises goal.conclusions Fails a
        (conclusions_whole goal.conclusions h),
    (all_hold goal.premises a, all_broken goal.conclusions h),
  )
  conclusions_decide goal a Spent h = λ apart whole. premises_whole goal.premises goal.conclusions Spent a
      (h apart whole)
