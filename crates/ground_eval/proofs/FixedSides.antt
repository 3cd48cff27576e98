-- Sides whose variables all have values give the same with constants as without.
use Rattle.std.proofs.Common.{◌≡◌, ◌<◌, ℕ, suc, List, [], ◌∷◌, Some, inl, inr, refl, sym, ◌∙◌, subst, arith, length}
use Rattle.std.proofs.Common.{map}
use Rattle.std.specs.Prelude.{slice_get}
use Rattle.std.specs.List.{AllByRecursion}
use Rattle.term_core.specs.Tree.{Tree, Trees, var, app, none, some, instance}
use Rattle.term_core.specs.Variables.{OccursAny}
use Rattle.term_core.specs.declared.ids.SortId.{SortId}
use Rattle.spec_core.specs.declared.records.Equation.{Equation}
use Rattle.spec_core.specs.declared.records.Goal.{Goal}
use Rattle.spec_core.specs.declared.records.Spec.{Spec}
use Rattle.spec_core.specs.declared.records.Verdict.{Verdict}
use Rattle.spec_core.specs.declared.records.Verdict.TheVariants.{Holds, Fails, Spent}
use Rattle.spec_core.specs.Sig.{Sig}
use Rattle.spec_core.specs.Sorts.{IsBuilt, AreBuilt}
use Rattle.spec_core.specs.WellSorted.{IsWellSorted, EquationsAreSorted, GoalIsSorted, sorts_of}
use Rattle.spec_core.specs.Gives.{Gives}
use Rattle.spec_core.specs.Truth.{AllHold, AllBroken}
use Rattle.spec_core.specs.Verdict.{SideGives, SideSpent, SidesSpent, SidesSame, SidesDiffer, ConclusionsSay}
use Rattle.spec_core.specs.Verdict.{PremisesSay}
use Rattle.spec_core.proofs.Determined.{occurs_within}
use Rattle.open_evaluation.specs.Shifted.{shifted, closed, shifted_equation, shifted_goal}
use Rattle.open_evaluation.proofs.Apart.{apart_still, whole_still}
use Rattle.open_evaluation.specs.OpenGives.{IsOpen, AreOpen, VariablesAreBelow, HasNoVariable}
use Rattle.open_evaluation.proofs.ClosedTerms.{value_stays, closed_by_entries}
use Rattle.open_evaluation.proofs.Instancing.{gives_closed}
use Rattle.open_evaluation.proofs.Occurring.{below_instance}
use Rattle.open_evaluation.proofs.OpenValues.{gives_open, keeps_below, opens}
use Rattle.open_evaluation.proofs.OpenWalks.{built_closed}
use Rattle.open_evaluation.proofs.OutOfConstants.{gives_out}
use Rattle.open_evaluation.proofs.WithConstants.{gives_with}
use Rattle.std.proofs.lemmas.List.Elements.{All-from_recursion}
use Rattle.ground_eval.specs.Opened.{Extends}
use Rattle.ground_eval.specs.Sides.{IsDecided}

-- an open value without variables is built
mutual
  pub closed_is_built : (sig : Sig) (v : Tree) → IsOpen sig v → HasNoVariable v → IsBuilt sig v
  closed_is_built sig (var n) o h = h n refl
  closed_is_built sig (app f ts) o h = (o.0, closed_are_built sig ts o.1 h)

  closed_are_built : (sig : Sig) (vs : Trees) → AreOpen sig vs → ((k : ℕ) → OccursAny k vs → ⊥) → AreBuilt sig vs
  closed_are_built sig none o h = tt
  closed_are_built sig (some v vs) o h = (
    closed_is_built sig v o.0 (λ k p. h k (inl p)),
    closed_are_built sig vs o.1 (λ k p. h k (inr p)),
  )

-- values keep their symbols
pub all_stay : (sig : Sig) (u : ℕ) (xs : List Tree) → AllByRecursion (IsBuilt sig) xs →
    map (closed sig.constructors u) xs ≡ xs
all_stay sig u [] b = refl
all_stay sig u (x ∷ xs) b =
    let p = value_stays sig u x b.0 in
    let q = all_stay sig u xs b.1 in
    cc

module _ (old new : Spec) (sorts : List SortId) (fine : IsWellSorted old) (extends : Extends old new sorts)
    (values : List Tree) (all_built : AllByRecursion (IsBuilt old.sig) values) where
  abbrev c : ℕ
  c = old.sig.constructors

  abbrev u : ℕ
  u = length sorts

  abbrev Fits : Tree → Type 0
  Fits t = VariablesAreBelow (length values) t

  entry_closed : (k : ℕ) → k < length values → HasNoVariable (instance values (var k))
  entry_closed k lt = built_closed old.sig (instance values (var k))
      (All-from_recursion (IsBuilt old.sig) values all_built k (var k) lt)

  closed_here : (t : Tree) → Fits t → HasNoVariable (instance values t)
  closed_here t fits j o =
      let z = below_instance 0 values t (λ k p i q. absurd (entry_closed k (fits k p) i q)) j o in
      omega (arith, z)

  there : (t : Tree) → Fits t → instance values (shifted c u t) ≡ closed c u (instance values t)
  there t fits = subst (λ (xs : List Tree). instance xs (shifted c u t) ≡ closed c u (instance values t))
      (all_stay old.sig u values all_built) (closed_by_entries c u values t fits)

  stays : (v : Tree) → IsOpen old.sig v → HasNoVariable v → closed c u v ≡ v
  stays v o h = value_stays old.sig u v (closed_is_built old.sig v o h)

  -- with constants a side gives what it gives
  gives_same : (t v : Tree) (n : ℕ) → Fits t → Gives old (instance values t) v n →
      Gives new (instance values (shifted c u t)) v n
  gives_same t v n fits g =
      let o = opens old g in
      let none = closed_here t fits in
      let h = gives_with old new sorts fine extends.more o (λ k p. absurd (none k p)) in
      let e = stays v (gives_open old o)
      (λ k p. (let z = keeps_below old fine 0 o (λ j q. absurd (none j q)) k p in omega (arith, z))) in
      subst (λ (x : Tree). Gives new x v n) (sym (there t fits))
      (subst (λ (x : Tree). Gives new (closed c u (instance values t)) x n) e h)

  gives_back : (t v : Tree) (n : ℕ) → Fits t → Gives new (instance values (shifted c u t)) v n →
      Gives old (instance values t) v n
  gives_back t v n fits g =
      let none = closed_here t fits in
      let r = gives_out old new sorts fine extends.more (subst (λ (x : Tree). Gives new x v n) (there t fits) g)
      (instance values t) (λ k p. absurd (none k p)) refl in
      let e = stays r.0 (gives_open old r.2)
      (λ k p. (let z = keeps_below old fine 0 r.2 (λ j q. absurd (none j q)) k p in omega (arith, z))) in
      subst (λ (x : Tree). Gives old (instance values t) x n) (sym (r.1 ∙ e))
      (gives_closed old fine (instance values t) r.0 n none r.2)

  module _ (budget : ℕ) where
    abbrev IsWithin : Equation → Type 0
    IsWithin e = Fits e.left × Fits e.right

    abbrev AreWithin : List Equation → Type 0
    AreWithin es = (k : ℕ) (e : Equation) → slice_get es k ≡ Some e → IsWithin e

    side_back : (t v : Tree) → Fits t → SideGives new values budget (shifted c u t) v → SideGives old values budget t v
    side_back t v fits h = (h.0, gives_back t v h.0 fits h.1, h.2)

    spent_back : (t : Tree) → Fits t → SideSpent new values budget (shifted c u t) → SideSpent old values budget t
    spent_back t fits h v n g le = h v n (gives_same t v n fits g) le

    sides_spent_back : (e : Equation) → IsWithin e → SidesSpent new values budget (shifted_equation c u e) →
        SidesSpent old values budget e
    sides_spent_back e w (inl h) = inl (spent_back e.left w.0 h)
    sides_spent_back e w (inr h) = inr (h.0, side_back e.left h.0 w.0 h.1, spent_back e.right w.1 h.2)

    same_back : (e : Equation) → IsWithin e → SidesSame new values budget (shifted_equation c u e) →
        SidesSame old values budget e
    same_back e w h = (h.0, side_back e.left h.0 w.0 h.1, side_back e.right h.0 w.1 h.2)

    differ_back : (e : Equation) → IsWithin e → SidesDiffer new values budget (shifted_equation c u e) →
        SidesDiffer old values budget e
    differ_back e w h = (h.0, h.1, h.2, side_back e.left h.0 w.0 h.3, side_back e.right h.1 w.1 h.4)

    conclusions_back : (es : List Equation) (r : Verdict) → AreWithin es →
        ConclusionsSay new values budget (map (shifted_equation c u) es) r → ConclusionsSay old values budget es r
    conclusions_back [] r w h = h
    conclusions_back (e ∷ es) r w (inl h) = inl (sides_spent_back e (w 0 e refl) h.0, h.1)
    conclusions_back (e ∷ es) r w (inr (inl h)) = inr (inl (same_back e (w 0 e refl) h.0, h.1))
    conclusions_back (e ∷ es) r w (inr (inr h)) = inr
        (inr (differ_back e (w 0 e refl) h.0, conclusions_back es r (λ k x at. w (suc k) x at) h.1))

    premises_back : (es cs : List Equation) (r : Verdict) → AreWithin es → AreWithin cs →
        PremisesSay new values budget (map (shifted_equation c u) es) (map (shifted_equation c u) cs) r →
        PremisesSay old values budget es cs r
    premises_back [] cs r w x h = conclusions_back cs r x h
    premises_back (e ∷ es) cs r w x (inl h) = inl (sides_spent_back e (w 0 e refl) h.0, h.1)
    premises_back (e ∷ es) cs r w x (inr (inl h)) = inr (inl (differ_back e (w 0 e refl) h.0, h.1))
    premises_back (e ∷ es) cs r w x (inr (inr h)) = inr
        (inr (same_back e (w 0 e refl) h.0, premises_back es cs r (λ k y at. w (suc k) y at) x h.1))

    all_hold_back : (es : List Equation) → AreWithin es → AllHold new values (map (shifted_equation c u) es) →
        AllHold old values es
    all_hold_back [] w h = tt
    all_hold_back (e ∷ es) w h = (
      (
        h.0.0,
        h.0.1,
        h.0.2,
        gives_back e.left h.0.0 h.0.1 (w 0 e refl).0 h.0.3,
        gives_back e.right h.0.0 h.0.2 (w 0 e refl).1 h.0.4,
      ),
      all_hold_back es (λ k x at. w (suc k) x at) h.1,
    )

    all_broken_back : (es : List Equation) → AreWithin es →
        AllBroken new values (map (shifted_equation c u) es) → AllBroken old values es
    all_broken_back [] w h = tt
    all_broken_back (e ∷ es) w h = (
      (
        h.0.0,
        h.0.1,
        h.0.2,
        h.0.3,
        h.0.4,
        gives_back e.left h.0.0 h.0.2 (w 0 e refl).0 h.0.5,
        gives_back e.right h.0.1 h.0.3 (w 0 e refl).1 h.0.6,
      ),
      all_broken_back es (λ k x at. w (suc k) x at) h.1,
    )

    within : (ctx : List SortId) (es : List Equation) → length ctx ≡ length values →
        EquationsAreSorted old.sig ctx es → AreWithin es
    within ctx es long sorted k e at =
        let h = sorted k e at in (
          λ j o. omega (arith, long, occurs_within old.sig ctx e.left h.0 h.1 j o),
          λ j o. omega (arith, long, occurs_within old.sig ctx e.right h.0 h.2 j o),
        )

    -- so the goal has the verdict that it has with constants
    pub decided_back : (goal : Goal) (r : Verdict) → GoalIsSorted old.sig goal →
        length (sorts_of goal.vars) ≡ length values → IsDecided new values budget (shifted_goal c u goal) r →
        IsDecided old values budget goal r
    decided_back goal Holds sorted long h = premises_back goal.premises goal.conclusions Holds
        (within (sorts_of goal.vars) goal.premises long sorted.premises)
        (within (sorts_of goal.vars) goal.conclusions long sorted.conclusions) h
    decided_back goal Fails sorted long h =
        let p = within (sorts_of goal.vars) goal.premises long sorted.premises in
        let q = within (sorts_of goal.vars) goal.conclusions long sorted.conclusions in (
          premises_back goal.premises goal.conclusions Fails p q h.0,
          (all_hold_back goal.premises p h.1.0, all_broken_back goal.conclusions q h.1.1),
        )
    decided_back goal Spent sorted long h = λ apart whole. premises_back goal.premises goal.conclusions Spent
        (within (sorts_of goal.vars) goal.premises long sorted.premises)
        (within (sorts_of goal.vars) goal.conclusions long sorted.conclusions)
        (h (apart_still old new sorts extends.more fine extends.in_range apart)
        (whole_still old new sorts extends.more fine whole))
