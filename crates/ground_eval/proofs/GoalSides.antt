-- The sides of a goal under values of its variables.
use Rattle.std.proofs.Common.{◌≡◌, ◌≢◌, ℕ, zero, suc, List, [], ◌∷◌, Some, None, refl, get_or, subst}
use Rattle.std.specs.Prelude.{slice_get}
use Rattle.std.specs.List.{AllByRecursion}
use Rattle.term_core.specs.Tree.{Tree, Trees, var, app, none, some, instance}
use Rattle.term_core.specs.declared.ids.SortId.{SortId}
use Rattle.spec_core.specs.declared.records.Equation.{Equation}
use Rattle.spec_core.specs.declared.records.Goal.{Goal}
use Rattle.spec_core.specs.declared.records.Spec.{Spec}
use Rattle.spec_core.specs.declared.records.Verdict.{Verdict}
use Rattle.spec_core.specs.declared.records.Verdict.TheVariants.{Holds, Fails, Spent}
use Rattle.spec_core.specs.Sig.{Sig}
use Rattle.spec_core.specs.Sorts.{Sorted, IsBuilt, AreBuilt}
use Rattle.spec_core.specs.WellSorted.{IsWellSorted, EquationsAreSorted, sorts_of}
use Rattle.spec_core.specs.Overlap.{NoOverlap}
use Rattle.spec_core.specs.Groups.{GroupsAreWhole}
use Rattle.spec_core.specs.Truth.{AreValuesOf, GoalFails}
use Rattle.spec_core.specs.Verdict.{IsVerdict}
use Rattle.spec_core.proofs.Instances.{sorted_instance}
use Rattle.spec_core.proofs.OneVerdict.{AreReady, one_verdict}
use Rattle.value_bank.specs.Ground.{IsGround, AreGround}
use Rattle.ground_eval.specs.Sides.{HasOneSort, IsDecided}

pub values_built : (spec : Spec) (ss : List SortId) (vs : List Tree) → AreValuesOf spec ss vs →
    AllByRecursion (IsBuilt spec.sig) vs
values_built spec [] [] h = tt
values_built spec [] (v ∷ vs) h = absurd h
values_built spec (s ∷ ss) [] h = absurd h
values_built spec (s ∷ ss) (v ∷ vs) h = (h.0.1, values_built spec ss vs h.1)

mutual
  built_ground : (sig : Sig) (t : Tree) → IsBuilt sig t → IsGround t
  built_ground sig (var n) h = absurd h
  built_ground sig (app f ts) h = all_ground sig ts h.1

  all_ground : (sig : Sig) (ts : Trees) → AreBuilt sig ts → AreGround ts
  all_ground sig none h = tt
  all_ground sig (some t ts) h = (built_ground sig t h.0, all_ground sig ts h.1)

-- values have no variables
pub values_ground : (spec : Spec) (ss : List SortId) (vs : List Tree) → AreValuesOf spec ss vs →
    AllByRecursion IsGround vs
values_ground spec [] [] h = tt
values_ground spec [] (v ∷ vs) h = absurd h
values_ground spec (s ∷ ss) [] h = absurd h
values_ground spec (s ∷ ss) (v ∷ vs) h = (built_ground spec.sig v h.0.1, values_ground spec ss vs h.1)

value_sorted : (spec : Spec) (ss : List SortId) (vs : List Tree) → AreValuesOf spec ss vs →
    (n m : ℕ) (u : SortId) → slice_get ss n ≡ Some u → Sorted spec.sig [] (get_or vs n (var m)) u
value_sorted spec [] vs h n m u e = absurd (let q : None ≡ Some u = e in cc)
value_sorted spec (s ∷ ss) [] h n m u e = absurd h
value_sorted spec (s ∷ ss) (v ∷ vs) h zero m u e =
    let q : Some s ≡ Some u = e in
    let k : s ≡ u = cc in
    subst (λ x. Sorted spec.sig [] v x) k h.0.0
value_sorted spec (s ∷ ss) (v ∷ vs) h (suc n) m u e = value_sorted spec ss vs h.1 n m u e

-- a sorted term has its sort under values of its variables
pub sorted_under : (spec : Spec) (ss : List SortId) (vs : List Tree) (t : Tree) (s : SortId) →
    AreValuesOf spec ss vs → Sorted spec.sig ss t s → Sorted spec.sig [] (instance vs t) s
sorted_under spec ss vs t s values sorted = sorted_instance spec.sig ss t s vs sorted
    (λ (n : ℕ) (u : SortId) (q : slice_get ss n ≡ Some u). value_sorted spec ss vs values n n u q)

-- both sides of a sorted equation have one sort under values of its variables
pub sides_sorted : (spec : Spec) (ss : List SortId) (vs : List Tree) (es : List Equation) (i : ℕ)
    (e : Equation) → AreValuesOf spec ss vs → EquationsAreSorted spec.sig ss es → slice_get es i ≡ Some e →
    (s : SortId) × Sorted spec.sig [] (instance vs e.left) s × Sorted spec.sig [] (instance vs e.right) s
sides_sorted spec ss vs es i e values fine at =
    let f = fine i e at in
    (f.0, sorted_under spec ss vs e.left f.0 values f.1, sorted_under spec ss vs e.right f.0 values f.2)

-- and so have the sides of each sorted equation
pub have_one_sort : (spec : Spec) (ss : List SortId) (vs : List Tree) (es : List Equation) →
    AreValuesOf spec ss vs → EquationsAreSorted spec.sig ss es → AllByRecursion (HasOneSort spec vs) es
have_one_sort spec ss vs [] v h = tt
have_one_sort spec ss vs (e ∷ es) v h = (
  sides_sorted spec ss vs (e ∷ es) 0 e v h refl,
  have_one_sort spec ss vs es v (λ k x at. h (suc k) x at),
)

module _ (spec : Spec) (fine : IsWellSorted spec) (apart : NoOverlap spec) (whole : GroupsAreWhole spec)
    (values : List Tree) (budget : ℕ) where
  pub sides_ready : (ss : List SortId) (es : List Equation) → AreValuesOf spec ss values →
      EquationsAreSorted spec.sig ss es → AreReady spec fine apart whole values budget es
  sides_ready ss [] v h = tt
  sides_ready ss (e ∷ es) v h =
      (sides_sorted spec ss values (e ∷ es) 0 e v h refl, sides_ready ss es v (λ k x at. h (suc k) x at))

  -- a goal of the specification has one verdict
  pub goal_verdict-unique : (goal : Goal) (k : ℕ) → slice_get spec.goals k ≡ Some goal →
      AreValuesOf spec (sorts_of goal.vars) values → (p q : Verdict) → IsVerdict spec values budget goal p →
      IsVerdict spec values budget goal q → p ≡ q
  goal_verdict-unique goal k at v p q a b =
      let here = fine.goals k goal at in
      one_verdict spec fine apart whole values budget goal.premises goal.conclusions
      (sides_ready (sorts_of goal.vars) goal.premises v here.premises)
      (sides_ready (sorts_of goal.vars) goal.conclusions v here.conclusions) p q a b

-- what a decided verdict says, in any case and by itself
module _ (spec : Spec) (values : List Tree) (budget : ℕ) (goal : Goal) where
  pub decided_verdict : (r : Verdict) → IsDecided spec values budget goal r → NoOverlap spec →
      GroupsAreWhole spec → IsVerdict spec values budget goal r
  decided_verdict Holds h apart whole = h
  decided_verdict Fails h apart whole = h.0
  decided_verdict Spent h apart whole = h apart whole

  pub decided_sure : (r : Verdict) → IsDecided spec values budget goal r → r ≢ Spent →
      IsVerdict spec values budget goal r
  decided_sure Holds h sure = h
  decided_sure Fails h sure = h.0
  decided_sure Spent h sure = absurd (sure refl)

  pub decided_fails : (r : Verdict) → IsDecided spec values budget goal r → r ≡ Fails → GoalFails spec values goal
  decided_fails Holds h is = absurd (let q : Holds ≡ Fails = is in cc)
  decided_fails Fails h is = h.1
  decided_fails Spent h is = absurd (let q : Spent ≡ Fails = is in cc)
