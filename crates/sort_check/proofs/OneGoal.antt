-- A raw goal stands for at most one goal: each variable has the one sort that it gets.
use Rattle.std.proofs.Common.{◌≡◌, ℕ, suc, ◌⊎◌, inl, inr, List, [], ◌∷◌, ◌++◌, Some, refl, ap, sym, ◌∙◌, subst, length}
use Rattle.std.proofs.Common.{take}
use Rattle.std.specs.List.{AllZip}
use Rattle.std.specs.Prelude.{slice_get}
use Rattle.term_core.specs.Tree.{Tree, Trees, var, app, none, some}
use Rattle.term_core.specs.declared.ids.SortId.{SortId}
use Rattle.spec_core.specs.declared.records.Equation.{Equation}
use Rattle.spec_core.specs.declared.records.Goal.{Goal}
use Rattle.spec_core.specs.declared.records.SymInfo.{SymInfo}
use Rattle.spec_core.specs.declared.records.VarInfo.{VarInfo}
use Rattle.spec_core.specs.Sig.{Sig, info_of, names_of}
use Rattle.spec_core.specs.Sorts.{Sorted, SortedAll}
use Rattle.spec_core.specs.Declarations.{AreNewNames, IsDeclared}
use Rattle.spec_core.specs.WellSorted.{EquationsAreSorted, sorts_of}
use Rattle.spec_core.specs.TermText.{variable_names}
use Rattle.spec_grammar.specs.RawTree.{RawTree, RawTrees, word, none as no_raws, some as more_raws}
use Rattle.spec_grammar.specs.declared.raw.RawBind.{RawBind}
use Rattle.spec_grammar.specs.declared.raw.RawEq.{RawEq}
use Rattle.spec_grammar.specs.declared.raw.RawGoal.{RawGoal}
use Rattle.sort_check.specs.Signatures.{SortStands}
use Rattle.sort_check.specs.Terms.{TermStands, TermsStand, EquationStands}
use Rattle.sort_check.specs.Inference.{IsBareVariable, IsTaken, IsAnyTaken, HasResult, IsEquation, Gets, bound}
use Rattle.sort_check.specs.Inference.{left_argument, right_argument, left_side, right_side, as_right, as_left}
use Rattle.sort_check.specs.Goals.{VariableStands, GoalStands}
use Rattle.sort_check.proofs.Names.{new_not, one_place, only_distinct, symbols_distinct, sorts_distinct}
use Rattle.sort_check.proofs.Pairs.{pairs_one, pairs_with}
use Rattle.sort_check.proofs.OneTerm.{one_equation}
use Rattle.sort_check.proofs.OneSignature.{one_sort}
use Rattle.sort_check.proofs.OneRule.{same_vars, name_of_place}
use Rattle.term_core.proofs.Items.{all_at}
use Rattle.term_core.proofs.Members.{In, in_contained}

in_either : {A : Type 0} (x : A) (xs ys : List A) → In x (xs ++ ys) → In x xs ⊎ In x ys
in_either x [] ys h = inr h
in_either x (y ∷ xs) ys (inl e) = inl (inl e)
in_either x (y ∷ xs) ys (inr h) = elim (in_either x xs ys h) [ inl a ↦ inl (inr a) | inr b ↦ inr b ]

-- the partner of one of the first list
partner : {X Y : Type 0} (R : X → Y → Type 0) (xs : List X) (ys : List Y) (x : X) → In x xs → AllZip R xs ys →
    (y : Y) × R x y
partner R [] ys x h p = absurd h
partner R (z ∷ xs) [] x h p = absurd p
partner R (z ∷ xs) (y ∷ ys) x (inl e) p = (y, subst (λ a. R a y) (sym e) p.0)
partner R (z ∷ xs) (y ∷ ys) x (inr h) p = partner R xs ys x h p.1

-- a binding's variable is among the first ones
bound_at : (sig : Sig) (binds : List RawBind) (vars : List VarInfo) (b : RawBind) → In b binds →
    AllZip (VariableStands sig) binds (take (length binds) vars) → (n : ℕ) × (s : SortId)
    × (slice_get (variable_names vars) n ≡ Some b.name.name) × (slice_get (sorts_of vars) n ≡ Some s)
    × SortStands sig.sorts b.sort s
bound_at sig [] vars b h p = absurd h
bound_at sig (a ∷ binds) [] b h p = absurd p
bound_at sig (a ∷ binds) (v ∷ vars) b (inl e) p =
    let q : VariableStands sig b v = subst (λ c. VariableStands sig c v) (sym e) p.0 in
    (0, v.sort, ap (λ n. Some n) q.0, refl, q.1)
bound_at sig (a ∷ binds) (v ∷ vars) b (inr h) p = let r = bound_at sig binds vars b h p.1 in
    (suc r.0, r.1, r.2, r.3, r.4)

-- terms over variables with distinct names and these sorts
module _ (sig : Sig) (distinct : AreNewNames [] (names_of sig)) (names : List (List ℕ))
    (different : AreNewNames [] names) (ctx : List SortId) where
  -- the variable has the sort
  abbrev Has : List ℕ → SortId → Type 0
  Has x s = (n : ℕ) → slice_get names n ≡ Some x → slice_get ctx n ≡ Some s

  has_at : (x : List ℕ) (s : SortId) (n : ℕ) → slice_get names n ≡ Some x → slice_get ctx n ≡ Some s → Has x s
  has_at x s n here is m there = ap (λ k. slice_get ctx k) (one_place [] names m n x different there here) ∙ is

  variable_has : (x : List ℕ) (s : SortId) (raw : RawTree) (t : Tree) → IsBareVariable sig x raw →
      TermStands sig names raw t → Sorted sig ctx t s → Has x s
  variable_has x s (word name at raws) (var n) v p is = has_at x s n (p.2 ∙ ap (λ m. Some m) v.0) is
  variable_has x s (word name at raws) (app f ts) v p is = absurd (new_not name (names_of sig) f v.2 p.0)

  has_sort : (x : List ℕ) (s u : SortId) (raw : RawTree) (t : Tree) → IsBareVariable sig x raw →
      TermStands sig names raw t → Has x s → Sorted sig ctx t u → u ≡ s
  has_sort x s u (word name at raws) (var n) v p has is = let e : Some u ≡ Some s = sym is
      ∙ has n (p.2 ∙ ap (λ m. Some m) v.0) in cc
  has_sort x s u (word name at raws) (app f ts) v p has is = absurd (new_not name (names_of sig) f v.2 p.0)

  result_sort : (s u : SortId) (raw : RawTree) (t : Tree) → HasResult sig raw s → TermStands sig names raw t →
      Sorted sig ctx t u → u ≡ s
  result_sort s u (word name at raws) (var n) h p is = absurd (new_not name (names_of sig) h.1.0 p.1 h.1.1)
  result_sort s u (word name at raws) (app f ts) h p is =
      let g : f ≡ h.1.0 = one_place [] (names_of sig) f h.1.0 name distinct p.0 h.1.1 in
      let e : Some is.0 ≡ Some h.0 = sym is.1 ∙ ap (λ k. info_of sig k) g ∙ h.1.2 in
      let i : is.0 ≡ h.0 = cc in
      sym is.2 ∙ ap (λ (j : SymInfo). j.result) i ∙ h.2

  mutual
    taken_has : (x : List ℕ) (s u : SortId) (raw : RawTree) (t : Tree) → IsTaken sig x s raw →
        TermStands sig names raw t → Sorted sig ctx t u → Has x s
    taken_has x s u (word name at raws) (var n) h p is = absurd (new_not name (names_of sig) h.1.0 p.1 h.1.1)
    taken_has x s u (word name at raws) (app f ts) h p is =
        let g : f ≡ h.1.0 = one_place [] (names_of sig) f h.1.0 name distinct p.0 h.1.1 in
        let e : Some is.0 ≡ Some h.0 = sym is.1 ∙ ap (λ k. info_of sig k) g ∙ h.1.2 in
        let i : is.0 ≡ h.0 = cc in
        any_taken_has x s raws ts h.0.args h.2 p.1 (subst (λ (j : SymInfo). SortedAll sig ctx ts j.args) i is.3)

    any_taken_has : (x : List ℕ) (s : SortId) (raws : RawTrees) (ts : Trees) (us : List SortId) →
        IsAnyTaken sig x s raws us → TermsStand sig names raws ts → SortedAll sig ctx ts us → Has x s
    any_taken_has x s no_raws ts us h p is = absurd h
    any_taken_has x s (more_raws r rs) none us h p is = absurd p
    any_taken_has x s (more_raws r rs) (some t ts) [] h p is = absurd h
    any_taken_has x s (more_raws r rs) (some t ts) (u ∷ us) (inl h) p is = variable_has x s r t h.0 p.0
        (subst (λ w. Sorted sig ctx t w) h.1 is.0)
    any_taken_has x s (more_raws r rs) (some t ts) (u ∷ us) (inr (inl h)) p is = taken_has x s u r t h p.0 is.0
    any_taken_has x s (more_raws r rs) (some t ts) (u ∷ us) (inr (inr h)) p is = any_taken_has x s rs ts us h p.1 is.1

-- an equation that a raw one stands for, and whose sides have one sort
abbrev IsSortedAs : Sig → List (List ℕ) → List SortId → RawEq → Equation → Type 0
IsSortedAs sig names ctx raw e = EquationStands sig names raw e
    × ((s : SortId) × Sorted sig ctx e.left s × Sorted sig ctx e.right s)

module _ (sig : Sig) (declared : IsDeclared sig) (raw : RawGoal) (goal : Goal) (is : GoalStands sig raw goal) where
  abbrev names : List (List ℕ)
  names = variable_names goal.vars

  abbrev ctx : List SortId
  ctx = sorts_of goal.vars

  abbrev distinct : AreNewNames [] (names_of sig)
  distinct = symbols_distinct sig declared

  abbrev different : AreNewNames [] names
  different = only_distinct (names_of sig) names is.names

  equations : (raws : List RawEq) (es : List Equation) → AllZip (EquationStands sig names) raws es →
      EquationsAreSorted sig ctx es → AllZip (IsSortedAs sig names ctx) raws es
  equations raws es all sorted = pairs_with (EquationStands sig names) (λ (e : Equation). (s : SortId)
      × Sorted sig ctx e.left s × Sorted sig ctx e.right s) raws es all sorted

  equation : (e : RawEq) → IsEquation sig raw e → (d : Equation) × IsSortedAs sig names ctx e d
  equation e h = elim (in_either e raw.premises raw.conclusions (in_contained (raw.premises ++ raw.conclusions) e h)) [
    | inl a ↦ partner (IsSortedAs sig names ctx) raw.premises goal.premises e a
        (equations raw.premises goal.premises is.premises is.sorted.premises)
    | inr b ↦ partner (IsSortedAs sig names ctx) raw.conclusions goal.conclusions e b
        (equations raw.conclusions goal.conclusions is.conclusions is.sorted.conclusions)
  ]

  -- each variable has the sort that it gets
  pub has_what_it_gets : (x : List ℕ) (s : SortId) → Gets sig raw x s → Has sig distinct names different ctx x s
  has_what_it_gets x s (bound b there name sort) =
      let r = bound_at sig raw.binds goal.vars b (in_contained raw.binds b there) is.bound in
      let e : r.1 ≡ s = one_sort sig.sorts (sorts_distinct sig declared) b.sort r.1 s r.4 sort in
      has_at sig distinct names different ctx x s r.0 (r.2 ∙ ap (λ n. Some n) name) (r.3 ∙ ap (λ u. Some u) e)
  has_what_it_gets x s (left_argument e there taken) = let d = equation e there in
      taken_has sig distinct names different ctx x s d.1.1.0 e.left d.0.left taken d.1.0.0 d.1.1.1
  has_what_it_gets x s (right_argument e there taken) = let d = equation e there in
      taken_has sig distinct names different ctx x s d.1.1.0 e.right d.0.right taken d.1.0.1 d.1.1.2
  has_what_it_gets x s (left_side e there v h) =
      let d = equation e there in
      let k : d.1.1.0 ≡ s = result_sort sig distinct names different ctx s d.1.1.0 e.right d.0.right h d.1.0.1
      d.1.1.2 in
      variable_has sig distinct names different ctx x s e.left d.0.left v d.1.0.0
      (subst (λ u. Sorted sig ctx d.0.left u) k d.1.1.1)
  has_what_it_gets x s (right_side e there v h) =
      let d = equation e there in
      let k : d.1.1.0 ≡ s = result_sort sig distinct names different ctx s d.1.1.0 e.left d.0.left h d.1.0.0 d.1.1.1 in
      variable_has sig distinct names different ctx x s e.right d.0.right v d.1.0.1
      (subst (λ u. Sorted sig ctx d.0.right u) k d.1.1.2)
  has_what_it_gets x s (as_right {y = y} e there v w gets) =
      let d = equation e there in
      let k : d.1.1.0 ≡ s = has_sort sig distinct names different ctx y s d.1.1.0 e.right d.0.right w d.1.0.1
      (has_what_it_gets y s gets) d.1.1.2 in
      variable_has sig distinct names different ctx x s e.left d.0.left v d.1.0.0
      (subst (λ u. Sorted sig ctx d.0.left u) k d.1.1.1)
  has_what_it_gets y s (as_left {x = x} e there v w gets) =
      let d = equation e there in
      let k : d.1.1.0 ≡ s = has_sort sig distinct names different ctx x s d.1.1.0 e.left d.0.left v d.1.0.0
      (has_what_it_gets x s gets) d.1.1.1 in
      variable_has sig distinct names different ctx y s e.right d.0.right w d.1.0.1
      (subst (λ u. Sorted sig ctx d.0.right u) k d.1.1.2)

pub one_goal : (sig : Sig) → IsDeclared sig → (raw : RawGoal) (g h : Goal) → GoalStands sig raw g →
    GoalStands sig raw h → g ≡ h
one_goal sig declared raw g h is too =
    let mine = variable_names g.vars in
    let same : mine ≡ variable_names h.vars = is.variables ∙ sym too.variables in
    let distinct : AreNewNames [] (names_of sig) = symbols_distinct sig declared in
    let different : AreNewNames [] mine = only_distinct (names_of sig) mine is.names in
    let name : g.name ≡ h.name = is.name ∙ sym too.name in
    let gets : (n : ℕ) (v : VarInfo) → slice_get g.vars n ≡ Some v →
    slice_get (sorts_of h.vars) n ≡ Some v.sort = λ n v at. has_what_it_gets sig declared raw h too v.name
    v.sort (all_at (λ (u : VarInfo). Gets sig raw u.name u.sort) g.vars is.sorts n v at) n
    (ap (λ ns. slice_get ns n) (sym same) ∙ name_of_place g.vars n v at) in
    let vars : g.vars ≡ h.vars = same_vars g.vars h.vars same gets in
    let premises : g.premises ≡ h.premises = pairs_one (EquationStands sig mine)
    (one_equation sig distinct mine different) raw.premises g.premises h.premises is.premises
    (subst (λ ns. AllZip (EquationStands sig ns) raw.premises h.premises) (sym same) too.premises) in
    let conclusions : g.conclusions ≡ h.conclusions = pairs_one (EquationStands sig mine)
    (one_equation sig distinct mine different) raw.conclusions g.conclusions h.conclusions is.conclusions
    (subst (λ ns. AllZip (EquationStands sig ns) raw.conclusions h.conclusions) (sym same) too.conclusions) in
    λ i. record { name = name i; vars = vars i; premises = premises i; conclusions = conclusions i }
