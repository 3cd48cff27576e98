-- The sorts of constants for variables.
use Rattle.std.proofs.Common.{◌≡◌, ◌≢◌, ℕ, zero, suc, ◌≤◌, List, [], ◌∷◌, Option, Some, None, inl, inr, ap, sym, ◌∙◌}
use Rattle.std.proofs.Common.{subst, arith, length}
use Rattle.std.specs.Prelude.{slice_get, MatchOption}
use Rattle.std.specs.List.{AllByRecursion}
use Rattle.term_core.specs.declared.ids.SortId.{SortId}
use Rattle.spec_core.specs.declared.records.VarInfo.{VarInfo}
use Rattle.spec_core.specs.Sig.{Sig, IsSort}
use Rattle.spec_core.specs.WellSorted.{sorts_of}
use Rattle.open_evaluation.specs.Shifted.{IsNoBoolean}
use Rattle.ground_eval.specs.ConstantSorts.{IsOther, IsFilled, AreFilled}
use Rattle.ground_eval.specs.Opened.{HaveConstants}

some_same : {X : Type 0} {x y : X} → Some x ≡ Some y → x ≡ y
some_same e = cc

-- each variable of another sort has a constant of its sort
pub filled_constants : (other : SortId) (vars : List VarInfo) (sorts : List SortId) →
    AreFilled other vars sorts → HaveConstants (sorts_of vars) sorts
filled_constants other [] [] h n s at differ = absurd (let q : None ≡ Some s = at in cc)
filled_constants other [] (t ∷ ts) h n s at differ = absurd h
filled_constants other (v ∷ vs) [] h n s at differ = absurd h
filled_constants other (v ∷ vs) (t ∷ ts) h zero s at differ =
    let e : v.sort ≡ s = some_same at in
    elim h.0 [
      | inl own ↦ ap (λ (x : SortId). Some x) (own.1 ∙ e)
      | inr bool ↦ absurd (differ (ap (λ (x : SortId). x.0) (sym e) ∙ bool.0))
    ]
filled_constants other (v ∷ vs) (t ∷ ts) h (suc n) s at differ = filled_constants other vs ts h.1 n s at differ

pub filled_others : (other : SortId) (vars : List VarInfo) (sorts : List SortId) → other.0 ≢ 0 →
    AreFilled other vars sorts → AllByRecursion IsNoBoolean sorts
filled_others other [] [] differ h = tt
filled_others other [] (t ∷ ts) differ h = absurd h
filled_others other (v ∷ vs) [] differ h = absurd h
filled_others other (v ∷ vs) (t ∷ ts) differ h = (one h.0, filled_others other vs ts differ h.1)
  where
    one : IsFilled other v.sort t → IsNoBoolean t
    one (inl own) e = own.0 (ap (λ (x : SortId). x.0) (sym own.1) ∙ e)
    one (inr bool) e = differ (ap (λ (x : SortId). x.0) (sym bool.1) ∙ e)

pub filled_in_range : (sig : Sig) (other : SortId) (vars : List VarInfo) (sorts : List SortId) →
    IsSort sig other → AllByRecursion (λ (v : VarInfo). IsSort sig v.sort) vars → AreFilled other vars sorts →
    AllByRecursion (IsSort sig) sorts
filled_in_range sig other [] [] is a h = tt
filled_in_range sig other [] (t ∷ ts) is a h = absurd h
filled_in_range sig other (v ∷ vs) [] is a h = absurd h
filled_in_range sig other (v ∷ vs) (t ∷ ts) is a h = (one h.0, filled_in_range sig other vs ts is a.1 h.1)
  where
    one : IsFilled other v.sort t → IsSort sig t
    one (inl own) = subst (λ (x : SortId). IsSort sig x) (sym own.1) a.0
    one (inr bool) = subst (λ (x : SortId). IsSort sig x) (sym bool.1) is

pub filled_few : (other : SortId) (vars : List VarInfo) (sorts : List SortId) → AreFilled other vars sorts →
    length sorts ≤ length vars
filled_few other [] [] h = omega arith
filled_few other [] (t ∷ ts) h = absurd h
filled_few other (v ∷ vs) [] h = absurd h
filled_few other (v ∷ vs) (t ∷ ts) h = omega (arith, filled_few other vs ts h.1)

-- the sort of a variable is a sort
pub other_in_range : (sig : Sig) (vars : List VarInfo) (s : SortId) (k : ℕ) →
    AllByRecursion (λ (v : VarInfo). IsSort sig v.sort) vars → slice_get (sorts_of vars) k ≡ Some s → IsSort sig s
other_in_range sig [] s k a at = absurd (let q : None ≡ Some s = at in cc)
other_in_range sig (v ∷ vs) s zero a at = subst (λ (x : SortId). IsSort sig x) (some_same at) a.0
other_in_range sig (v ∷ vs) s (suc k) a at = other_in_range sig vs s k a.1 at

-- if all variables are of sort Bool no constant is needed
pub none_needed : (vars : List VarInfo) (sorts : List SortId) →
    AllByRecursion (λ (v : VarInfo). v.sort.0 ≡ 0) vars → HaveConstants (sorts_of vars) sorts
none_needed [] sorts a n s at differ = absurd (let q : None ≡ Some s = at in cc)
none_needed (v ∷ vs) sorts a zero s at differ = absurd (differ (ap (λ (x : SortId). x.0) (sym (some_same at)) ∙ a.0))
none_needed (v ∷ vs) sorts a (suc n) s at differ = absurd (later vs a.1 n at)
  where
    later : (ws : List VarInfo) → AllByRecursion (λ (v : VarInfo). v.sort.0 ≡ 0) ws → (m : ℕ) →
        slice_get (sorts_of ws) m ≡ Some s → ⊥
    later [] b m e = let q : None ≡ Some s = e in cc
    later (w ∷ ws) b zero e = differ (ap (λ (x : SortId). x.0) (sym (some_same e)) ∙ b.0)
    later (w ∷ ws) b (suc m) e = later ws b.1 m e

-- the other sort of more variables
pub other_more : (v : VarInfo) (rest vars : List VarInfo) (found : Option SortId) → vars ≡ v ∷ rest →
    v.sort.0 ≡ 0 → MatchOption found (AllByRecursion (λ (x : VarInfo). x.sort.0 ≡ 0) rest)
    (λ s. IsOther rest s) → MatchOption found (AllByRecursion (λ (x : VarInfo). x.sort.0 ≡ 0) vars)
    (λ s. IsOther vars s)
other_more v rest vars None e z h = subst (λ (xs : List VarInfo). AllByRecursion (λ (x : VarInfo). x.sort.0 ≡ 0)
    xs) (sym e) (z, h)
other_more v rest vars (Some s) e z h = subst (λ (xs : List VarInfo). IsOther xs s) (sym e) (h.0, suc h.1, h.2)
