-- Sorted equations, one after the other.
use Rattle.std.proofs.Common.{◌≡◌, ℕ, zero, suc, List, [], ◌∷◌, ◌++◌, length, Some, None, refl, ap, ◌∙◌, subst}
use Rattle.std.specs.Prelude.{slice_get}
use Rattle.std.specs.List.{AllByRecursion}
use Rattle.term_core.specs.declared.ids.SortId.{SortId}
use Rattle.spec_core.specs.declared.records.Equation.{Equation}
use Rattle.spec_core.specs.Sig.{Sig}
use Rattle.spec_core.specs.Sorts.{Sorted}
use Rattle.spec_core.specs.WellSorted.{EquationsAreSorted}
use Rattle.clause_core.specs.NumberedEquations.{EquationAt}

-- what holds of all of a list holds of all of its parts
pub split_all : {X : Type 0} (P : X → Type 0) (xs ys : List X) → AllByRecursion P (xs ++ ys) →
    AllByRecursion P xs × AllByRecursion P ys
split_all P [] ys h = (tt, h)
split_all P (x ∷ xs) ys h = let r = split_all P xs ys h.1 in ((h.0, r.0), r.1)

-- both sides have one sort
abbrev pub HasOneSort : Sig → List SortId → Equation → Type 0
HasOneSort sig ctx e = (s : SortId) × Sorted sig ctx e.left s × Sorted sig ctx e.right s

-- each equation has
abbrev pub Each : Sig → List SortId → List Equation → Type 0
Each sig ctx es = AllByRecursion (λ (e : Equation). HasOneSort sig ctx e) es

pub each_sorted : (sig : Sig) (ctx : List SortId) (es : List Equation) → EquationsAreSorted sig ctx es → Each sig ctx es
each_sorted sig ctx [] h = tt
each_sorted sig ctx (e ∷ es) h = (h 0 e refl, each_sorted sig ctx es (λ k d at. h (suc k) d at))

pub sorted_each : (sig : Sig) (ctx : List SortId) (es : List Equation) → Each sig ctx es → EquationsAreSorted sig ctx es
sorted_each sig ctx [] h k d at = absurd (let q : None ≡ Some d = at in cc)
sorted_each sig ctx (e ∷ es) h zero d at = let q : Some e ≡ Some d = at in let w : e ≡ d = cc in
    subst (λ (x : Equation). (s : SortId) × Sorted sig ctx x.left s × Sorted sig ctx x.right s) w h.0
sorted_each sig ctx (e ∷ es) h (suc k) d at = sorted_each sig ctx es h.1 k d at

-- the equation of a number, and others in its place
get_at : (before after : List Equation) (e : Equation) → slice_get (before ++ (e ∷ after)) (length before) ≡ Some e
get_at [] after e = refl
get_at (d ∷ ds) after e = get_at ds after e

pub sorted_at : (sig : Sig) (ctx : List SortId) (own : List Equation) (n : ℕ) (at : EquationAt own n) →
    EquationsAreSorted sig ctx own → HasOneSort sig ctx at.equation
sorted_at sig ctx own n at h = h (length at.before) at.equation
    (ap (λ es. slice_get es (length at.before)) at.is ∙ get_at at.before at.after at.equation)

pub each_replaced : (sig : Sig) (ctx : List SortId) (before after news : List Equation) (e : Equation) →
    Each sig ctx (before ++ (e ∷ after)) → Each sig ctx news → Each sig ctx (before ++ (news ++ after))
each_replaced sig ctx [] after [] e h n = h.1
each_replaced sig ctx [] after (d ∷ ds) e h n = (n.0, each_replaced sig ctx [] after ds e h n.1)
each_replaced sig ctx (d ∷ ds) after news e h n = (h.0, each_replaced sig ctx ds after news e h.1 n)

pub each_at : (sig : Sig) (ctx : List SortId) (before after : List Equation) (e : Equation) →
    Each sig ctx (before ++ (e ∷ after)) → HasOneSort sig ctx e
each_at sig ctx [] after e h = h.0
each_at sig ctx (d ∷ ds) after e h = each_at sig ctx ds after e h.1
