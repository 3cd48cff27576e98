-- The variables of a rule.
use Rattle.std.proofs.Common.{◌≡◌, ℕ, suc, List, [], ◌∷◌, Some, inl, inr, refl, ap, sym, ◌∙◌, subst, arith, length}
use Rattle.std.specs.Prelude.{slice_get, option_map}
use Rattle.std.specs.List.{AllByRecursion}
use Rattle.std.proofs.lemmas.List.{length-map}
use Rattle.std.proofs.lemmas.Option.{slice_get-map, slice_get_within}
use Rattle.term_core.specs.Tree.{Tree, Trees, var, app, none, some}
use Rattle.term_core.specs.declared.ids.SortId.{SortId}
use Rattle.spec_core.specs.declared.records.VarInfo.{VarInfo}
use Rattle.spec_core.specs.declared.records.Rule.{Rule}
use Rattle.spec_core.specs.Sig.{Sig, IsSort, SortsAreInRange}
use Rattle.spec_core.specs.Sorts.{Sorted, SortedAll}
use Rattle.spec_core.specs.Declarations.{IsDeclared}
use Rattle.term_core.specs.Variables.{Occurs, OccursAny}
use Rattle.spec_core.specs.WellSorted.{RuleIsSorted, IsLeft, sorts_of}
use Rattle.spec_core.proofs.Ranges.{sorts_in_range}
use Rattle.unifier.specs.Shifting.{HasTooLarge}
use Rattle.overlap_check.specs.Searches.{HaveSorts}
use Rattle.term_core.proofs.Numbered.{numbered_below}

all_from_at : {A : Type 0} (P : A → Type 0) (xs : List A) → ((n : ℕ) (x : A) → slice_get xs n ≡ Some x → P x) →
    AllByRecursion P xs
all_from_at P [] h = tt
all_from_at P (x ∷ xs) h = (h 0 x refl, all_from_at P xs (λ n y e. h (suc n) y e))

module _ (sig : Sig) (ctx : List SortId) (range : SortsAreInRange sig) where
  mutual
    -- a variable of a term has a sort of the signature
    variable_sort : (t : Tree) (s : SortId) → IsSort sig s → Sorted sig ctx t s → (n : ℕ) → Occurs n t →
        (u : SortId) → slice_get ctx n ≡ Some u → IsSort sig u
    variable_sort (var m) s is h n o u at =
        let q : Some u ≡ Some s = sym at ∙ ap (λ k. slice_get ctx k) o ∙ h in
        let e : u ≡ s = cc in
        subst (λ v. IsSort sig v) (sym e) is
    variable_sort (app f ts) s is h n o u at = variables_sort ts h.0.args (range f h.0 h.1).1 h.3 n o u at

    variables_sort : (ts : Trees) (ss : List SortId) → AllByRecursion (IsSort sig) ss →
        SortedAll sig ctx ts ss → (n : ℕ) → OccursAny n ts → (u : SortId) → slice_get ctx n ≡ Some u → IsSort sig u
    variables_sort none ss is h n o u at = absurd o
    variables_sort (some t ts) [] is h n o u at = absurd h
    variables_sort (some t ts) (s ∷ ss) is h n (inl o) u at = variable_sort t s is.0 h.0 n o u at
    variables_sort (some t ts) (s ∷ ss) is h n (inr o) u at = variables_sort ts ss is.1 h.1 n o u at

  left_variable_sort : (t : Tree) (s : SortId) → IsLeft sig t → Sorted sig ctx t s → (n : ℕ) → Occurs n t →
      (u : SortId) → slice_get ctx n ≡ Some u → IsSort sig u
  left_variable_sort (var m) s l h n o u at = absurd l
  left_variable_sort (app f ts) s l h n o u at = variables_sort ts h.0.args (range f h.0 h.1).1 h.3 n o u at

-- so the variables of a rule have sorts of the signature, since each is on the left side
pub have_sorts : (sig : Sig) (rule : Rule) → IsDeclared sig → RuleIsSorted sig rule → HaveSorts sig rule.vars
have_sorts sig rule d fine = all_from_at (λ (v : VarInfo). IsSort sig v.sort) rule.vars by
  where
    by : (n : ℕ) (v : VarInfo) → slice_get rule.vars n ≡ Some v → IsSort sig v.sort
    by n v at =
        let ctx = sorts_of rule.vars in
        let here : slice_get ctx n ≡ Some v.sort = slice_get-map (λ (w : VarInfo). w.sort) rule.vars n
        ∙ ap (λ o. option_map (λ (w : VarInfo). w.sort) o) at in
        left_variable_sort sig ctx (sorts_in_range sig d) rule.left fine.sides.0 fine.left fine.sides.1 n
        (fine.bound n (slice_get_within ctx n v.sort here)) v.sort here

-- the variables of two rules are too few to pass the last number
pub not_too_large : (sig : Sig) (r q : Rule) → RuleIsSorted sig r → RuleIsSorted sig q → (by : ℕ) →
    by ≡ length r.vars → HasTooLarge by q.left → ⊥
not_too_large sig r q a b by is h =
    omega (
      arith,
      a.few_variables,
      b.few_variables,
      numbered_below 0 (length (sorts_of q.vars)) q.left b.numbered h.0 h.1,
      length-map q.vars (λ (v : VarInfo). v.sort),
      h.2,
    )
