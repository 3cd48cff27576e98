-- Whether an entry has a sort, from the one sort that its term has.
use Rattle.std.proofs.Common.{◌≡◌, ℕ, List, Option, Some, IsTrue, ◌↔◌, ap, sym, ◌∙◌, arith, subst}
use Rattle.std.specs.Prelude.{nat_eq}
use Rattle.std.proofs.lemmas.Bool.Decides.{nat_tests}
use Rattle.term_core.specs.Tree.{Tree}
use Rattle.term_core.specs.declared.ids.SortId.{SortId}
use Rattle.spec_core.specs.Sig.{Sig}
use Rattle.spec_core.specs.Sorts.{Sorted}
use Rattle.spec_core.proofs.OneSort.{sort_unique}
use Rattle.substitutions.specs.Substitution.{entry}

same_sort : (a b : SortId) → IsTrue (nat_eq a.0 b.0) → a ≡ b
same_sort a b h = let e : a.0 ≡ b.0 = grind (arith, nat_tests) in
    ap (λ (n : ℕ). let s : SortId = record { 0 = n } in s) e

same_number : (a b : SortId) → a ≡ b → IsTrue (nat_eq a.0 b.0)
same_number a b e = let k : a.0 ≡ b.0 = ap (λ (s : SortId). s.0) e in grind (arith, nat_tests)

-- the entry has the sort if and only if the sort that was found is this one
pub has_sort : (sig : Sig) (ctx : List SortId) (entries : List (Option Tree)) (n : ℕ) (t : Tree)
    (found sort : SortId) → Some t ≡ entry entries n → Sorted sig ctx t found →
    IsTrue (nat_eq found.0 sort.0) ↔ ((u : Tree) × (entry entries n ≡ Some u) × Sorted sig ctx u sort)
has_sort sig ctx entries n t found sort e p = (
  λ h. (t, sym e, subst (λ s. Sorted sig ctx t s) (same_sort found sort h) p),
  λ h.
      let k : Some t ≡ Some h.0 = e ∙ h.1 in
      let same : h.0 ≡ t = cc in
      same_number found sort (sort_unique sig ctx t found sort p (subst (λ u. Sorted sig ctx u sort) same h.2)),
)
