-- Both sides of an equation have one sort if their sorts have one number.
use Rattle.std.proofs.Common.{◌≡◌, ℕ, List, sym, subst, arith, IsTrue}
use Rattle.std.specs.Prelude.{nat_eq}
use Rattle.std.proofs.lemmas.Bool.Decides.{nat_tests}
use Rattle.term_core.specs.declared.ids.SortId.{SortId}
use Rattle.spec_core.specs.Sig.{Sig}
use Rattle.spec_core.specs.Sorts.{Sorted}
use Rattle.spec_core.specs.declared.records.Equation.{Equation}
use Rattle.generalized_clauses.specs.Sorting.{HasOneSort}

equal : (m n : ℕ) → IsTrue (nat_eq m n) → m ≡ n
equal m n h = grind (arith, nat_tests)

pub same_sorts : (sig : Sig) (ctx : List SortId) (e : Equation) (s u : SortId) → Sorted sig ctx e.left s →
    Sorted sig ctx e.right u → IsTrue (nat_eq s.0 u.0) → HasOneSort sig ctx e
same_sorts sig ctx e s u left right h =
    let n : s.0 ≡ u.0 = equal s.0 u.0 h in
    let same : u ≡ s = λ i. record { 0 = sym n i } in
    (s, left, subst (λ x. Sorted sig ctx e.right x) same right)
