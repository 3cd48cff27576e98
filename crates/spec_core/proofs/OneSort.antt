-- A term has at most one sort.
use Rattle.std.proofs.Common.{◌≡◌, ◌≢◌, ℕ, List, ◌∷◌, Some, ap, sym, ◌∙◌, subst, arith, IsTrue, ◌↔◌}
use Rattle.std.specs.Prelude.{nat_eq}
use Rattle.std.proofs.lemmas.Bool.Decides.{nat_tests}
use Rattle.term_core.specs.Tree.{Tree, var, app, trees_of}
use Rattle.term_core.specs.declared.ids.SortId.{SortId}
use Rattle.spec_core.specs.declared.records.SymInfo.{SymInfo}
use Rattle.spec_core.specs.Sig.{Sig}
use Rattle.spec_core.specs.Sorts.{Sorted, SortedAll}

pub sort_unique : (sig : Sig) (ctx : List SortId) (t : Tree) (s u : SortId) → Sorted sig ctx t s →
    Sorted sig ctx t u → s ≡ u
sort_unique sig ctx (var n) s u p q = let e : Some s ≡ Some u = sym p ∙ q in cc
sort_unique sig ctx (app f ts) s u p q =
    let e : Some p.0 ≡ Some q.0 = sym p.1 ∙ q.1 in
    let k : p.0 ≡ q.0 = cc in
    sym p.2 ∙ ap (λ (i : SymInfo). i.result) k ∙ q.2

equal : (m n : ℕ) → IsTrue (nat_eq m n) → m ≡ n
equal m n h = grind (arith, nat_tests)

pub other_sort : (sig : Sig) (ctx : List SortId) (xs : List Tree) (ss : List SortId) (t : Tree) (ts : List Tree)
    (s found : SortId) (us : List SortId) → xs ≡ t ∷ ts → ss ≡ s ∷ us → Sorted sig ctx t found → found.0 ≢ s.0 →
    IsTrue (nat_eq found.0 s.0) ↔ SortedAll sig ctx (trees_of xs) ss
other_sort sig ctx xs ss t ts s found us e d p n = (
  λ h. absurd (n (equal found.0 s.0 h)),
  λ all.
      let a : SortedAll sig ctx (trees_of (t ∷ ts)) (s ∷ us) = subst
      (λ x. SortedAll sig ctx (trees_of (t ∷ ts)) x) d (subst (λ x. SortedAll sig ctx (trees_of x) ss) e all) in
      absurd (n (ap (λ (x : SortId). x.0) (sort_unique sig ctx t found s p a.0))),
)
