-- Lists of terms that have sorts, by their places.
use Rattle.std.proofs.Common.{◌≡◌, ◌≢◌, ◌↔◌, ℕ, zero, suc, ◌<◌, List, [], ◌∷◌, IsTrue, true, false, Bool, refl, ap}
use Rattle.std.proofs.Common.{sym, ◌∙◌, subst, arith, length, get_or}
use Rattle.std.specs.Prelude.{nat_eq}
use Rattle.std.proofs.lemmas.Bool.Decides.{nat_tests}
use Rattle.term_core.specs.Tree.{Tree, trees_of}
use Rattle.term_core.specs.declared.ids.SortId.{SortId}
use Rattle.spec_core.specs.Sig.{Sig}
use Rattle.spec_core.specs.Sorts.{Sorted, SortedAll}
use Rattle.spec_core.proofs.OneSort.{sort_unique}

module _ (sig : Sig) (ctx : List SortId) where
  pub sorted_lengths : (ts : List Tree) (ss : List SortId) → SortedAll sig ctx (trees_of ts) ss → length ts ≡ length ss
  sorted_lengths [] [] p = refl
  sorted_lengths [] (s ∷ ss) p = absurd p
  sorted_lengths (t ∷ ts) [] p = absurd p
  sorted_lengths (t ∷ ts) (s ∷ ss) p = omega (arith, sorted_lengths ts ss p.1)

  pub sorted_place :
      (ts : List Tree) (ss : List SortId) (k : ℕ) (t : Tree) (s : SortId) → SortedAll sig ctx (trees_of ts) ss →
      k < length ts → Sorted sig ctx (get_or ts k t) (get_or ss k s)
  sorted_place [] ss k t s p lt = absurd (omega arith)
  sorted_place (u ∷ ts) [] k t s p lt = absurd p
  sorted_place (u ∷ ts) (r ∷ ss) zero t s p lt = p.0
  sorted_place (u ∷ ts) (r ∷ ss) (suc k) t s p lt = sorted_place ts ss k t s p.1 (omega arith)

  pub all_sorted :
      (ts : List Tree) (ss : List SortId) (t : Tree) (s : SortId) → length ts ≡ length ss →
      ((k : ℕ) → k < length ts → Sorted sig ctx (get_or ts k t) (get_or ss k s)) → SortedAll sig ctx (trees_of ts) ss
  all_sorted [] [] t s e h = tt
  all_sorted [] (r ∷ ss) t s e h = absurd (omega arith)
  all_sorted (u ∷ ts) [] t s e h = absurd (omega arith)
  all_sorted (u ∷ ts) (r ∷ ss) t s e h = (
    h 0 (omega arith),
    all_sorted ts ss t s (omega arith) (λ k lt. h (suc k) (omega arith)),
  )

  -- the sort that was found is this one if and only if the term has this one
  pub sort_is : (t : Tree) (found sort : SortId) → Sorted sig ctx t found →
      IsTrue (nat_eq found.0 sort.0) ↔ Sorted sig ctx t sort
  sort_is t found sort p = (
    λ h.
        let e : found.0 ≡ sort.0 = grind (arith, nat_tests) in
        subst (λ (n : ℕ). Sorted sig ctx t (record { 0 = n })) e p,
    λ q.
        let e : found.0 ≡ sort.0 = ap (λ (s : SortId). s.0) (sort_unique sig ctx t found sort p q) in
        grind (arith, nat_tests),
  )

  -- lists that have not one sort for each term
  pub other_lengths : (ts : List Tree) (ss : List SortId) → length ts ≢ length ss →
      IsTrue false ↔ SortedAll sig ctx (trees_of ts) ss
  other_lengths ts ss ne = (λ h. absurd (let q : false ≡ true = h in cc), λ p. absurd (ne (sorted_lengths ts ss p)))

  -- a term that hasn't the sort at its place
  pub unsorted_place :
      (ts : List Tree) (ss : List SortId) (k : ℕ) (t : Tree) (s : SortId) (found : Bool) → k < length ts →
      t ≡ get_or ts k t →
      found ≡ false → (Sorted sig ctx t (get_or ss k s) → IsTrue found) →
      IsTrue false ↔ SortedAll sig ctx (trees_of ts) ss
  unsorted_place ts ss k t s found lt is wrong h = (
    λ f. absurd (let q : false ≡ true = f in cc),
    λ p.
        let here : Sorted sig ctx t (get_or ss k s) = subst (λ u. Sorted sig ctx u (get_or ss k s)) (sym is)
        (sorted_place ts ss k t s p lt) in
        let q : found ≡ true = h here in
        absurd (let e : false ≡ true = sym wrong ∙ q in cc),
  )
