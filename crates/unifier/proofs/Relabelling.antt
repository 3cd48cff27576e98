-- One root in the place of another.
use Rattle.std.proofs.Common.{◌≡◌, ◌≢◌, ℕ, zero, suc, ◌+◌, ◌<◌, ◌≤◌, List, [], ◌∷◌, inl, inr, refl, ap, sym, arith}
use Rattle.std.proofs.Common.{length}
use Rattle.std.specs.Prelude.{if◌then◌else◌, ◌==◌}
use Rattle.std.proofs.lemmas.Bool.Decides.{nat_tests}
use Rattle.unifier.specs.Roots.{root, relabelled}
use Rattle.unifier.specs.Work.{one_if, count_roots}
use Rattle.term_core.proofs.Numbers.{same_or_not}

module _ (from to : ℕ) where
  pub swap_here : (r : ℕ) → r ≡ from → (if r == from then to else r) ≡ to
  swap_here r e = grind (arith, nat_tests)

  pub swap_other : (r : ℕ) → r ≢ from → (if r == from then to else r) ≡ r
  swap_other r e = grind (arith, nat_tests)

  pub root-relabelled : (roots : List ℕ) (i : ℕ) → i < length roots →
      root (relabelled from to roots) i ≡ (if root roots i == from then to else root roots i)
  root-relabelled [] i h = absurd (omega arith)
  root-relabelled (r ∷ rs) zero h = refl
  root-relabelled (r ∷ rs) (suc i) h = root-relabelled rs i (omega arith)

  pub length-relabelled : (roots : List ℕ) → length (relabelled from to roots) ≡ length roots
  length-relabelled [] = refl
  length-relabelled (r ∷ rs) = ap suc (length-relabelled rs)

  head_le : (k r : ℕ) → (r ≡ from → k ≡ to → ⊥) → one_if (if r == from then to else r) k ≤ one_if r k
  head_le k r h = elim (same_or_not r from) [
    | inl e ↦
        let s = swap_here r e in
        let n : to ≢ k = λ q. h e (sym q) in
        let z : one_if to k ≡ 0 = grind (arith, nat_tests) in
        rw (s, z) (omega arith)
    | inr n ↦ rw (swap_other r n) (omega arith)
  ]

  count_le : (k : ℕ) (rs : List ℕ) → ((j : ℕ) → j < length rs → root rs j ≡ from → k + j ≡ to → ⊥) →
      count_roots k (relabelled from to rs) ≤ count_roots k rs
  count_le k [] h = omega arith
  count_le k (r ∷ rs) h =
      let a = head_le k r (λ e q. h 0 (omega arith) e (omega arith)) in
      let b = count_le (suc k) rs (λ j l e q. h (suc j) (omega arith) e (omega arith)) in
      omega arith

  -- the root that goes is no root any more
  pub count_falls : (k j : ℕ) (rs : List ℕ) → from ≢ to →
      ((j : ℕ) → j < length rs → root rs j ≡ from → k + j ≡ to → ⊥) → j < length rs → root rs j ≡ from →
      k + j ≡ from → count_roots k (relabelled from to rs) < count_roots k rs
  count_falls k j [] n h l e q = absurd (omega arith)
  count_falls k zero (r ∷ rs) n h l e q =
      let b = count_le (suc k) rs (λ j l e q. h (suc j) (omega arith) e (omega arith)) in
      let s : (if r == from then to else r) ≡ to = swap_here r e in
      let m : to ≢ k = λ x. n (omega arith) in
      let z : one_if to k ≡ 0 = grind (arith, nat_tests) in
      let o : one_if r k ≡ 1 = grind (arith, nat_tests) in
      rw (s, z, o) (omega arith)
  count_falls k (suc j) (r ∷ rs) n h l e q =
      let a = head_le k r (λ e q. h 0 (omega arith) e (omega arith)) in
      let b = count_falls (suc k) j rs n (λ j l e q. h (suc j) (omega arith) e (omega arith)) (omega arith) e
      (omega arith) in
      omega arith
