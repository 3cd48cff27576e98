-- The rank of a term as a function, since it can be decided of each term whether it is ground.
use Rattle.std.proofs.Common.{◌⊎◌, ℕ, ◌<◌, ◌≤◌, inl, inr, arith, length}
use Rattle.term_core.specs.Tree.{Tree, Trees, var, app, none, some, list_of}
use Rattle.term_core.specs.Ground.{IsGroundIn, AreGroundIn}
use Rattle.term_core.proofs.Numbers.{below_or_not}
use Rattle.term_order.specs.Laws.{HasRanks}

abbrev Decided : Type 0 → Type 0
Decided P = P ⊎ (P → ⊥)

both : {P Q : Type 0} → Decided P → Decided Q → Decided (P × Q)
both (inl p) (inl q) = inl (p, q)
both (inr n) q = inr (λ h. n h.0)
both (inl p) (inr n) = inr (λ h. n h.1)

all_three : {P Q R : Type 0} → Decided P → Decided Q → Decided R → Decided (P × Q × R)
all_three (inl p) (inl q) (inl r) = inl (p, q, r)
all_three (inr n) q r = inr (λ h. n h.0)
all_three (inl p) (inr n) r = inr (λ h. n h.1)
all_three (inl p) (inl q) (inr n) = inr (λ h. n h.2)

below : (m n : ℕ) → Decided (m < n)
below m n = elim (below_or_not m n) [ inl h ↦ inl h | inr h ↦ inr (λ l. omega (arith, h, l)) ]

up_to : (m n : ℕ) → Decided (m ≤ n)
up_to m n = elim (below_or_not n m) [ inl h ↦ inr (λ l. omega (arith, h, l)) | inr h ↦ inl h ]

mutual
  is_ground : (n : ℕ) (t : Tree) → Decided (IsGroundIn n t)
  is_ground n (var x) = inr (λ h. h)
  is_ground n (app f ts) = all_three (below f n) (up_to (length (list_of ts)) 8) (are_ground n ts)

  are_ground : (n : ℕ) (ts : Trees) → Decided (AreGroundIn n ts)
  are_ground n none = inl tt
  are_ground n (some t ts) = both (is_ground n t) (are_ground n ts)

module _ (above : Tree → Tree → Type 0) (rank : ℕ → ℕ → Tree → ℕ → Type 0) (laws : HasRanks above rank)
    (n k : ℕ) (l : 1 ≤ k) where
  rank_by : (t : Tree) → Decided (IsGroundIn n t) → ℕ
  rank_by t (inl g) = (laws.some_rank n k t l g).0
  rank_by t (inr h) = 0

  -- the rank of a ground term in n, and 0 for any other term
  pub rank_of : Tree → ℕ
  rank_of t = rank_by t (is_ground n t)

  pub rank_of_is : (t : Tree) → IsGroundIn n t → rank n k t (rank_of t)
  unfolding rank_of rank_by
  rank_of_is t g = go (is_ground n t)
    where
      go : (d : Decided (IsGroundIn n t)) → rank n k t (rank_by t d)
      go (inl h) = (laws.some_rank n k t l h).1
      go (inr h) = absurd (h g)
