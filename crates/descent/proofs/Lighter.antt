-- Clauses that weigh less because sides are put in the place of greater ones.
use Rattle.std.proofs.Common.{◌≡◌, ℕ, ◌≤◌, ◌<◌, List, [], ◌∷◌, ◌++◌, refl, sym, ◌∙◌, subst, arith, length, append_assoc}
use Rattle.std.specs.Prelude.{IsPermutation}
use Rattle.std.specs.List.{AllByRecursion}
use Rattle.std.proofs.lemmas.List.Sorted.{IsPermutation-append_right, IsPermutation-append_comm}
use Rattle.term_core.specs.Tree.{Tree}
use Rattle.spec_core.specs.declared.records.Spec.{Spec}
use Rattle.term_order.specs.Laws.{HasRanks}
use Rattle.descent.specs.Weights.{AreRanks, IsHeavier}
use Rattle.descent.proofs.SideRanks.{Grounded, ranks_one, ranks_split}
use Rattle.descent.proofs.Multisets.{IsIn, exceeds_cancelled}

-- the part in the midst to the end
to_end : (a m b : List ℕ) → IsPermutation (a ++ (m ++ b)) ((a ++ b) ++ m)
to_end a m b = subst (λ zs. IsPermutation (a ++ (m ++ b)) zs) (sym (append_assoc a b m))
    (IsPermutation-append_right a (m ++ b) (b ++ m) (IsPermutation-append_comm m b))

-- if each number that comes in has a greater one among those that go
between : (a m n b : List ℕ) → 1 ≤ length m → ((y : ℕ) → IsIn y n → (x : ℕ) × IsIn x m × (y < x)) →
    IsHeavier (a ++ (m ++ b)) (a ++ (n ++ b))
between a m n b l h = exceeds_cancelled (a ++ (m ++ b)) (a ++ (n ++ b)) (a ++ b) m n (to_end a m b) (to_end a n b) l h

module _ (above : Tree → Tree → Type 0) (rank : ℕ → ℕ → Tree → ℕ → Type 0) (laws : HasRanks above rank)
    (spec : Spec) (xs : List Tree) where
  ranks_long : (ts : List Tree) (w : List ℕ) → AreRanks rank spec xs ts w → length w ≡ length ts
  ranks_long [] [] p = refl
  ranks_long [] (r ∷ w) p = absurd p
  ranks_long (t ∷ ts) [] p = absurd p
  ranks_long (t ∷ ts) (r ∷ w) p = omega (arith, ranks_long ts w p.1)

  -- each rank of the second sides has a greater one among those of the first
  abbrev pub AreBelow : List Tree → List Tree → Type 0
  AreBelow olds news = (m n : List ℕ) → AreRanks rank spec xs olds m → AreRanks rank spec xs news n → (y : ℕ) →
      IsIn y n → (x : ℕ) × IsIn x m × (y < x)

  pub lighter : (before olds news after : List Tree) → 1 ≤ length olds →
      AllByRecursion (Grounded spec xs) before → AllByRecursion (Grounded spec xs) after → AreBelow olds news →
      (w v : List ℕ) → AreRanks rank spec xs (before ++ (olds ++ after)) w →
      AreRanks rank spec xs (before ++ (news ++ after)) v → IsHeavier w v
  lighter before olds news after l ga gb below w v p q =
      let a = ranks_split above rank laws spec xs before (olds ++ after) w p in
      let m = ranks_split above rank laws spec xs olds after a.1 a.4 in
      let b = ranks_split above rank laws spec xs before (news ++ after) v q in
      let n = ranks_split above rank laws spec xs news after b.1 b.4 in
      let e : a.0 ≡ b.0 = ranks_one above rank laws spec xs before ga a.0 b.0 a.3 b.3 in
      let f : m.1 ≡ n.1 = ranks_one above rank laws spec xs after gb m.1 n.1 m.4 n.4 in
      let wis : w ≡ a.0 ++ (m.0 ++ m.1) = a.2 ∙ (let z = m.2 in λ i. a.0 ++ z i) in
      let vis : v ≡ a.0 ++ (n.0 ++ m.1) = b.2 ∙ (let z = n.2 in λ i. b.0 ++ z i) ∙ (λ i. sym e i ++ (n.0 ++ sym f i)) in
      let h : IsHeavier (a.0 ++ (m.0 ++ m.1)) (a.0 ++ (n.0 ++ m.1)) = between a.0 m.0 n.0 m.1
      (omega (arith, ranks_long olds m.0 m.3)) (below m.0 n.0 m.3 n.3) in
      subst (λ z. IsHeavier z v) (sym wis) (subst (λ z. IsHeavier (a.0 ++ (m.0 ++ m.1)) z) (sym vis) h)
