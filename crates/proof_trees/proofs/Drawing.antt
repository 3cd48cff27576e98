-- What is left to draw of a tree. It is enough to go as deep as there are nodes.
use Rattle.std.proofs.Common.{◌≡◌, ◌<◌, ◌≤◌, ◌+◌, ◌-◌, ℕ, zero, suc, List, ◌++◌, Bool, true, false}
use Rattle.std.proofs.Common.{refl, sym, ◌∙◌, ap, arith}
use Rattle.page_core.specs.declared.parts.Part.TheVariants.{Case}
use Rattle.page_core.specs.Events.{Event, within}
use Rattle.proof_trees.specs.Pendings.{whole}
use Rattle.proof_trees.specs.Trees.{Outline, cases, below, tree}

module _ (o : Outline) (nodes : ℕ) where
  module _ (falls : (k : ℕ) → 0 < o.count k → k < o.first k)
      (inside : (k : ℕ) → 0 < o.count k → k < nodes) where
    same_cases :
        (f g : ℕ → List Event) (k : ℕ) → ((c : ℕ) → k < c → f c ≡ g c) → k < o.first k →
        (i n : ℕ) → cases o f k i n ≡ cases o g k i n
    same_cases f g k same later i zero = refl
    same_cases f g k same later i (suc n) =
        ap (λ es. within Case (o.heading k i ++ es) ++ cases o f k (suc i) n)
        (same (o.first k + i) (omega (arith, later)))
        ∙ ap (λ es. within Case (o.heading k i ++ g (o.first k + i)) ++ es)
        (same_cases f g k same later (suc i) n)

    same_below :
        (f g : ℕ → List Event) (k : ℕ) (has_cases : Bool) (n : ℕ) →
        (0 < n → (c : ℕ) → k < c → f c ≡ g c) → (0 < n → k < o.first k) →
        below o f k has_cases n ≡ below o g k has_cases n
    same_below f g k true zero same later = refl
    same_below f g k true (suc n) same later =
        same_cases f g k (same (omega arith)) (later (omega arith)) 0 (suc n)
    same_below f g k false zero same later = refl
    same_below f g k false (suc n) same later = same (omega arith) (o.first k) (later (omega arith))

    -- a tree that is drawn at least as deep as there are nodes is whole
    enough : (most n k : ℕ) → n ≤ most → suc (nodes - k) ≤ n → tree o n k ≡ whole o nodes k
    enough most zero k few deep = absurd (omega (arith, deep))
    enough zero (suc n) k few deep = absurd (omega (arith, few))
    enough (suc most) (suc n) k few deep =
        ap (λ es. o.own k ++ es)
        (same_below (tree o n) (tree o (nodes - k)) k (o.has_cases k) (o.count k)
        (λ some c later.
        let lt : k < nodes = inside k some in
        enough most n c (omega (arith, few)) (omega (arith, deep, later, lt))
        ∙ sym (enough most (nodes - k) c (omega (arith, few, deep)) (omega (arith, later, lt))))
        (falls k))

    -- what is drawn below a node of a tree that is drawn whole
    pub whole_is :
        (k : ℕ) → whole o nodes k ≡ o.own k ++ below o (whole o nodes) k (o.has_cases k) (o.count k)
    whole_is k =
        ap (λ es. o.own k ++ es)
        (same_below (tree o (nodes - k)) (whole o nodes) k (o.has_cases k) (o.count k)
        (λ some c later.
        let lt : k < nodes = inside k some in
        enough (nodes - k) (nodes - k) c (omega arith) (omega (arith, later, lt))) (falls k))
