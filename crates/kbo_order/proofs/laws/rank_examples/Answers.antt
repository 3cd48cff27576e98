use Rattle.std.proofs.Common.{◌≡◌, ℕ, ◌<◌, ◌≤◌, List, [], ◌∷◌, length, refl, ap, subst, inl, inr, arith}
use Rattle.term_core.specs.Tree.{Tree, Trees, var, app, none, some}
use Rattle.term_core.specs.Ground.{IsGroundIn, AreGroundIn}
use Rattle.longest_chains.specs.Chains.{Descends}
use Rattle.longest_chains.proofs.LongestChains.{longest-is-one}
use Rattle.kbo_order.specs.Weights.{symbol_weight, weight_of, weight_of_all}
use Rattle.kbo_order.specs.KboLaws.{weighs-something}
use Rattle.kbo_order.specs.SumLaws.{weight-positive}
use Rattle.kbo_order.specs.Above.{ArgumentsFall, by_weight, by_head}
use Rattle.kbo_order.specs.Covered.{ground-covers}
use Rattle.kbo_order.specs.Roots.{cases-of, first-cases, none-fall}
use Rattle.kbo_order.specs.Rank.{GroundAbove}
use Rattle.kbo_order.specs.RankExamples.{alone, over, RankByOnes}
use Rattle.kbo_order.proofs.laws.rank_examples.Goals as goal

abbrev ones : ℕ → ℕ
ones = symbol_weight []

positive : (t : Tree) → 1 ≤ weight_of ones t
positive t = weight-positive ones (weighs-something []) t

-- what is below a symbol alone is a smaller symbol alone
none-left : (ts : Trees) → weight_of_all ones ts < 1 → ts ≡ none
none-left none l = refl
none-left (some t ts) l = absurd (omega (arith, l, positive t))

below-alone : {n f : ℕ} (s : Tree) → GroundAbove ones n (alone f) s → (g : ℕ) × (g < f) × (s ≡ alone g)
below-alone (var x) h = absurd h.1
below-alone {f = f} (app g ss) h =
    elim (cases-of h.2) [
      | inl l ↦ absurd (let p = positive (app g ss) in omega (arith, l, p))
      | inr r ↦ elim r.1 [
        | inl l ↦ (g, l, ap (λ us. app g us) (none-left ss (omega (arith, r.0))))
        | inr q ↦
            let e = none-left ss (omega (arith, r.0)) in
            absurd (none-fall none (subst (λ us. ArgumentsFall ones none us) e q.1))
      ]
    ]

links-alone :
    (n f : ℕ) (t : Tree) → t ≡ alone f → (ss : List Tree) → Descends (GroundAbove ones n) t ss →
    length ss ≤ f
links-alone n f t e [] d = omega arith
links-alone n f t e (s ∷ ss) d =
    let b = below-alone s (subst (λ u. GroundAbove ones n u s) e d.0) in
    omega (arith, b.1, links-alone n b.0 s b.2 ss d.1)

ground : (n f : ℕ) → f < n → IsGroundIn n (alone f)
ground n f l = (l, omega arith, tt)

smaller : (n f g : ℕ) → f < n → g < f → GroundAbove ones n (alone f) (alone g)
smaller n f g l m =
    let h : IsGroundIn n (alone g) = ground n g (omega (arith, l, m)) in
    (ground n f l, h, by_head (ground-covers n (alone f) (alone g) h) refl m)

last-chain : Descends (GroundAbove ones 3) (alone 2) (alone 1 ∷ alone 0 ∷ [])
last-chain = (smaller 3 2 1 (omega arith) (omega arith), (smaller 3 1 0 (omega arith) (omega arith), tt))

of-last : RankByOnes 3 (alone 2) 2
of-last = record {
  some_chain = (alone 1 ∷ alone 0 ∷ [], last-chain, refl);
  no_longer = links-alone 3 2 (alone 2) refl;
}

-- over one symbol nothing else weighs 2
none-falls : (ss : Trees) → AreGroundIn 1 ss → ArgumentsFall ones (some (alone 0) none) ss → ⊥
none-falls none g h = first-cases h
none-falls (some b bs) g h =
    elim (first-cases h) [
      | inl p ↦ let below = below-alone {n = 1} b ((omega arith, omega arith, tt), g.0, p.1) in omega (arith, below.1)
      | inr p ↦ first-cases p.1
    ]

below-two : (s : Tree) → GroundAbove ones 1 (over 0 (alone 0)) s → s ≡ alone 0
below-two (var x) h = absurd h.1
below-two (app g ss) h =
    elim (cases-of h.2) [
      | inl l ↦
          let e : ss ≡ none = none-left ss (omega (arith, l)) in
          let k : g ≡ 0 = omega (arith, h.1.0) in
          cc
      | inr r ↦ elim r.1 [
        | inl l ↦ absurd (omega (arith, l))
        | inr q ↦ absurd (none-falls ss h.1.2 q.1)
      ]
    ]

two-chain : Descends (GroundAbove ones 1) (over 0 (alone 0)) (alone 0 ∷ [])
two-chain =
    let h = ground 1 0 (omega arith) in
    let g : IsGroundIn 1 (over 0 (alone 0)) = (omega arith, omega arith, (h, tt)) in
    ((g, h, by_weight (ground-covers 1 (over 0 (alone 0)) (alone 0) h) (omega arith)), tt)

links-two : (ss : List Tree) → Descends (GroundAbove ones 1) (over 0 (alone 0)) ss → length ss ≤ 1
links-two [] d = omega arith
links-two (s ∷ ss) d = omega (arith, links-alone 1 0 s (below-two s d.0) ss d.1)

pub returns : goal.returns
returns c =
    record {
      of_first = record { some_chain = ([], tt, refl); no_longer = links-alone 3 0 (alone 0) refl };
      of_last = of-last;
      of_two = record { some_chain = (alone 0 ∷ [], two-chain, refl); no_longer = links-two };
      not_three = λ r. let e = longest-is-one (GroundAbove ones 3) (alone 2) 2 3 of-last r in omega (arith, e);
    }
