use Rattle.std.proofs.Common.{◌≡◌, ℕ, zero, suc, ◌<◌, ◌≤◌, List, [], ◌∷◌, length, refl, sym, ap, subst, arith}
use Rattle.term_core.specs.Tree.{Tree, Trees, app, none, some}
use Rattle.term_core.specs.Ground.{IsGroundIn}
use Rattle.term_core.specs.Precedence.{by_number}
use Rattle.longest_chains.specs.Chains.{Descends, IsLongest}
use Rattle.path_order.specs.Above.{Above, by_argument, by_head, this_is, all_none, all_some}
use Rattle.path_order.specs.Bounded.{AboveWithin, SomeReachesWithin, AboveAllWithin, FallsWithin, within_argument}
use Rattle.path_order.specs.Bounded.{within_head, within_arguments, within_this_is, within_this_above, within_later}
use Rattle.path_order.specs.Bounded.{within_none, within_some, within_here, within_further}
use Rattle.path_order.specs.Rank.{GroundAbove}
use Rattle.longest_chains.proofs.Each.{Each, each-map}
use Rattle.path_order.specs.Irreflexive.{same-arguments, same-symbol}
use Rattle.path_order.specs.BoundedArguments.{within-each}
use Rattle.path_order.specs.RankExamples.{alone, over, zero_term, succ_zero, GroundAboveUnbounded}
use Rattle.path_order.proofs.laws.rank_examples.Goals as goal

none_reaches : {k : ℕ} {ts : Trees} {s : Tree} → SomeReachesWithin by_number k ts s → ts ≡ none → ⊥
none_reaches within_this_is e = cc
none_reaches (within_this_above p) e = cc
none_reaches (within_later r) e = cc

none_falls : {k : ℕ} {t : Tree} {ts ss : Trees} → FallsWithin by_number k t ts ss → ts ≡ none → ⊥
none_falls (within_here e p a) n = cc
none_falls (within_further w) n = cc

-- within 0 a symbol alone is above nothing
nothing_below : {f : ℕ} {s : Tree} → AboveWithin by_number 0 (alone f) s → ⊥
nothing_below (within_argument r) = none_reaches r refl

none_among : {f : ℕ} {ss : Trees} → AboveAllWithin by_number 0 (alone f) ss → ss ≡ none
none_among within_none = refl
none_among (within_some p a) = absurd (nothing_below p)

-- within 1 a symbol alone is above smaller symbols alone
alone_below : {f : ℕ} {s : Tree} → AboveWithin by_number 1 (alone f) s → (g : ℕ) × (g < f) × (s ≡ alone g)
alone_below (within_argument r) = absurd (none_reaches r refl)
alone_below (within_head {g = g} l a) = (g, l, (λ i. app g (none_among a i)))
alone_below (within_arguments q w) = absurd (none_falls w refl)

links_alone :
    (n f : ℕ) (t : Tree) → t ≡ alone f → (ss : List Tree) → Descends (GroundAbove by_number n 1) t ss →
    length ss ≤ f
links_alone n f t e [] d = omega arith
links_alone n f t e (s ∷ ss) d =
    let b = alone_below (subst (λ x. AboveWithin by_number 1 x s) e d.0.2) in
    omega (arith, b.1, links_alone n b.0 s b.2 ss d.1)

-- nothing is below zero
below_zero : {k : ℕ} {t s : Tree} → AboveWithin by_number k t s → t ≡ zero_term → ⊥
below_zero (within_argument r) e = none_reaches r (same-arguments e)
below_zero (within_head l a) e = omega (arith, l, same-symbol e)
below_zero (within_arguments q w) e = none_falls w (same-arguments e)

abbrev AreZero : Trees → Type 0
AreZero ts = Each (λ t. t ≡ zero_term) ts

reached_from_zeros : {k : ℕ} {ts : Trees} {s : Tree} → SomeReachesWithin by_number k ts s → AreZero ts → s ≡ zero_term
reached_from_zeros within_this_is z = z.0
reached_from_zeros (within_this_above p) z = absurd (below_zero p z.0)
reached_from_zeros (within_later r) z = reached_from_zeros r z.1

zeros_fall : {k : ℕ} {t : Tree} {ts ss : Trees} → FallsWithin by_number k t ts ss → AreZero ts → ⊥
zeros_fall (within_here e p a) z = below_zero p z.0
zeros_fall (within_further w) z = zeros_fall w z.1

-- zero alone is below a zero over zeros
below_zeros : {k : ℕ} {ts : Trees} {s : Tree} → AboveWithin by_number k (app 0 ts) s → AreZero ts → s ≡ zero_term
below_zeros (within_argument r) z = reached_from_zeros r z
below_zeros (within_head l a) z = absurd (omega (arith, l))
below_zeros (within_arguments q w) z = absurd (zeros_fall w z)

-- within 1, zeros over zeros are below succ(zero)
below_succ : {s : Tree} → AboveWithin by_number 1 succ_zero s → (ts : Trees) × AreZero ts × (s ≡ app 0 ts)
below_succ (within_argument r) = (none, tt, reached_from_zeros r (refl, tt))
below_succ (within_head {g = g} {ss = ss} l a) = (ss, below_each a, ap (λ x. app x ss) (omega (arith, l)))
  where
    below_one : {s : Tree} → AboveWithin by_number 0 succ_zero s → s ≡ zero_term
    below_one (within_argument r) = reached_from_zeros r (refl, tt)

    below_each : {ss : Trees} → AboveAllWithin by_number 0 succ_zero ss → AreZero ss
    below_each {ss} a = each-map (λ s p. below_one p) ss (within-each by_number a)
below_succ (within_arguments q w) = absurd (zeros_fall w (refl, tt))

links_zeros :
    (t : Tree) (ts : Trees) → t ≡ app 0 ts → AreZero ts → (ss : List Tree) →
    Descends (GroundAbove by_number 2 1) t ss → length ss ≤ 1
links_zeros t ts e z [] d = omega arith
links_zeros t ts e z (s ∷ ss) d =
    let below : s ≡ zero_term = below_zeros (subst (λ x. AboveWithin by_number 1 x s) e d.0.2) z in
    omega (arith, links_alone 2 0 s below ss d.1)

links_succ : (ss : List Tree) → Descends (GroundAbove by_number 2 1) succ_zero ss → length ss ≤ 2
links_succ [] d = omega arith
links_succ (s ∷ ss) d =
    let b = below_succ d.0.2 in
    omega (arith, links_zeros s b.0 b.2 b.1 ss d.1)

not_nested : AboveWithin by_number 1 succ_zero (over 0 (over 0 zero_term)) → ⊥
not_nested p =
    let b = below_succ p in
    unlike (same-arguments b.2) b.1
  where
    apart : over 0 zero_term ≡ zero_term → ⊥
    apart e = cc

    unlike : {ts : Trees} → some (over 0 zero_term) none ≡ ts → AreZero ts → ⊥
    unlike e z = apart (subst AreZero (sym e) z).0

-- each symbol over zero is above zero
above_zero : (k f : ℕ) → AboveWithin by_number k (over f zero_term) zero_term
above_zero k f = within_argument within_this_is

ground : (f n : ℕ) → f < n → IsGroundIn n (alone f)
ground f n l = (l, omega arith, tt)

ground_over : (f n : ℕ) (t : Tree) → f < n → IsGroundIn n t → IsGroundIn n (over f t)
ground_over f n t l g = (l, omega arith, (g, tt))

-- zero over zero over zero .., with this many above the last one, and those below it
tower : ℕ → Tree
tower zero = zero_term
tower (suc m) = over 0 (tower m)

smaller_towers : ℕ → List Tree
smaller_towers zero = []
smaller_towers (suc m) = tower m ∷ smaller_towers m

count_towers : (m : ℕ) → length (smaller_towers m) ≡ m
unfolding smaller_towers
count_towers zero = refl
count_towers (suc m) = omega (arith, count_towers m)

tower_ground : (m : ℕ) → IsGroundIn 2 (tower m)
unfolding tower
tower_ground zero = ground 0 2 (omega arith)
tower_ground (suc m) = ground_over 0 2 (tower m) (omega arith) (tower_ground m)

above_tower : (m : ℕ) → Above by_number succ_zero (tower m)
unfolding tower
above_tower zero = by_argument this_is
above_tower (suc m) = by_head (omega arith) (all_some (above_tower m) all_none)

towers_descend : (m : ℕ) → Descends (GroundAboveUnbounded 2) (tower m) (smaller_towers m)
unfolding tower smaller_towers
towers_descend zero = tt
towers_descend (suc m) = ((tower_ground (suc m), tower_ground m, by_argument this_is), towers_descend m)

no_longest : IsGroundIn 2 succ_zero → (r : ℕ) → IsLongest (GroundAboveUnbounded 2) succ_zero r → ⊥
no_longest g r longest =
    let first : GroundAboveUnbounded 2 succ_zero (tower r) = (g, tower_ground r, above_tower r) in
    omega (arith, count_towers r, longest.no_longer (tower r ∷ smaller_towers r) (first, towers_descend r))

zero_in : IsGroundIn 2 zero_term
zero_in = ground 0 2 (omega arith)

succ_in : IsGroundIn 2 succ_zero
succ_in = ground_over 1 2 zero_term (omega arith) zero_in

-- the chain succ(zero), zero(zero), zero
succ_chain : Descends (GroundAbove by_number 2 1) succ_zero (over 0 zero_term ∷ zero_term ∷ [])
succ_chain =
    let between_in : IsGroundIn 2 (over 0 zero_term) = ground_over 0 2 zero_term (omega arith) zero_in in
    let one : AboveWithin by_number 0 succ_zero zero_term = above_zero 0 1 in
    let below : AboveWithin by_number 1 succ_zero (over 0 zero_term) = within_head (omega arith)
    (within_some one within_none) in
    ((succ_in, between_in, below), ((between_in, zero_in, above_zero 1 0), tt))

last_chain : Descends (GroundAbove by_number 3 1) (alone 2) (alone 1 ∷ alone 0 ∷ [])
last_chain =
    let last : (f : ℕ) → f < 3 → IsGroundIn 3 (alone f) = λ f l. ground f 3 l in
    let one : IsGroundIn 3 (alone 1) = last 1 (omega arith) in (
      (last 2 (omega arith), one, within_head (omega arith) within_none),
      ((one, last 0 (omega arith), within_head (omega arith) within_none), tt),
    )

within_two : AboveWithin by_number 2 succ_zero (over 0 (over 0 zero_term))
within_two =
    let inner : AboveWithin by_number 1 succ_zero (over 0 zero_term) =
    within_head (omega arith) (within_some (above_zero 0 1) within_none)
    in
    within_head (omega arith) (within_some inner within_none)

pub returns : goal.returns
returns c =
    record {
      of_zero = record { some_chain = ([], tt, refl); no_longer = links_alone 2 0 zero_term refl };
      of_succ =
          record { some_chain = (over 0 zero_term ∷ zero_term ∷ [], succ_chain, refl); no_longer = links_succ };
      of_last =
          record {
            some_chain = (alone 1 ∷ alone 0 ∷ [], last_chain, refl);
            no_longer = links_alone 3 2
                (alone 2) refl;
          };
      nested = within_two;
      not_within_one = not_nested;
      unbounded = no_longest succ_in;
    }
