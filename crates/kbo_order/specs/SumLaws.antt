-- Laws of sums over terms: in contexts, of instances, and by the variables alone.
use Rattle.std.proofs.Common.{◌≡◌, ℕ, ◌+◌, ◌-◌, ◌≤◌, List, [], ◌∷◌, inl, inr, refl, ap, arith}
use Rattle.std.specs.Prelude.{◌==◌, if◌then◌else◌}
use Rattle.std.specs.List.{sum_by}
use Rattle.std.proofs.lemmas.Bool.Decides.{nat_tests}
use Rattle.std.proofs.lemmas.List.Sums.{sum_by-append, sum_by-cons}
use Rattle.term_core.specs.Tree.{Tree, Trees, var, app, none, some, instance, instances}
use Rattle.term_core.specs.Contexts.{Context, hole, under, around, plug}
use Rattle.term_core.specs.Variables.{occurrences, occurrences_all}
use Rattle.term_core.proofs.Numbers.{same_or_not}
use Rattle.kbo_order.specs.Sums.{total, totals}
use Rattle.kbo_order.specs.Weights.{weight_of, weight_of_all, Covers}

-- the sum over what is around the hole
abbrev pub outside : (ℕ → ℕ) → (ℕ → ℕ) → Context → ℕ
outside v w hole = 0
outside v w (under f before c after) = w f + totals v w before + outside v w c + totals v w after

totals-around :
    (v w : ℕ → ℕ) (before : Trees) (t : Tree) (after : Trees) →
    totals v w (around before t after) ≡ totals v w before + total v w t + totals v w after
totals-around v w none t after = omega arith
totals-around v w (some a before) t after = omega (arith, totals-around v w before t after)

pub total-plug :
    (v w : ℕ → ℕ) (c : Context) (t : Tree) →
    total v w (plug c t) ≡ outside v w c + total v w t
total-plug v w hole t = omega arith
total-plug v w (under f before c after) t =
    omega (arith, totals-around v w before (plug c t) after, total-plug v w c t)

-- the sum over the variables alone
abbrev pub over_variables : (ℕ → ℕ) → Tree → ℕ
over_variables v t = total v (λ f. 0) t

mutual
  pub total-instance :
      (v : ℕ → ℕ) (xs : List Tree) (t : Tree) →
      over_variables v (instance xs t) ≡ over_variables (λ x. over_variables v (instance xs (var x))) t
  total-instance v xs (var x) = refl
  total-instance v xs (app f ts) = omega (arith, totals-instances v xs ts)

  totals-instances :
      (v : ℕ → ℕ) (xs : List Tree) (ts : Trees) →
      totals v (λ f. 0) (instances xs ts) ≡ totals (λ x. over_variables v (instance xs (var x))) (λ f. 0) ts
  totals-instances v xs none = refl
  totals-instances v xs (some t ts) = omega (arith, total-instance v xs t, totals-instances v xs ts)

pub weight-positive : (w : ℕ → ℕ) → ((f : ℕ) → 1 ≤ w f) → (t : Tree) → 1 ≤ weight_of w t
weight-positive w p (var x) = omega arith
weight-positive w p (app f ts) = omega (arith, p f)

-- how much heavier the terms for the variables are than variables
abbrev pub gain : (ℕ → ℕ) → List Tree → Tree → ℕ
gain w xs t = over_variables (λ x. weight_of w (instance xs (var x)) - 1) t

mutual
  pub weight-instance :
      (w : ℕ → ℕ) → ((f : ℕ) → 1 ≤ w f) → (xs : List Tree) (t : Tree) →
      weight_of w (instance xs t) ≡ weight_of w t + gain w xs t
  weight-instance w p xs (var x) = omega (arith, weight-positive w p (instance xs (var x)))
  weight-instance w p xs (app f ts) = omega (arith, weights-instances w p xs ts)

  weights-instances :
      (w : ℕ → ℕ) → ((f : ℕ) → 1 ≤ w f) → (xs : List Tree) (ts : Trees) →
      weight_of_all w (instances xs ts)
      ≡ weight_of_all w ts + totals (λ x. weight_of w (instance xs (var x)) - 1) (λ f. 0) ts
  weights-instances w p xs none = omega arith
  weights-instances w p xs (some t ts) =
      omega (arith, weight-instance w p xs t, weights-instances w p xs ts)

-- sums over lists of variables
mutual
  over-occurrences :
      (v : ℕ → ℕ) (t : Tree) → over_variables v t ≡ sum_by v (occurrences t)
  over-occurrences v (var x) = omega (arith, sum_by-cons v x [])
  over-occurrences v (app f ts) = omega (arith, over-all-occurrences v ts)

  over-all-occurrences :
      (v : ℕ → ℕ) (ts : Trees) → totals v (λ f. 0) ts ≡ sum_by v (occurrences_all ts)
  over-all-occurrences v none = refl
  over-all-occurrences v (some t ts) =
      omega (
        arith,
        over-occurrences v t,
        over-all-occurrences v ts,
        sum_by-append v (occurrences t) (occurrences_all ts),
      )

abbrev pub one_at : ℕ → ℕ → ℕ
one_at x y = if x == y then 1 else 0

one-same : (x y : ℕ) → x ≡ y → one_at x y ≡ 1
one-same x y e = grind (arith, nat_tests)

one-other : (x y : ℕ) → (x ≡ y → ⊥) → one_at x y ≡ 0
one-other x y n = grind (arith, nat_tests)

-- a list with the number in it has the same sums as the number and some others
taken-out :
    (x : ℕ) (ys : List ℕ) → 1 ≤ sum_by (one_at x) ys →
    (zs : List ℕ) × ((v : ℕ → ℕ) → sum_by v ys ≡ v x + sum_by v zs)
taken-out x [] l = absurd (omega (arith, l))
taken-out x (y ∷ ys) l =
    elim (same_or_not x y) [
      | inl e ↦ (ys, λ v. omega (arith, sum_by-cons v y ys, ap v e))
      | inr n ↦
          let r = taken-out x ys (omega (arith, l, sum_by-cons (one_at x) y ys, one-other x y n)) in
          (y ∷ r.0, λ v. omega (arith, sum_by-cons v y ys, sum_by-cons v y r.0, r.1 v))
    ]

sums-below :
    (xs ys : List ℕ) → ((x : ℕ) → sum_by (one_at x) xs ≤ sum_by (one_at x) ys) → (v : ℕ → ℕ) →
    sum_by v xs ≤ sum_by v ys
sums-below [] ys h v = omega arith
sums-below (x ∷ xs) ys h v =
    let r = taken-out x ys (omega (arith, h x, sum_by-cons (one_at x) x xs, one-same x x refl)) in
    let below = sums-below xs r.0 (λ z. omega (arith, h z, sum_by-cons (one_at z) x xs, r.1 (one_at z))) v in
    omega (arith, below, r.1 v, sum_by-cons v x xs)

-- if no variable is more often in s, each sum over its variables is no greater
pub covered-sum :
    (t s : Tree) → Covers t s → (v : ℕ → ℕ) → over_variables v s ≤ over_variables v t
covered-sum t s c v =
    let below = sums-below (occurrences s) (occurrences t)
    (λ x. omega (arith, c.no_more x, over-occurrences (one_at x) s, over-occurrences (one_at x) t)) v in
    omega (arith, below, over-occurrences v s, over-occurrences v t)
