-- A list that has each number from 1 to its length once has no other number, so a sum over the list
-- is a sum over these numbers. Levels and statuses that are written out by number are in order.
use Rattle.std.proofs.Common.{◌≡◌, ◌⊎◌, ℕ, zero, suc, ◌+◌, ◌*◌, ◌≤◌, ◌<◌, true, List, [], ◌∷◌, length, map, ap, subst}
use Rattle.std.proofs.Common.{sym, refl, ◌∙◌, inl, inr, arith}
use Rattle.std.proofs.lemmas.Bool.{eqb-true, eq-eqb, and_parts, and_from}
use Rattle.std.proofs.lemmas.List.{length-map}
use Rattle.std.proofs.lemmas.List.FromFn.{length-range_with_len, get_or-range_with_len}
use Rattle.std.proofs.Math.ListN.{get_or-eq_default}
use Rattle.std.proofs.lemmas.Bool.Decides.{eqb_tells}
use Rattle.std.specs.Prelude.{◌==◌, if◌then◌else◌, slice_index_or}
use Rattle.std.specs.List.{AllByRecursion, range_with_len}
use Rattle.term_core.specs.Precedence.{times, has_once, is_status, level, written_by_number, AreStatuses, IsPrecedence}
use Rattle.term_core.proofs.Members.{In}
use Rattle.term_core.proofs.Numbers.{same_or_not, below_or_not}

-- how often the first number counts
hit : ℕ → ℕ → ℕ
hit n p = if p == n then 1 else 0

hit-cases : (n p : ℕ) → ((p ≡ n) × (hit n p ≡ 1)) ⊎ ((p ≡ n → ⊥) × (hit n p ≡ 0))
unfolding hit
hit-cases n p =
    elim (eqb_tells p n) [
      | inl h ↦ inl (h.1, ap (λ b. if b then 1 else 0) h.0)
      | inr h ↦ inr (h.1, ap (λ b. if b then 1 else 0) h.0)
    ]

times-first : (n p : ℕ) (ps : List ℕ) → times n (p ∷ ps) ≡ hit n p + times n ps
unfolding hit
times-first n p ps = refl

pub times-here : (n p : ℕ) (ps : List ℕ) → p ≡ n → times n (p ∷ ps) ≡ suc (times n ps)
times-here n p ps e =
    elim (hit-cases n p) [
      | inl h ↦ omega (arith, times-first n p ps, h.1)
      | inr h ↦ absurd (h.0 e)
    ]

pub times-other : (n p : ℕ) (ps : List ℕ) → (p ≡ n → ⊥) → times n (p ∷ ps) ≡ times n ps
times-other n p ps d =
    elim (hit-cases n p) [
      | inl h ↦ absurd (d h.0)
      | inr h ↦ omega (arith, times-first n p ps, h.1)
    ]

-- a number that the list has once at least is one of the list
pub times-in : (n : ℕ) (ps : List ℕ) → 1 ≤ times n ps → In n ps
times-in n [] h = absurd (omega arith)
times-in n (p ∷ ps) h =
    elim (same_or_not p n) [
      | inl e ↦ inl (sym e)
      | inr d ↦ inr (times-in n ps (omega (arith, h, times-other n p ps d)))
    ]

-- the sum over the numbers from 1 to m
abbrev pub sum_to : (ℕ → ℕ) → ℕ → ℕ
sum_to w zero = 0
sum_to w (suc m) = w (suc m) + sum_to w m

-- the same, each number as often as the list has it
spread : (ℕ → ℕ) → ℕ → List ℕ → ℕ
spread w zero ps = 0
spread w (suc m) ps = times (suc m) ps * w (suc m) + spread w m ps

-- the sum over the numbers of a list
abbrev pub sum_of : (ℕ → ℕ) → List ℕ → ℕ
sum_of w [] = 0
sum_of w (p ∷ ps) = w p + sum_of w ps

-- a number from 1 to m
abbrev pub IsPlace : ℕ → ℕ → Type 0
IsPlace m p = (1 ≤ p) × (p ≤ m)

module _ (w : ℕ → ℕ) where
  spread-none : (m : ℕ) → spread w m [] ≡ 0
  unfolding spread
  spread-none zero = refl
  spread-none (suc m) = omega (arith, spread-none m)

  spread-other :
      (m p : ℕ) (ps : List ℕ) → (IsPlace m p → ⊥) → spread w m (p ∷ ps) ≡ spread w m ps
  unfolding spread
  spread-other zero p ps d = refl
  spread-other (suc m) p ps d =
      let apart : p ≡ suc m → ⊥ = λ e. d (omega (arith, e), omega (arith, e)) in
      let rest = spread-other m p ps (λ h. d (h.0, omega (arith, h.1))) in
      let same : times (suc m) (p ∷ ps) * w (suc m) ≡ times (suc m) ps * w (suc m) =
      ap (λ k. k * w (suc m)) (times-other (suc m) p ps apart) in
      omega (arith, same, rest)

  spread-place :
      (m p : ℕ) (ps : List ℕ) → IsPlace m p → spread w m (p ∷ ps) ≡ w p + spread w m ps
  unfolding spread
  spread-place zero p ps h = absurd (omega (arith, h.0, h.1))
  spread-place (suc m) p ps h =
      elim (same_or_not p (suc m)) [
        | inl e ↦
            let rest = spread-other m p ps (λ k. omega (arith, e, k.1)) in
            let more : times (suc m) (p ∷ ps) * w (suc m) ≡ suc (times (suc m) ps) * w (suc m) =
            ap (λ k. k * w (suc m)) (times-here (suc m) p ps e) in
            let one : w p ≡ w (suc m) = ap w e in
            omega (arith, more, one, rest)
        | inr d ↦
            let rest = spread-place m p ps (h.0, omega (arith, h.1, d)) in
            let same : times (suc m) (p ∷ ps) * w (suc m) ≡ times (suc m) ps * w (suc m) =
            ap (λ k. k * w (suc m)) (times-other (suc m) p ps d) in
            omega (arith, same, rest)
      ]

  once-spread : (m : ℕ) (ps : List ℕ) → has_once m ps ≡ true → spread w m ps ≡ sum_to w m
  unfolding spread
  once-spread zero ps h = refl
  once-spread (suc m) ps h =
      let b = and_parts _ _ h in
      let one : times (suc m) ps * w (suc m) ≡ 1 * w (suc m) =
      ap (λ k. k * w (suc m)) (eqb-true (times (suc m) ps) 1 b.0) in
      omega (arith, one, once-spread m ps b.1)

  places-spread :
      (m : ℕ) (ps : List ℕ) → AllByRecursion (IsPlace m) ps → spread w m ps ≡ sum_of w ps
  places-spread m [] h = spread-none m
  places-spread m (p ∷ ps) h = omega (arith, spread-place m p ps h.0, places-spread m ps h.1)

place-cases : (m p : ℕ) → IsPlace m p ⊎ (IsPlace m p → ⊥)
place-cases m p = choose (cases m p)
  where
    cases : (m p : ℕ) → (p < 1) ⊎ ((m < p) ⊎ ((1 ≤ p) × (p ≤ m)))
    cases m p = grind arith

    choose : (p < 1) ⊎ ((m < p) ⊎ ((1 ≤ p) × (p ≤ m))) → IsPlace m p ⊎ (IsPlace m p → ⊥)
    choose (inl l) = inr (λ h. omega (arith, l, h.0))
    choose (inr (inl l)) = inr (λ h. omega (arith, l, h.1))
    choose (inr (inr h)) = inl h

ones : ℕ → ℕ
ones n = 1

sum-ones : (m : ℕ) → sum_to ones m ≡ m
unfolding ones
sum-ones zero = refl
sum-ones (suc m) = omega (arith, sum-ones m)

few-places : (m : ℕ) (ps : List ℕ) → spread ones m ps ≤ length ps
unfolding ones
few-places m [] = omega (arith, spread-none ones m)
few-places m (p ∷ ps) =
    elim (place-cases m p) [
      | inl h ↦ omega (arith, spread-place ones m p ps h, few-places m ps)
      | inr d ↦ omega (arith, spread-other ones m p ps d, few-places m ps)
    ]

all-places :
    (m : ℕ) (ps : List ℕ) → spread ones m ps ≡ length ps → AllByRecursion (IsPlace m) ps
unfolding ones
all-places m [] e = tt
all-places m (p ∷ ps) e =
    elim (place-cases m p) [
      | inl h ↦ (h, all-places m ps (omega (arith, e, spread-place ones m p ps h)))
      | inr d ↦ absurd (omega (arith, e, spread-other ones m p ps d, few-places m ps))
    ]

-- a status has no number but those from 1 to its length
pub status-places :
    (ps : List ℕ) → is_status ps ≡ true → AllByRecursion (IsPlace (length ps)) ps
status-places ps h =
    all-places (length ps) ps (once-spread ones (length ps) ps h ∙ sum-ones (length ps))

pub status-sums :
    (w : ℕ → ℕ) (ps : List ℕ) → is_status ps ≡ true → sum_of w ps ≡ sum_to w (length ps)
status-sums w ps h =
    sym (places-spread w (length ps) ps (status-places ps h)) ∙ once-spread w (length ps) ps h

once-times :
    (m : ℕ) (ps : List ℕ) → has_once m ps ≡ true → (n : ℕ) → IsPlace m n → times n ps ≡ 1
once-times zero ps h n p = absurd (omega (arith, p.0, p.1))
once-times (suc m) ps h n p =
    elim (same_or_not n (suc m)) [
      | inl e ↦ ap (λ k. times k ps) e ∙ eqb-true (times (suc m) ps) 1 (and_parts _ _ h).0
      | inr d ↦ once-times m ps (and_parts _ _ h).1 n (p.0, omega (arith, p.1, d))
    ]

-- it has each of them once
pub status-once :
    (ps : List ℕ) → is_status ps ≡ true → (n : ℕ) → IsPlace (length ps) n → times n ps ≡ 1
status-once ps h n p = once-times (length ps) ps h n p

-- the numbers in their order are a status

times-below : (n a k : ℕ) → n < a → times n (range_with_len a k) ≡ 0
times-below n a zero l = refl
times-below n a (suc k) l =
    times-other n a (range_with_len (a + 1) k) (λ e. omega (arith, l, e))
    ∙ times-below n (a + 1) k (omega (arith, l))

times-among : (n a k : ℕ) → a ≤ n → n < a + k → times n (range_with_len a k) ≡ 1
times-among n a zero l h = absurd (omega (arith, l, h))
times-among n a (suc k) l h =
    elim (same_or_not a n) [
      | inl e ↦
          let rest = times-below n (a + 1) k (omega (arith, e)) in
          omega (arith, times-here n a (range_with_len (a + 1) k) e, rest)
      | inr d ↦
          times-other n a (range_with_len (a + 1) k) d
          ∙ times-among n (a + 1) k (omega (arith, l, d)) (omega (arith, h))
    ]

range-has-once : (m k : ℕ) → m ≤ k → has_once m (range_with_len 1 k) ≡ true
range-has-once zero k l = refl
range-has-once (suc m) k l =
    and_from _ _
    (eq-eqb (times (suc m) (range_with_len 1 k)) 1
    (times-among (suc m) 1 k (omega arith) (omega (arith, l))))
    (range-has-once m k (omega (arith, l)))

pub range-is-status : (k : ℕ) → is_status (range_with_len 1 k) ≡ true
range-is-status k =
    subst (λ m. has_once m (range_with_len 1 k) ≡ true) (sym (length-range_with_len 1 k))
    (range-has-once k k (omega arith))

ranges-are-statuses : (arities : List ℕ) → AreStatuses (map (range_with_len 1) arities)
ranges-are-statuses [] = tt
ranges-are-statuses (a ∷ arities) = (range-is-status a, ranges-are-statuses arities)

-- the level of each symbol, written out, is its number
pub written-level : (arities : List ℕ) (f : ℕ) → level (written_by_number arities) f ≡ f
written-level arities f =
    elim (below_or_not f (length arities)) [
      | inl l ↦ omega (arith, get_or-range_with_len 0 (length arities) f f l)
      | inr l ↦
          get_or-eq_default (range_with_len 0 (length arities)) f {n = f}
          (omega (arith, l, length-range_with_len 0 (length arities)))
    ]

-- what is written out meets the conditions
pub written-is-precedence : (arities : List ℕ) → IsPrecedence (written_by_number arities)
written-is-precedence arities =
    record {
      one_length =
          omega (arith, length-map arities (range_with_len 1), length-range_with_len 0 (length arities));
      below = λ f l. omega (arith, l, written-level arities f);
      in_order = ranges-are-statuses arities;
      one_arity = λ f g l k e.
          let same : f ≡ g = sym (written-level arities f) ∙ e ∙ written-level arities g in
          ap (λ h. length (slice_index_or (map (range_with_len 1) arities) h [])) same;
    }
