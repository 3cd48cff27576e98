-- What is above as far as each variable is counted is above, and the other way round.
use Rattle.std.proofs.Common.{◌≡◌, ◌⊎◌, ◌↔◌, ℕ, ◌+◌, ◌<◌, ◌≤◌, Bool, false, IsTrue, refl, inl, inr, subst, arith}
use Rattle.term_core.specs.Tree.{Tree, Trees, var, app, none, some}
use Rattle.term_core.proofs.Numbers.{below_or_not}
use Rattle.kbo_order.specs.Weights.{weight_of, times, times_in_all, Covers}
use Rattle.kbo_order.specs.Above.{AboveByWeight, ArgumentsFall, by_weight, by_head, by_arguments, here, further}
use Rattle.kbo_order.specs.Decided.{from-roots}
use Rattle.kbo_order.specs.Standing.{AboveFor, RootsFallFor, ArgumentsFallFor}
use Rattle.kbo_order.proofs.Standings.{differ, never}

mutual
  pub for-each :
      {w : ℕ → ℕ} {t s : Tree} (x : ℕ) → AboveByWeight w t s → AboveFor w x t s
  for-each x (by_weight c l) = (c.no_more x, inl l)
  for-each x (by_head c e l) = (c.no_more x, inr (e, inl l))
  for-each x (by_arguments c e h) = (c.no_more x, inr (e, inr (refl, fall-for-each x h)))

  fall-for-each :
      {w : ℕ → ℕ} {ts ss : Trees} (x : ℕ) → ArgumentsFall w ts ss → ArgumentsFallFor w x ts ss
  fall-for-each x (here e p) = inl (e, for-each x p)
  fall-for-each x (further h) = inr (refl, fall-for-each x h)

-- of two applications that weigh the same, under one head
arguments-for :
    (w : ℕ → ℕ) (x f g : ℕ) (ts ss : Trees) →
    weight_of w (app f ts) ≡ weight_of w (app g ss) → f ≡ g →
    AboveFor w x (app f ts) (app g ss) → ArgumentsFallFor w x ts ss
arguments-for w x f g ts ss e k p =
    elim p.1 [
      | inl l ↦ absurd (omega (arith, l, e))
      | inr r ↦ elim r.1 [ inl l ↦ absurd (omega (arith, l, k)) | inr h ↦ h.1 ]
    ]

covers-each : (w : ℕ → ℕ) (t s : Tree) → ((x : ℕ) → AboveFor w x t s) → Covers t s
covers-each w t s h = record { no_more = λ x. let p : AboveFor w x t s = h x in p.0 }

-- Weights and heads alone tell which case holds, so it is the same one for each variable.
mutual
  pub from-each :
      (w : ℕ → ℕ) (t s : Tree) → ((x : ℕ) → AboveFor w x t s) → AboveByWeight w t s
  from-each w (var y) s h =
      elim (h 0).1 [ inl l ↦ by_weight (covers-each w (var y) s h) l | inr r ↦ absurd r.1 ]
  from-each w (app f ts) (var y) h =
      elim (h 0).1 [ inl l ↦ by_weight (covers-each w (app f ts) (var y) h) l | inr r ↦ absurd r.1 ]
  from-each w (app f ts) (app g ss) h =
      let c : Covers (app f ts) (app g ss) = covers-each w (app f ts) (app g ss) h in
      elim (h 0).1 [
        | inl l ↦ by_weight c l
        | inr r ↦ elim r.1 [
          | inl l ↦ by_head c r.0 l
          | inr k ↦
              from-roots w (app f ts) (app g ss) c r.0
              (inr (k.0, fall-from-each w ts ss (λ x. arguments-for w x f g ts ss r.0 k.0 (h x))))
        ]
      ]

  fall-from-each :
      (w : ℕ → ℕ) (ts ss : Trees) → ((x : ℕ) → ArgumentsFallFor w x ts ss) → ArgumentsFall w ts ss
  fall-from-each w none ss h = absurd (h 0)
  fall-from-each w (some a ts) none h = absurd (h 0)
  fall-from-each w (some a ts) (some b ss) h =
      elim (h 0) [
        | inl p ↦
            here p.0
            (from-each w a b
            (λ x. elim (h x) [ inl q ↦ q.1 | inr q ↦ absurd (differ w 0 a b p.1 q.0) ]))
        | inr p ↦
            subst (λ u. ArgumentsFall w (some a ts) (some u ss)) p.0
            (further (fall-from-each w ts ss
            (λ x. elim (h x) [ inl q ↦ absurd (differ w x a b q.1 p.0) | inr q ↦ q.1 ])))
      ]

-- A variable that is not in s tells no more than another one.
module _ (w : ℕ → ℕ) (x y : ℕ) where
  mutual
    absent-in-roots :
        (t s : Tree) → times y s ≡ 0 → RootsFallFor w x t s → RootsFallFor w y t s
    absent-in-roots (var z) s n r = absurd r
    absent-in-roots (app f ts) (var z) n r = absurd r
    absent-in-roots (app f ts) (app g ss) n r =
        elim r [
          | inl l ↦ inl l
          | inr h ↦ inr (h.0, absent-in-arguments ts ss (omega (arith, n)) h.1)
        ]

    absent-in-arguments :
        (ts ss : Trees) → times_in_all y ss ≡ 0 → ArgumentsFallFor w x ts ss → ArgumentsFallFor w y ts ss
    absent-in-arguments none ss n h = absurd h
    absent-in-arguments (some a ts) none n h = absurd h
    absent-in-arguments (some a ts) (some b ss) n h =
        elim h [
          | inl p ↦ inl (
            p.0,
            (
              omega (arith, n),
              elim p.1.1 [
                | inl l ↦ inl l
                | inr r ↦ inr (r.0, absent-in-roots a b (omega (arith, n)) r.1)
              ],
            ),
          )
          | inr p ↦ inr (p.0, absent-in-arguments ts ss (omega (arith, n)) p.1)
        ]

  pub absent : (t s : Tree) → times y s ≡ 0 → AboveFor w x t s → AboveFor w y t s
  absent t s n p = (
    omega (arith, n),
    elim p.1 [ inl l ↦ inl l | inr r ↦ inr (r.0, absent-in-roots t s n r.1) ],
  )

-- a test that fails for one variable
pub refuted :
    {w : ℕ → ℕ} {t s : Tree} {P : Type 0} {answer : Bool} (x : ℕ) → answer ≡ false →
    IsTrue answer ↔ (P × AboveFor w x t s) → IsTrue false ↔ (P × AboveByWeight w t s)
refuted x fails tells =
    (λ h. never h, λ p. absurd (never (subst IsTrue fails (tells.1 (p.0, for-each x p.1)))))

by-place : (y from x : ℕ) → y < x + 1 → (y < from) ⊎ ((from ≤ y) × (y < x)) ⊎ (x ≡ y)
by-place y from x l = grind arith

-- from the variables before a number on to the next one in s, and to all of them
module _ (w : ℕ → ℕ) (t s : Tree) (from : ℕ) (positive : 1 ≤ from)
    (before : (y : ℕ) → y < from → AboveFor w y t s) where
  pub up-to :
      (x : ℕ) → ((y : ℕ) → from ≤ y → y < x → times y s ≡ 0) → AboveFor w x t s →
      (y : ℕ) → y < x + 1 → AboveFor w y t s
  up-to x skipped p y l =
      elim (by-place y from x l) [
        | inl m ↦ before y m
        | inr r ↦ elim r [
          | inl m ↦ absent w 0 y t s (skipped y m.0 m.1) (before 0 (omega (arith, positive)))
          | inr e ↦ subst (λ z. AboveFor w z t s) e p
        ]
      ]

  pub in-all : ((y : ℕ) → from ≤ y → times y s ≡ 0) → AboveByWeight w t s
  in-all skipped =
      from-each w t s
      (λ y. elim (below_or_not y from) [
        | inl m ↦ before y m
        | inr m ↦ absent w 0 y t s (skipped y m) (before 0 (omega (arith, positive)))
      ])
