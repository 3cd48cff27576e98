-- Of two ground terms, the first is above the second or it isn't.
use Rattle.std.proofs.Common.{◌≡◌, ◌⊎◌, ℕ, ◌<◌, length, inl, inr, sym, subst, arith}
use Rattle.term_core.specs.Tree.{Tree, Trees, var, app, none, some, list_of}
use Rattle.term_core.specs.Ground.{IsGroundIn, AreGroundIn}
use Rattle.term_core.proofs.Numbers.{same_or_not}
use Rattle.term_core.proofs.SameTrees.{same_tree_or_not}
use Rattle.kbo_order.specs.Weights.{weight_of, Covers}
use Rattle.kbo_order.specs.Above.{AboveByWeight, ArgumentsFall, by_weight, by_head, by_arguments, here, further}
use Rattle.kbo_order.specs.Covered.{ground-covers}
use Rattle.kbo_order.specs.Roots.{RootsFall, cases-of, first-cases, irreflexive}

-- a fact that holds or doesn't
abbrev pub Decided : Type 0 → Type 0
Decided P = P ⊎ (P → ⊥)

pub less-or-not : (a b : ℕ) → Decided (a < b)
less-or-not a b = grind arith

-- by the roots of terms that the first one covers
pub from-roots :
    (w : ℕ → ℕ) (t s : Tree) → Covers t s → weight_of w t ≡ weight_of w s → RootsFall w t s →
    AboveByWeight w t s
from-roots w (var x) s c e r = absurd r
from-roots w (app f ts) (var y) c e r = absurd r
from-roots w (app f ts) (app g ss) c e (inl l) = by_head c e l
from-roots w (app f ts) (app g ss) c e (inr h) =
    let there : AboveByWeight w (app g ts) (app g ss) =
    by_arguments (subst (λ k. Covers (app k ts) (app g ss)) h.0 c)
    (subst (λ k. weight_of w (app k ts) ≡ weight_of w (app g ss)) h.0 e) h.1 in
    subst (λ k. AboveByWeight w (app k ts) (app g ss)) (sym h.0) there

by-roots :
    (w : ℕ → ℕ) (t s : Tree) → Covers t s → Decided (RootsFall w t s) → Decided (AboveByWeight w t s)
by-roots w t s c d =
    elim (less-or-not (weight_of w s) (weight_of w t)) [
      | inl l ↦ inl (by_weight c l)
      | inr n ↦ elim (same_or_not (weight_of w t) (weight_of w s)) [
        | inr other ↦ inr (λ p. elim (cases-of p) [ inl l ↦ n l | inr r ↦ other r.0 ])
        | inl e ↦ elim d [
          | inl r ↦ inl (from-roots w t s c e r)
          | inr fails ↦ inr (λ p. elim (cases-of p) [ inl l ↦ n l | inr r ↦ fails r.1 ])
        ]
      ]
    ]

by-arguments :
    (w : ℕ → ℕ) (f g : ℕ) (ts ss : Trees) → Decided (ArgumentsFall w ts ss) →
    Decided (RootsFall w (app f ts) (app g ss))
by-arguments w f g ts ss d =
    elim (less-or-not g f) [
      | inl l ↦ inl (inl l)
      | inr n ↦ elim (same_or_not f g) [
        | inr other ↦ inr (λ r. elim r [ inl l ↦ n l | inr h ↦ other h.0 ])
        | inl e ↦ elim d [
          | inl h ↦ inl (inr (e, h))
          | inr fails ↦ inr (λ r. elim r [ inl l ↦ n l | inr h ↦ fails h.1 ])
        ]
      ]
    ]

by-first :
    (w : ℕ → ℕ) (a b : Tree) (ts ss : Trees) → Decided (AboveByWeight w a b) →
    Decided (ArgumentsFall w ts ss) → Decided (ArgumentsFall w (some a ts) (some b ss))
by-first w a b ts ss d rest =
    elim (same_tree_or_not a b) [
      | inl e ↦ elim rest [
        | inl h ↦ inl (subst (λ u. ArgumentsFall w (some a ts) (some u ss)) e (further h))
        | inr fails ↦ inr (λ h. elim (first-cases h) [
          | inl p ↦ irreflexive a (subst (λ u. AboveByWeight w a u) (sym e) p.1)
          | inr p ↦ fails p.1
        ])
      ]
      | inr other ↦ elim (same_or_not (length (list_of ts)) (length (list_of ss))) [
        | inr n ↦ inr (λ h. elim (first-cases h) [ inl p ↦ n p.0 | inr p ↦ other p.0 ])
        | inl e ↦ elim d [
          | inl p ↦ inl (here e p)
          | inr fails ↦ inr (λ h. elim (first-cases h) [ inl p ↦ fails p.1 | inr p ↦ other p.0 ])
        ]
      ]
    ]

mutual
  pub decided-above :
      (w : ℕ → ℕ) (n : ℕ) (t s : Tree) → IsGroundIn n t → IsGroundIn n s → Decided (AboveByWeight w t s)
  decided-above w n (var x) s g h = absurd g
  decided-above w n (app f ts) (var y) g h = absurd h
  decided-above w n (app f ts) (app k ss) g h =
      by-roots w (app f ts) (app k ss) (ground-covers n (app f ts) (app k ss) h)
      (by-arguments w f k ts ss (decided-fall w n ts ss g.2 h.2))

  decided-fall :
      (w : ℕ → ℕ) (n : ℕ) (ts ss : Trees) → AreGroundIn n ts → AreGroundIn n ss →
      Decided (ArgumentsFall w ts ss)
  decided-fall w n none ss g h = inr (λ p. first-cases p)
  decided-fall w n (some a ts) none g h = inr (λ p. first-cases p)
  decided-fall w n (some a ts) (some b ss) g h =
      by-first w a b ts ss (decided-above w n a b g.0 h.0) (decided-fall w n ts ss g.1 h.1)
