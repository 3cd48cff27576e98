-- Which case of the definition holds, by the roots of the terms.
use Rattle.std.proofs.Common.{◌≡◌, ◌⊎◌, ℕ, ◌<◌, ◌≤◌, length, inl, inr, refl, arith}
use Rattle.term_core.specs.Tree.{Tree, Trees, var, app, none, some, list_of}
use Rattle.kbo_order.specs.Weights.{weight_of, Covers}
use Rattle.kbo_order.specs.Above.{AboveByWeight, ArgumentsFall, by_weight, by_head, by_arguments, here, further}

-- of terms that weigh the same: the heads fall, or the arguments
abbrev pub RootsFall : (ℕ → ℕ) → Tree → Tree → Type 0
RootsFall w (var x) s = ⊥
RootsFall w (app f ts) (var y) = ⊥
RootsFall w (app f ts) (app g ss) = (g < f) ⊎ ((f ≡ g) × ArgumentsFall w ts ss)

abbrev pub Cases : (ℕ → ℕ) → Tree → Tree → Type 0
Cases w t s = (weight_of w s < weight_of w t) ⊎ ((weight_of w t ≡ weight_of w s) × RootsFall w t s)

pub cases-of : {w : ℕ → ℕ} {t s : Tree} → AboveByWeight w t s → Cases w t s
cases-of (by_weight c l) = inl l
cases-of (by_head c e l) = inr (e, inl l)
cases-of (by_arguments c e h) = inr (e, inr (refl, h))

pub cover-of : {w : ℕ → ℕ} {t s : Tree} → AboveByWeight w t s → Covers t s
cover-of (by_weight c l) = c
cover-of (by_head c e l) = c
cover-of (by_arguments c e h) = c

-- the first arguments differ, or those after them fall
abbrev pub FirstCases : (ℕ → ℕ) → Trees → Trees → Type 0
FirstCases w none ss = ⊥
FirstCases w (some a ts) none = ⊥
FirstCases w (some a ts) (some b ss) =
    ((length (list_of ts) ≡ length (list_of ss)) × AboveByWeight w a b) ⊎ ((a ≡ b) × ArgumentsFall w ts ss)

pub first-cases : {w : ℕ → ℕ} {ts ss : Trees} → ArgumentsFall w ts ss → FirstCases w ts ss
first-cases (here e p) = inl (e, p)
first-cases (further h) = inr (refl, h)

mutual
  pub irreflexive : {w : ℕ → ℕ} (t : Tree) → AboveByWeight w t t → ⊥
  irreflexive (var x) p = elim (cases-of p) [ inl l ↦ omega (arith, l) | inr r ↦ r.1 ]
  irreflexive (app f ts) p =
      elim (cases-of p) [
        | inl l ↦ omega (arith, l)
        | inr r ↦ elim r.1 [ inl l ↦ omega (arith, l) | inr h ↦ none-fall ts h.1 ]
      ]

  pub none-fall : {w : ℕ → ℕ} (ts : Trees) → ArgumentsFall w ts ts → ⊥
  none-fall none h = first-cases h
  none-fall (some t ts) h = elim (first-cases h) [ inl p ↦ irreflexive t p.1 | inr p ↦ none-fall ts p.1 ]

-- a number that is at least another is greater, or the same
pub more-or-same : (a b : ℕ) → a ≤ b → (a < b) ⊎ (b ≡ a)
more-or-same a b l = grind arith
