-- Each way down in the ordering by weights ends. By induction on the weight, inside it on the head,
-- and inside that on the arguments from the first one on.
use Rattle.std.proofs.Common.{◌≡◌, ℕ, zero, suc, ◌<◌, ◌≤◌, List, inl, inr, refl, subst, arith}
use Rattle.term_core.specs.Tree.{Tree, Trees, var, app, none, some, list_of}
use Rattle.longest_chains.proofs.Accessible.{Accessible, accessible}
use Rattle.longest_chains.proofs.Lexicographic.{FirstFalls, at_first, behind, AllAccessible, FallsTo, lists-accessible}
use Rattle.kbo_order.specs.Weights.{weight_of, weight_of_all}
use Rattle.kbo_order.specs.Above.{AboveByWeight, ArgumentsFall, by_weight, by_head, by_arguments, here, further}
use Rattle.kbo_order.specs.Roots.{cases-of, more-or-same}

list-falls :
    {w : ℕ → ℕ} {ts ss : Trees} → ArgumentsFall w ts ss →
    FirstFalls (AboveByWeight w) (list_of ts) (list_of ss)
list-falls (here e p) = at_first e p
list-falls (further h) = behind (list-falls h)

module _ (w : ℕ → ℕ) (positive : (f : ℕ) → 1 ≤ w f) where
  abbrev Ends : Tree → Type 0
  Ends t = Accessible (AboveByWeight w) t

  -- each way down from the terms that weigh less than m ends
  abbrev LightEnd : ℕ → Type 0
  LightEnd m = (t : Tree) → weight_of w t < m → Ends t

  -- and each way down from those of weight m with this head
  abbrev HeadEnds : ℕ → ℕ → Type 0
  HeadEnds m f = (ts : Trees) → weight_of w (app f ts) ≡ m → Ends (app f ts)

  all-light :
      (m : ℕ) → LightEnd m → (ts : Trees) → weight_of_all w ts < m →
      AllAccessible (AboveByWeight w) (list_of ts)
  all-light m light none l = tt
  all-light m light (some t ts) l = (light t (omega (arith, l)), all-light m light ts (omega (arith, l)))

  smaller :
      (m : ℕ) → LightEnd m → {f : ℕ} {ts : Trees} {s : Tree} → AboveByWeight w (app f ts) s →
      weight_of w (app f ts) ≡ m → ((g : ℕ) → g < f → HeadEnds m g) →
      ((ss : Trees) → FallsTo (AboveByWeight w) (list_of ts) (list_of ss) →
      weight_of w (app f ss) ≡ m → Ends (app f ss)) →
      Ends s
  smaller m light (by_weight {s = s} c l) e heads low = light s (omega (arith, l, e))
  smaller m light (by_head {g = g} {ss = ss} c q l) e heads low = heads g l ss (omega (arith, q, e))
  smaller m light (by_arguments {f = f} {ss = ss} c q h) e heads low =
      low ss (list-falls h, all-light m light ss (omega (arith, positive f, q, e))) (omega (arith, q, e))

  by-lists :
      (m : ℕ) → LightEnd m → (f : ℕ) → ((g : ℕ) → g < f → HeadEnds m g) → {us : List Tree} →
      Accessible (FallsTo (AboveByWeight w)) us → (ts : Trees) → list_of ts ≡ us →
      weight_of w (app f ts) ≡ m → Ends (app f ts)
  by-lists m light f heads (accessible us h) ts same e =
      accessible (app f ts)
      (λ s p. smaller m light p e heads
      (λ ss low q. by-lists m light f heads
      (h (list_of ss) (subst (λ xs. FallsTo (AboveByWeight w) xs (list_of ss)) same low)) ss refl q))

  head-ends : (m : ℕ) → LightEnd m → (f : ℕ) → ((g : ℕ) → g < f → HeadEnds m g) → HeadEnds m f
  head-ends m light f heads ts e =
      by-lists m light f heads
      (lists-accessible (AboveByWeight w) (list_of ts) (all-light m light ts (omega (arith, positive f, e))))
      ts refl e

  heads-end : (m : ℕ) → LightEnd m → (k f : ℕ) → f < k → HeadEnds m f
  heads-end m light zero f l = absurd (omega (arith, l))
  heads-end m light (suc k) f l =
      head-ends m light f (λ g less. heads-end m light k g (omega (arith, l, less)))

  of-weight : (m : ℕ) → LightEnd m → (t : Tree) → weight_of w t ≡ m → Ends t
  of-weight m light (var x) e =
      accessible (var x)
      (λ s p. elim (cases-of p) [ inl l ↦ light s (omega (arith, l, e)) | inr r ↦ absurd r.1 ])
  of-weight m light (app f ts) e = heads-end m light (suc f) f (omega arith) ts e

  light-end : (m : ℕ) → LightEnd m
  light-end zero t l = absurd (omega (arith, l))
  light-end (suc m) t l =
      elim (more-or-same (weight_of w t) m (omega (arith, l))) [
        | inl less ↦ light-end m t less
        | inr e ↦ of-weight m (light-end m) t (omega (arith, e))
      ]

  pub each-way-ends : (t : Tree) → Accessible (AboveByWeight w) t
  each-way-ends t = light-end (suc (weight_of w t)) t (omega arith)
