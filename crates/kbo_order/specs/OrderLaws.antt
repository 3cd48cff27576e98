-- The laws of an order on terms, for the ordering by weights.
use Rattle.std.proofs.Common.{◌≡◌, ◌⊎◌, ◌∙◌, ℕ, ◌-◌, ◌<◌, ◌≤◌, List, inl, inr, refl, sym, arith}
use Rattle.term_core.specs.Tree.{Tree, Trees, var, app, none, some, instance, instances}
use Rattle.term_core.specs.Contexts.{Context, hole, under, around, plug}
use Rattle.term_order.specs.Laws.{IsTermOrder}
use Rattle.term_order.proofs.Instances.{length-instances}
use Rattle.kbo_order.specs.Weights.{weight_of, Covers}
use Rattle.kbo_order.specs.Above.{AboveByWeight, ArgumentsFall, by_weight, by_head, by_arguments, here, further}
use Rattle.kbo_order.specs.SumLaws.{total-plug, weight-instance, covered-sum, gain}
use Rattle.kbo_order.specs.Covered.{covers-plug, covers-out, covers-part, covers-instance}
use Rattle.kbo_order.specs.Roots.{cases-of, cover-of, first-cases, irreflexive, none-fall, more-or-same}

module _ (w : ℕ → ℕ) (positive : (f : ℕ) → 1 ≤ w f) where
  -- the instance of the first term gains at least as much weight as that of the second
  gains : (xs : List Tree) (t s : Tree) → Covers t s → gain w xs s ≤ gain w xs t
  gains xs t s c = covered-sum t s c (λ x. weight_of w (instance xs (var x)) - 1)

  instance-weighs-more :
      (xs : List Tree) (t s : Tree) → Covers t s → weight_of w s < weight_of w t →
      weight_of w (instance xs s) < weight_of w (instance xs t)
  instance-weighs-more xs t s c l =
      omega (arith, l, gains xs t s c, weight-instance w positive xs t, weight-instance w positive xs s)

  instance-weighs :
      (xs : List Tree) (t s : Tree) → Covers t s → weight_of w t ≡ weight_of w s →
      (weight_of w (instance xs s) < weight_of w (instance xs t))
      ⊎ (weight_of w (instance xs t) ≡ weight_of w (instance xs s))
  instance-weighs xs t s c e =
      more-or-same (weight_of w (instance xs s)) (weight_of w (instance xs t))
      (omega (arith, e, gains xs t s c, weight-instance w positive xs t, weight-instance w positive xs s))

  mutual
    pub above-instance :
        (xs : List Tree) {t s : Tree} → AboveByWeight w t s →
        AboveByWeight w (instance xs t) (instance xs s)
    above-instance xs (by_weight {t = t} {s = s} c l) =
        by_weight (covers-instance xs t s c) (instance-weighs-more xs t s c l)
    above-instance xs (by_head {f = f} {g = g} {ts = ts} {ss = ss} c e l) =
        let d = covers-instance xs (app f ts) (app g ss) c in
        elim (instance-weighs xs (app f ts) (app g ss) c e) [ inl m ↦ by_weight d m | inr q ↦ by_head d q l ]
    above-instance xs (by_arguments {f = f} {ts = ts} {ss = ss} c e h) =
        let d = covers-instance xs (app f ts) (app f ss) c in
        let i = falls-instance xs h in
        elim (instance-weighs xs (app f ts) (app f ss) c e) [ inl m ↦ by_weight d m | inr q ↦ by_arguments d q i ]

    falls-instance :
        (xs : List Tree) {ts ss : Trees} → ArgumentsFall w ts ss →
        ArgumentsFall w (instances xs ts) (instances xs ss)
    falls-instance xs (here {ts = ts} {ss = ss} e p) =
        here (length-instances xs ts ∙ e ∙ sym (length-instances xs ss)) (above-instance xs p)
    falls-instance xs (further h) = further (falls-instance xs h)

  pub above-part :
      (f : ℕ) (before after : Trees) (c : Context) (s : Tree) →
      AboveByWeight w (plug (under f before c after) s) s
  above-part f before after c s =
      by_weight (covers-part (under f before c after) s)
      (omega (arith, positive f, total-plug (λ x. 1) w (under f before c after) s))

  place-falls :
      (before : Trees) (a b : Tree) (after : Trees) → AboveByWeight w a b →
      ArgumentsFall w (around before a after) (around before b after)
  place-falls none a b after p = here refl p
  place-falls (some u before) a b after p = further (place-falls before a b after p)

  pub in-context : (c : Context) (t s : Tree) → AboveByWeight w t s → AboveByWeight w (plug c t) (plug c s)
  in-context hole t s p = p
  in-context (under f before c after) t s p =
      let q = in-context c t s p in
      let d = covers-plug (under f before c after) t s (cover-of p) in
      let m = total-plug (λ x. 1) w (under f before c after) t in
      let n = total-plug (λ x. 1) w (under f before c after) s in
      elim (cases-of p) [
        | inl l ↦ by_weight d (omega (arith, l, m, n))
        | inr r ↦ by_arguments d (omega (arith, r.0, m, n)) (place-falls before (plug c t) (plug c s) after q)
      ]

  -- the arguments before the place are the same, and so are those after it
  falls-there :
      (before : Trees) (a b : Tree) (after : Trees) →
      ArgumentsFall w (around before a after) (around before b after) → AboveByWeight w a b
  falls-there none a b after h =
      elim (first-cases h) [ inl p ↦ p.1 | inr p ↦ absurd (none-fall after p.1) ]
  falls-there (some u before) a b after h =
      elim (first-cases h) [ inl p ↦ absurd (irreflexive u p.1) | inr p ↦ falls-there before a b after p.1 ]

  pub out-of-context : (c : Context) (t s : Tree) → AboveByWeight w (plug c t) (plug c s) → AboveByWeight w t s
  out-of-context hole t s p = p
  out-of-context (under f before c after) t s p =
      let m = total-plug (λ x. 1) w (under f before c after) t in
      let n = total-plug (λ x. 1) w (under f before c after) s in
      elim (cases-of p) [
        | inl l ↦ by_weight (covers-out (under f before c after) t s (cover-of p)) (omega (arith, l, m, n))
        | inr r ↦ elim r.1 [
          | inl l ↦ absurd (omega (arith, l))
          | inr h ↦ out-of-context c t s (falls-there before (plug c t) (plug c s) after h.1)
        ]
      ]

  pub weight_order_laws : IsTermOrder (AboveByWeight w)
  weight_order_laws =
      record {
        on_instances = λ xs t s p. above-instance xs p;
        on_parts = above-part;
        in_one_context = λ c t s. (out-of-context c t s, in-context c t s);
      }
