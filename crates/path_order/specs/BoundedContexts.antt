-- What is above within a bound above 0 is so in every context.
use Rattle.std.proofs.Common.{ℕ, suc, refl, sym, subst}
use Rattle.term_core.specs.Tree.{Tree, Trees, app, none, some}
use Rattle.term_core.specs.Contexts.{Context, hole, under, around, plug}
use Rattle.path_order.specs.Bounded.{AboveWithin, AboveAllWithin, FallsWithin, within_argument, within_arguments}
use Rattle.path_order.specs.Bounded.{within_here, within_further}
use Rattle.longest_chains.proofs.Each.{Each, each-map, each-after}
use Rattle.path_order.specs.BoundedArguments.{members-reach-within, each-within}
use Rattle.term_core.specs.Precedence.{Precedence}
use Rattle.path_order.specs.Arranged.{arranged}
use Rattle.path_order.specs.ArrangedLaws.{each-arranged, arranged-place}

module _ (o : Precedence) where
  falls-around :
      (k : ℕ) (w : Tree) (before : Trees) (t s : Tree) (after : Trees) → AboveWithin o (suc k) t s →
      AboveAllWithin o k w after → FallsWithin o (suc k) w (around before t after) (around before s after)
  falls-around k w none t s after p a = within_here refl p a
  falls-around k w (some b before) t s after p a =
      within_further (falls-around k w before t s after p a)

  -- each argument is below the term, at any bound
  pub above-arguments : (k f : ℕ) (ts : Trees) → Each (AboveWithin o k (app f ts)) ts
  above-arguments k f ts = each-map (λ s r. within_argument r) ts (members-reach-within o k ts)

  pub in-context :
      (k : ℕ) (c : Context) (t s : Tree) → AboveWithin o (suc k) t s →
      AboveWithin o (suc k) (plug c t) (plug c s)
  in-context k hole t s p = p
  in-context k (under f before c after) t s p =
      let a = plug c t in
      let b = plug c s in
      let whole = app f (around before a after) in
      let place = arranged-place o f before after in
      let each : Each (AboveWithin o k whole) (arranged o f (around before a after)) =
      each-arranged (AboveWithin o k whole) o f (around before a after)
      (above-arguments k f (around before a after))
      in
      let following =
      each-after (AboveWithin o k whole) place.0 a place.1
      (subst (λ us. Each (AboveWithin o k whole) us) (place.2 a) each)
      in
      within_arguments refl
      (subst (λ us. FallsWithin o (suc k) whole us (arranged o f (around before b after)))
      (sym (place.2 a))
      (subst (λ us. FallsWithin o (suc k) whole (around place.0 a place.1) us) (sym (place.2 b))
      (falls-around k whole place.0 a b place.1 (in-context k c t s p)
      (each-within o k whole place.1 following))))
