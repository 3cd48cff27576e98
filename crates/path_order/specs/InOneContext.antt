-- Two terms in one context compare in the path ordering as they do alone.
use Rattle.std.proofs.Common.{◌≡◌, ◌∙◌, ◌↔◌, ℕ, length, refl, ap, sym, subst, inl, inr, arith}
use Rattle.term_core.specs.Tree.{Tree, Trees, app, none, some, list_of}
use Rattle.term_core.specs.Contexts.{Context, hole, under, around, plug}
use Rattle.path_order.specs.Above.{Above, SomeReaches, AboveAll, Falls, by_argument, by_head, by_arguments, this_is}
use Rattle.path_order.specs.Above.{this_above, later, here, further}
use Rattle.longest_chains.proofs.Each.{Each, each-map, each-before, each-at, each-after}
use Rattle.path_order.specs.Irreflexive.{each-above, members-reach, Reaches, reaches-arguments, none-reach}
use Rattle.path_order.specs.Irreflexive.{falls-differ, irreflexive, each-irreflexive, unreached, same-arguments}
use Rattle.path_order.specs.Irreflexive.{same-symbol, same-first, same-rest, arguments_of}
use Rattle.term_core.specs.Precedence.{Precedence, level}
use Rattle.path_order.specs.Arranged.{arranged}
use Rattle.path_order.specs.ArrangedLaws.{each-arranged, arranged-place}

module _ {o : Precedence} where
  -- what reaches after the place, reaches with the place too
  pub later-reaches :
      (before : Trees) (t : Tree) (after : Trees) (s : Tree) → SomeReaches o after s →
      SomeReaches o (around before t after) s
  later-reaches none t after s r = later r
  later-reaches (some u before) t after s r = later (later-reaches before t after s r)

  pub falls-around :
      (w : Tree) (before : Trees) (a b : Tree) (ts ss : Trees) →
      length (list_of ts) ≡ length (list_of ss) → Above o a b → AboveAll o w ss →
      Falls o w (around before a ts) (around before b ss)
  falls-around w none a b ts ss e p q = here e p q
  falls-around w (some u before) a b ts ss e p q = further (falls-around w before a b ts ss e p q)

  above-in : (c : Context) (t s : Tree) → Above o t s → Above o (plug c t) (plug c s)
  above-in hole t s p = p
  above-in (under f before c after) t s p =
      let a = plug c t in
      let b = plug c s in
      let w = app f (around before a after) in
      let place = arranged-place o f before after in
      let each : Each (Above o w) (arranged o f (around before a after)) =
      each-arranged (Above o w) o f (around before a after)
      (each-map (λ s r. by_argument r) (around before a after) (members-reach o (around before a after)))
      in
      let following : AboveAll o w place.1 =
      each-above o w place.1
      (each-after (Above o w) place.0 a place.1 (subst (λ us. Each (Above o w) us) (place.2 a) each))
      in
      by_arguments refl
      (subst (λ us. Falls o w us (arranged o f (around before b after))) (sym (place.2 a))
      (subst (λ us. Falls o w (around place.0 a place.1) us) (sym (place.2 b))
      (falls-around w place.0 a b place.1 place.1 refl (above-in c t s p) following)))

  -- if arguments fall that are the same but at one place, it is at that place
  fall-at :
      {w : Tree} {us vs : Trees} → Falls o w us vs → (before : Trees) (a b : Tree) (after : Trees) →
      us ≡ around before a after → vs ≡ around before b after → Above o a b
  fall-at (here {a = c} {b = d} e p q) none a b after x y =
      subst (λ z. Above o z b) (same-first x) (subst (λ z. Above o c z) (same-first y) p)
  fall-at (further {ts = ts} {ss = ss} w) none a b after x y =
      absurd (falls-differ o w (subst (λ z. ts ≡ z) (sym (same-rest y)) (same-rest x))
      (each-irreflexive o ts))
  fall-at (here {a = c} {b = d} e p q) (some u before) a b after x y =
      absurd (irreflexive o u (subst (λ z. Above o z u) (same-first x)
      (subst (λ z. Above o c z) (same-first y) p)))
  fall-at (further w) (some u before) a b after x y =
      fall-at w before a b after (same-rest x) (same-rest y)

  -- what reaches does so at the place, before it or after it
  pub reach-cases :
      (before : Trees) (a : Tree) (after : Trees) (s : Tree) (Q : Type 0) →
      SomeReaches o (around before a after) s → Each (λ u. Reaches o u s → Q) before → (Reaches o a s → Q) →
      (SomeReaches o after s → Q) → Q
  reach-cases none a after s Q this_is h f g = f (inl refl)
  reach-cases none a after s Q (this_above p) h f g = f (inr p)
  reach-cases none a after s Q (later r) h f g = g r
  reach-cases (some b before) a after s Q this_is h f g = h.0 (inl refl)
  reach-cases (some b before) a after s Q (this_above p) h f g = h.0 (inr p)
  reach-cases (some b before) a after s Q (later r) h f g = reach-cases before a after s Q r h.1 f g

  at-place :
      (f : ℕ) (before : Trees) (a b : Tree) (after : Trees) → {t v : Tree} → Above o t v →
      t ≡ app f (around before a after) → v ≡ app f (around before b after) → Above o a b
  at-place f before a b after {v = v} (by_argument {ts = us} r) x y =
      let all = around before b after in
      let s = app f all in
      let no : Each (λ u. Reaches o u s → ⊥) all = unreached o f all in
      let reaches : SomeReaches o (around before a after) s =
      subst (λ z. SomeReaches o z s) (same-arguments x) (subst (λ z. SomeReaches o us z) y r) in
      reach-cases before a after s (Above o a b) reaches
      (each-map (λ u n q. absurd (n q)) before (each-before (λ u. Reaches o u s → ⊥) before b after no))
      (λ q. each-at (Above o a) before b after (reaches-arguments o a f all q))
      (λ q. absurd (none-reach o q (each-after (λ u. Reaches o u s → ⊥) before b after no)))
  at-place f before a b after (by_head l q) x y =
      absurd (omega (arith, l, ap (λ g. level o g) (same-symbol x), ap (λ g. level o g) (same-symbol y)))
  at-place f before a b after (by_arguments q w) x y =
      let place = arranged-place o f before after in
      fall-at w place.0 a b place.1 (ap (arguments_of o) x ∙ place.2 a) (ap (arguments_of o) y ∙ place.2 b)

  above-out : (c : Context) (t s : Tree) → Above o (plug c t) (plug c s) → Above o t s
  above-out hole t s p = p
  above-out (under f before c after) t s p =
      above-out c t s (at-place f before (plug c t) (plug c s) after p refl refl)

  pub in-one-context : (c : Context) (t s : Tree) → Above o (plug c t) (plug c s) ↔ Above o t s
  in-one-context c t s = (above-out c t s, above-in c t s)
