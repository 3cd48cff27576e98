-- Which of the three cases of the path ordering two heads leave open.
use Rattle.std.proofs.Common.{◌≡◌, ◌≢◌, ◌⊎◌, ◌↔◌, ℕ, zero, suc, ◌+◌, ◌-◌, ◌≤◌, ◌<◌, Bool, IsTrue, true, false, List}
use Rattle.std.proofs.Common.{[], ◌∷◌, ◌++◌, length, take, drop, get_or, ap, subst, sym, refl, ◌∙◌, inl, inr, arith}
use Rattle.std.specs.Prelude.{if◌then◌else◌}
use Rattle.std.proofs.lemmas.Bool.{false≢true}
use Rattle.std.proofs.lemmas.List.{take_all, length-drop}
use Rattle.term_core.specs.Tree.{Tree, Trees, var, app, none, some, trees_of, list_of}
use Rattle.term_core.specs.Measure.{weight, weights, list_weight, list_weight_is}
use Rattle.term_core.specs.Contexts.{around}
use Rattle.term_core.specs.Precedence.{Precedence, level}
use Rattle.term_core.proofs.Trees.{list_of-trees_of, slice_front}
use Rattle.term_core.proofs.Items.{parted_at}
use Rattle.path_order.specs.declared.path.Standing.{Standing}
use Rattle.path_order.specs.declared.path.Standing.TheVariants.{Same, Greater, Neither}
use Rattle.path_order.specs.Above.{Above, SomeReaches, AboveAll, Falls, by_argument, by_head, by_arguments, this_is}
use Rattle.path_order.specs.Above.{this_above, later, all_none, all_some, here, further}
use Rattle.path_order.specs.Standing.{Stands, HaveOneLevel}
use Rattle.path_order.specs.Arranged.{arranged}
use Rattle.path_order.specs.ArrangedLaws.{count-arranged, each-arranged, arranged-each, arranged-same, weights-arranged}
use Rattle.longest_chains.proofs.Each.{Each, each-both, each-around, each-before, each-at, each-after}
use Rattle.path_order.specs.Irreflexive.{each-above, arguments-above, arguments_of, Reaches, reaches-arguments}
use Rattle.path_order.specs.Irreflexive.{irreflexive, each-irreflexive, diagonal, by-member, each-reaching}
use Rattle.path_order.specs.Irreflexive.{arranged-reach, falls-differ, same-arguments, same-symbol, same-first}
use Rattle.path_order.specs.Irreflexive.{same-rest}
use Rattle.path_order.specs.InOneContext.{later-reaches, falls-around}

-- what comes after a place, taken whole
pub whole-rest : {A : Type 0} (xs : List A) (i : ℕ) → take (length xs - i) (drop i xs) ≡ drop i xs
whole-rest xs i = take_all (length xs - i) (drop i xs) (omega (arith, length-drop i xs))

first_and_rest :
    (ss : List Tree) (x : Tree) (rest : List Tree) → 1 ≤ length ss → x ≡ get_or ss 0 x →
    rest ≡ drop 1 ss → trees_of ss ≡ some x (trees_of rest)
first_and_rest ss x rest l e r =
    ap trees_of (slice_front ss x l e) ∙ ap (λ us. some x (trees_of us)) (whole-rest ss 1 ∙ sym r)

length-trees : (ts : List Tree) → length (list_of (trees_of ts)) ≡ length ts
length-trees ts = ap (λ us. length us) (list_of-trees_of ts)

-- one head, and a place before which the arguments are the same
trees-around :
    (before : List Tree) (a : Tree) (after : List Tree) →
    trees_of (before ++ a ∷ after) ≡ around (trees_of before) a (trees_of after)
trees-around [] a after = refl
trees-around (b ∷ before) a after = ap (λ x. some b x) (trees-around before a after)

place-of :
    (ts : List Tree) (i : ℕ) (x : Tree) → i < length ts → x ≡ get_or ts i x →
    trees_of ts ≡ around (trees_of (take i ts)) x (trees_of (drop (i + 1) ts))
place-of ts i x l e =
    ap trees_of (sym (parted_at ts i x l e)) ∙ ap (λ k. trees_of (take i ts ++ x ∷ drop k ts))
    (let k : suc i ≡ i + 1 = omega arith in k) ∙ trees-around (take i ts) x (drop (i + 1) ts)

around-differ :
    (before : Trees) (a b : Tree) (ts ss : Trees) → around before a ts ≡ around before b ss → a ≡ b
around-differ none a b ts ss e = same-first e
around-differ (some u before) a b ts ss e = around-differ before a b ts ss (same-rest e)

-- the measures fall
weight_positive : (t : Tree) → 1 ≤ weight t
weight_positive (var n) = omega arith
weight_positive (app f ts) = omega arith

pub list-falls :
    (xs : List Tree) (i : ℕ) (x : Tree) (rest : List Tree) → i < length xs → x ≡ get_or xs i x →
    rest ≡ drop (i + 1) xs → weight x + list_weight rest < list_weight xs
list-falls xs i x rest l e is =
    subst (λ us. weight x + list_weight us < list_weight xs) (sym is) (falls-there xs i x l e)
  where
    falls-there :
        (xs : List Tree) (i : ℕ) (x : Tree) → i < length xs → x ≡ get_or xs i x →
        weight x + list_weight (drop (i + 1) xs) < list_weight xs
    falls-there [] i x l e = absurd (omega (arith, l))
    falls-there (y ∷ ys) zero x l e = let w : weight x ≡ weight y = ap (λ t. weight t) e in omega (arith, w)
    falls-there (y ∷ ys) (suc i) x l e =
        let k : suc (i + 1) ≡ suc i + 1 = omega arith in
        subst (λ j. weight x + list_weight (drop j (y ∷ ys)) < list_weight (y ∷ ys)) k
        (omega (arith, falls-there ys i x (omega (arith, l)) e))

pub positive : (t : Tree) → 1 ≤ weight t
positive t = weight_positive t

-- lists that are the same up to a place, and at it
pub same_more :
    (xs ys : List Tree) (i : ℕ) (x y : Tree) → i < length xs → i < length ys → x ≡ get_or xs i x →
    y ≡ get_or ys i y → x ≡ y → take i xs ≡ take i ys → take (i + 1) xs ≡ take (i + 1) ys
same_more xs ys i x y l m e g s w =
    let k : suc i ≡ i + 1 = omega arith in
    subst (λ j. take j xs ≡ take j ys) k
    (take_one xs i x l e ∙ ap (λ us. us ++ x ∷ []) w ∙ ap (λ u. take i ys ++ u ∷ []) s ∙ sym (take_one ys i y m g))
  where
    take_one :
        (xs : List Tree) (i : ℕ) (x : Tree) → i < length xs → x ≡ get_or xs i x →
        take (suc i) xs ≡ take i xs ++ x ∷ []
    take_one [] i x l e = absurd (omega (arith, l))
    take_one (y ∷ ys) zero x l e = ap (λ u. u ∷ []) (sym e)
    take_one (y ∷ ys) (suc i) x l e = ap (λ us. y ∷ us) (take_one ys i x (omega (arith, l)) e)

module _ (o : Precedence) where
  -- answers of a comparison
  pub is_greater : (t s : Tree) (r : Standing) → Stands o t s r → (r ≡ Greater) ↔ Above o t s
  is_greater t s Same e = (
    λ q. absurd (let p : Same ≡ Greater = q in cc),
    λ a. absurd
        (irreflexive o t (subst (λ x. Above o t x) (sym e) a)),
  )
  is_greater t s Greater a = (λ q. a, λ q. refl)
  is_greater t s Neither n = (λ q. absurd (let p : Neither ≡ Greater = q in cc), λ a. absurd (n.1 a))

  pub is_not_neither : (t s : Tree) (r : Standing) → Stands o t s r → (r ≢ Neither) ↔ Reaches o t s
  is_not_neither t s Same e = (λ q. inl e, λ q p. let w : Same ≡ Neither = p in cc)
  is_not_neither t s Greater a = (λ q. inr a, λ q p. let w : Greater ≡ Neither = p in cc)
  is_not_neither t s Neither n =
      (λ q. absurd (q refl), λ q. absurd (elim q [ inl e ↦ n.0 e | inr a ↦ n.1 a ]))

  stands_by :
      (t s : Tree) (b : Bool) → IsTrue b ↔ Above o t s → t ≢ s →
      Stands o t s (if b then Greater else Neither)
  stands_by t s true h n = h.0 refl
  stands_by t s false h n = (n, λ a. false≢true (h.1 a))

  pub stands :
      (t s : Tree) (b : Bool) (r : Standing) → r ≡ (if b then Greater else Neither) →
      IsTrue b ↔ Above o t s → t ≢ s → Stands o t s r
  stands t s b r e h n = subst (λ x. Stands o t s x) (sym e) (stands_by t s b h n)

  -- a test for an answer
  pub greater_test :
      (t s : Tree) (b : Bool) (r : Standing) → IsTrue b ↔ (r ≡ Greater) → Stands o t s r →
      IsTrue b ↔ Above o t s
  greater_test t s b r h g =
      let k = is_greater t s r g in
      (λ q. k.0 (h.0 q), λ a. h.1 (k.1 a))

  pub neither_test :
      (t s : Tree) (b : Bool) (r : Standing) → IsTrue b ↔ (r ≢ Neither) → Stands o t s r →
      IsTrue b ↔ Reaches o t s
  neither_test t s b r h g =
      let k = is_not_neither t s r g in
      (λ q. k.0 (h.0 q), λ a. h.1 (k.1 a))

  -- the first term of a list, and the others
  pub all-parts : {t s : Tree} {ss : Trees} → AboveAll o t (some s ss) → Above o t s × AboveAll o t ss
  all-parts (all_some p a) = (p, a)

  pub some-parts : {t s : Tree} {ts : Trees} → SomeReaches o (some t ts) s → Reaches o t s ⊎ SomeReaches o ts s
  some-parts this_is = inl (inl refl)
  some-parts (this_above p) = inl (inr p)
  some-parts (later r) = inr r

  pub reach-first : (t s : Tree) (ts : Trees) → Reaches o t s → SomeReaches o (some t ts) s
  reach-first t s ts (inl e) = subst (λ x. SomeReaches o (some t ts) x) e this_is
  reach-first t s ts (inr a) = this_above a

  pub all-front :
      (t : Tree) (ss : List Tree) (x : Tree) (rest : List Tree) → 1 ≤ length ss → x ≡ get_or ss 0 x →
      rest ≡ drop 1 ss → AboveAll o t (trees_of ss) ↔ (Above o t x × AboveAll o t (trees_of rest))
  all-front t ss x rest l e r =
      let p = first_and_rest ss x rest l e r in (
        λ a. all-parts (subst (λ us. AboveAll o t us) p a),
        λ a. subst (λ us. AboveAll o t us) (sym p)
            (all_some a.0 a.1),
      )

  pub some-front :
      (ts : List Tree) (s x : Tree) (rest : List Tree) → 1 ≤ length ts → x ≡ get_or ts 0 x →
      rest ≡ drop 1 ts → SomeReaches o (trees_of ts) s ↔ (Reaches o x s ⊎ SomeReaches o (trees_of rest) s)
  some-front ts s x rest l e r =
      let p = first_and_rest ts x rest l e r in (
        λ a. some-parts (subst (λ us. SomeReaches o us s) p a),
        λ a. subst (λ us. SomeReaches o us s) (sym p)
            (elim a [ inl q ↦ reach-first x s (trees_of rest) q | inr q ↦ later q ]),
      )

  pub all-empty : (t : Tree) (ss : List Tree) → length ss < 1 → AboveAll o t (trees_of ss)
  all-empty t [] l = all_none
  all-empty t (s ∷ ss) l = absurd (omega (arith, l))

  -- a variable has no part, so only the first case is left
  pub only-argument : {f x : ℕ} {ts : Trees} → Above o (app f ts) (var x) → SomeReaches o ts (var x)
  only-argument (by_argument r) = r

  pub variable :
      (t s : Tree) (f x : ℕ) (ts : List Tree) (b : Bool) (r : Standing) → app f (trees_of ts) ≡ t →
      var x ≡ s → IsTrue b ↔ SomeReaches o (trees_of ts) s → r ≡ (if b then Greater else Neither) →
      Stands o t s r
  variable t s f x ts b r p q h e =
      let u = app f (trees_of ts) in
      let g : IsTrue b ↔ Above o u (var x) = (
        λ a. by_argument
            (subst (λ z. SomeReaches o (trees_of ts) z) (sym q) (h.0 a)),
        λ a. h.1
            (subst (λ z. SomeReaches o (trees_of ts) z) q (only-argument a)),
      ) in
      let apart : u ≢ var x = λ same. cc in
      subst (λ z. Stands o z s r) p (subst (λ z. Stands o u z r) q (stands u (var x) b r e g apart))

  -- the head of s is smaller: only its arguments count
  pub smaller-head :
      (t s : Tree) (f g : ℕ) (ts ss : List Tree) (b : Bool) (r : Standing) → app f (trees_of ts) ≡ t →
      app g (trees_of ss) ≡ s → level o g < level o f → IsTrue b ↔ AboveAll o t (trees_of ss) →
      r ≡ (if b then Greater else Neither) → Stands o t s r
  smaller-head t s f g ts ss b r p q l h e =
      let u = app f (trees_of ts) in
      let v = app g (trees_of ss) in
      let k : IsTrue b ↔ Above o u v = (
        λ a. by_head l (subst (λ z. AboveAll o z (trees_of ss)) (sym p) (h.0 a)),
        λ a. h.1
            (subst (λ z. AboveAll o z (trees_of ss)) p (each-above o u (trees_of ss) (arguments-above o a))),
      ) in
      let apart : u ≢ v = λ same. omega (arith, l, ap (λ h. level o h) (same-symbol same)) in
      subst (λ z. Stands o z s r) p (subst (λ z. Stands o u z r) q (stands u v b r e k apart))

  falls-length :
      {t : Tree} {ts ss : Trees} → Falls o t ts ss → length (list_of ts) ≡ length (list_of ss)
  falls-length (here e p a) = omega (arith, e)
  falls-length (further w) = omega (arith, falls-length w)

  -- the levels don't allow the others, or the numbers of arguments: only the first case is left
  pub other-case :
      {f g : ℕ} {ts ss : Trees} → Above o (app f ts) (app g ss) → (level o g < level o f → ⊥) →
      (level o g ≡ level o f → length (list_of ts) ≡ length (list_of ss) → ⊥) →
      SomeReaches o ts (app g ss)
  other-case (by_argument r) h n = r
  other-case (by_head l a) h n = absurd (h l)
  other-case (by_arguments {f = f} {g = g} {ts = ts} {ss = ss} e w) h n =
      absurd (n e (sym (count-arranged o f ts) ∙ falls-length w ∙ count-arranged o g ss))

  pub other-head :
      (t s : Tree) (f g : ℕ) (ts ss : List Tree) (b : Bool) (r : Standing) → app f (trees_of ts) ≡ t →
      app g (trees_of ss) ≡ s → (level o g < level o f → ⊥) →
      (level o g ≡ level o f → length ts ≡ length ss → ⊥) →
      IsTrue b ↔ SomeReaches o (trees_of ts) s → r ≡ (if b then Greater else Neither) →
      Stands o t s r
  other-head t s f g ts ss b r p q l n h e =
      let u = app f (trees_of ts) in
      let v = app g (trees_of ss) in
      let n' : level o g ≡ level o f → length (list_of (trees_of ts)) ≡ length (list_of (trees_of ss)) → ⊥ =
      λ same c. n same (sym (length-trees ts) ∙ c ∙ length-trees ss)
      in
      let k : IsTrue b ↔ Above o u v = (
        λ a. by_argument (subst (λ z. SomeReaches o (trees_of ts) z) (sym q) (h.0 a)),
        λ a. h.1
            (subst (λ z. SomeReaches o (trees_of ts) z) q (other-case a l n')),
      ) in
      let apart : u ≢ v =
      λ same.
      n' (ap (λ h. level o h) (sym (same-symbol same)))
      (ap (λ us. length (list_of us)) (same-arguments same))
      in
      subst (λ z. Stands o z s r) p (subst (λ z. Stands o u z r) q (stands u v b r e k apart))

  place-differs :
      {t : Tree} {us vs : Trees} → Falls o t us vs → (before : Trees) (a b : Tree) (ts ss : Trees) →
      us ≡ around before a ts → vs ≡ around before b ss → a ≢ b → Above o a b
  place-differs (here {a = c} {b = d} e p q) none a b ts ss x y n =
      subst (λ z. Above o z b) (same-first x) (subst (λ z. Above o c z) (same-first y) p)
  place-differs (further w) none a b ts ss x y n = absurd (n (sym (same-first x) ∙ same-first y))
  place-differs (here {a = c} {b = d} e p q) (some u before) a b ts ss x y n =
      absurd (irreflexive o u (subst (λ z. Above o z u) (same-first x) (subst (λ z. Above o c z) (same-first y) p)))
  place-differs (further w) (some u before) a b ts ss x y n =
      place-differs w before a b ts ss (same-rest x) (same-rest y) n

  -- heads of one level, and arguments that are the same, in the order of the heads' statuses, before a
  -- place, where they differ
  module _ (f g : ℕ) (us vs : Trees) (q : level o g ≡ level o f) (before : Trees) (a b : Tree) (ts ss : Trees)
      (x : arranged o f us ≡ around before a ts) (y : arranged o g vs ≡ around before b ss) where
    on-others : (t : Tree) → Each (Above o t) vs → Each (Above o t) (around before b ss)
    on-others t e = subst (λ zs. Each (Above o t) zs) y (each-arranged (Above o t) o g vs e)

    -- if the arguments there fall, t is above each later argument of s
    pub place-falls :
        length (list_of ts) ≡ length (list_of ss) → Above o a b →
        Above o (app f us) (app g vs) ↔ AboveAll o (app f us) ss
    place-falls e p = (
      λ h. each-above o (app f us) ss (each-after (Above o (app f us)) before b ss
          (on-others (app f us) (arguments-above o h))),
      λ h. by_arguments q
          (subst (λ zs. Falls o (app f us) zs (arranged o g vs)) (sym x)
          (subst (λ zs. Falls o (app f us) (around before a ts) zs) (sym y)
          (falls-around (app f us) before a b ts ss e p h))),
    )

    -- no argument before the place reaches s
    before-fails : (Q : Type 0) → Each (λ u. Reaches o u (app g vs) → Q) before
    before-fails Q =
        each-both
        (λ u no d r. absurd (no (d (on-others u (reaches-arguments o u g vs r)))))
        before
        (each-before (λ u. Above o u u → ⊥) before b ss (each-irreflexive o (around before b ss)))
        (each-before (λ u. Each (Above o u) (around before b ss) → Above o u u) before b ss
        (diagonal o (around before b ss)))

    reaches-later : (Above o a b → ⊥) → SomeReaches o us (app g vs) → SomeReaches o ts (app g vs)
    reaches-later fails r =
        let Q : Type 0 = SomeReaches o ts (app g vs) in
        by-member o us (app g vs) Q r
        (arranged-each (λ u. Reaches o u (app g vs) → Q) o f us
        (subst (λ zs. Each (λ u. Reaches o u (app g vs) → Q) zs) (sym x)
        (each-around (λ u. Reaches o u (app g vs) → Q) before a ts (before-fails Q)
        (λ h. absurd (fails (each-at (Above o a) before b ss (on-others a (reaches-arguments o a g vs h)))))
        (each-reaching o (app g vs) ts))))

    -- if they don't fall, a later one of t reaches s
    pub later-only :
        a ≢ b → (Above o a b → ⊥) → {t v : Tree} → Above o t v → t ≡ app f us → v ≡ app g vs →
        SomeReaches o ts (app g vs)
    later-only differ fails (by_argument {ts = zs} r) i j =
        reaches-later fails
        (subst (λ z. SomeReaches o z (app g vs)) (same-arguments i) (subst (λ z. SomeReaches o zs z) j r))
    later-only differ fails (by_head l h) i j =
        absurd (omega (arith, l, q, ap (λ k. level o k) (same-symbol i), ap (λ k. level o k) (same-symbol j)))
    later-only differ fails (by_arguments e w) i j =
        absurd (fails (place-differs w before a b ts ss (ap (arguments_of o) i ∙ x) (ap (arguments_of o) j ∙ y) differ))

  -- nothing falls if no argument differs
  pub no-place :
      (f g : ℕ) (us vs : Trees) → level o g ≡ level o f → arranged o f us ≡ arranged o g vs →
      {t v : Tree} → Above o t v → t ≡ app f us → v ≡ app g vs → ⊥
  no-place f g us vs q e (by_argument {ts = zs} r) i j =
      by-member o us (app g vs) ⊥
      (subst (λ z. SomeReaches o z (app g vs)) (same-arguments i) (subst (λ z. SomeReaches o zs z) j r))
      (each-both (λ u no d h. no (d (across u (reaches-arguments o u g vs h)))) us (each-irreflexive o us)
      (diagonal o us))
    where
      across : (t : Tree) → Each (Above o t) vs → Each (Above o t) us
      across t h = arranged-each (Above o t) o f us
          (subst (λ zs. Each (Above o t) zs) (sym e) (each-arranged (Above o t) o g vs h))
  no-place f g us vs q e (by_head l h) i j =
      omega (arith, l, q, ap (λ k. level o k) (same-symbol i), ap (λ k. level o k) (same-symbol j))
  no-place f g us vs q e (by_arguments {f = d} {ts = zs} p w) i j =
      falls-differ o w (ap (arguments_of o) i ∙ e ∙ sym (ap (arguments_of o) j)) (each-irreflexive o (arranged o d zs))

  module _ (t s : Tree) (ts ss : List Tree) (one_head : Bool) (one : HaveOneLevel o t ts s ss one_head) where
    as-many : length (list_of one.arguments) ≡ length (list_of one.others)
    as-many =
        omega (
          arith,
          one.as_many,
          count-arranged o one.head one.arguments,
          count-arranged o one.other one.others,
          ap (λ us. length (list_of us)) one.ordered,
          ap (λ us. length (list_of us)) one.others_ordered,
          length-trees ts,
          length-trees ss,
        )

    -- no argument differs
    pub all-same : ts ≡ ss → IsTrue one_head → t ≡ s
    all-same e h =
        let heads : one.head ≡ one.other = one.tells.0 h in
        let ordered : arranged o one.head one.arguments ≡ arranged o one.head one.others =
        sym one.ordered ∙ ap trees_of e ∙ one.others_ordered
        ∙ ap (λ f. arranged o f one.others) (sym heads)
        in
        let arguments : one.arguments ≡ one.others =
        arranged-same o one.head one.arguments one.others as-many ordered
        in
        one.is_first ∙ (λ i. app (heads i) (arguments i)) ∙ sym one.is_second

    pub none-differs : ts ≡ ss → (IsTrue one_head → ⊥) → Stands o t s Neither
    none-differs e h =
        let ordered : arranged o one.head one.arguments ≡ arranged o one.other one.others =
        sym one.ordered ∙ ap trees_of e ∙ one.others_ordered
        in (
          λ same. h (one.tells.1 (same-symbol (sym one.is_first ∙ same ∙ one.is_second))),
          λ a. no-place one.head one.other one.arguments one.others one.one_level ordered a one.is_first one.is_second,
        )

    module _ (i : ℕ) (l : i < length ts) (w : take i ts ≡ take i ss) (x y : Tree) (ix : x ≡ get_or ts i x)
        (iy : y ≡ get_or ss i y) where
      first-is : arranged o one.head one.arguments ≡ around (trees_of (take i ts)) x (trees_of (drop (i + 1) ts))
      first-is = sym one.ordered ∙ place-of ts i x l ix

      second-is : arranged o one.other one.others ≡ around (trees_of (take i ts)) y (trees_of (drop (i + 1) ss))
      second-is =
          sym one.others_ordered ∙ place-of ss i y (omega (arith, l, one.as_many)) iy
          ∙ ap (λ us. around (trees_of us) y (trees_of (drop (i + 1) ss))) (sym w)

      rests : length (list_of (trees_of (drop (i + 1) ts))) ≡ length (list_of (trees_of (drop (i + 1) ss)))
      rests =
          omega (
            arith,
            one.as_many,
            length-trees (drop (i + 1) ts),
            length-trees (drop (i + 1) ss),
            length-drop
                (i + 1) ts,
            length-drop (i + 1) ss,
          )

      apart : x ≢ y → t ≢ s
      apart n same =
          let whole : arranged o one.head one.arguments ≡ arranged o one.other one.others =
          ap (arguments_of o) (sym one.is_first ∙ same ∙ one.is_second)
          in
          n (around-differ (trees_of (take i ts)) x y (trees_of (drop (i + 1) ts)) (trees_of (drop (i + 1) ss))
          (sym first-is ∙ whole ∙ second-is))

      pub at_greater :
          Above o x y → (b : Bool) (r : Standing) (rest : List Tree) → rest ≡ drop (i + 1) ss →
          IsTrue b ↔ AboveAll o t (trees_of rest) → r ≡ (if b then Greater else Neither) → Stands o t s r
      at_greater a b r rest is h e =
          let later : Trees = trees_of (drop (i + 1) ss) in
          let there : trees_of rest ≡ later = ap trees_of is in
          let k : Above o (app one.head one.arguments) (app one.other one.others) ↔ AboveAll o
          (app one.head one.arguments) later =
          place-falls one.head one.other one.arguments one.others one.one_level (trees_of (take i ts)) x y
          (trees_of (drop (i + 1) ts)) later first-is second-is rests a
          in
          let g : Above o t s ↔ AboveAll o t later =
          subst (λ z. Above o z s ↔ AboveAll o z later) (sym one.is_first)
          (subst (λ z. Above o (app one.head one.arguments) z ↔ AboveAll o (app one.head one.arguments) later)
          (sym one.is_second) k)
          in
          let m : IsTrue b ↔ Above o t s = (
            λ q. g.1 (subst (λ us. AboveAll o t us) there (h.0 q)),
            λ q. h.1
                (subst (λ us. AboveAll o t us) (sym there) (g.0 q)),
          ) in
          stands t s b r e m (apart (λ same. irreflexive o x (subst (λ z. Above o x z) (sym same) a)))

      pub at_neither :
          x ≢ y → (Above o x y → ⊥) → (b : Bool) (r : Standing) (rest : List Tree) →
          rest ≡ drop (i + 1) ts → IsTrue b ↔ SomeReaches o (trees_of rest) s →
          r ≡ (if b then Greater else Neither) → Stands o t s r
      at_neither n fails b r rest is h e =
          let later : Trees = trees_of (drop (i + 1) ts) in
          let there : trees_of rest ≡ later = ap trees_of is in
          let down : Above o t s → SomeReaches o later s =
          λ q. subst (λ z. SomeReaches o later z) (sym one.is_second)
          (later-only one.head one.other one.arguments one.others one.one_level (trees_of (take i ts)) x y later
          (trees_of (drop (i + 1) ss)) first-is second-is n fails q one.is_first one.is_second)
          in
          let up : SomeReaches o later s → Above o t s =
          λ q. subst (λ z. Above o z s) (sym one.is_first)
          (by_argument (arranged-reach o one.head one.arguments s
          (subst (λ us. SomeReaches o us s) (sym first-is) (later-reaches (trees_of (take i ts)) x later s q))))
          in
          let m : IsTrue b ↔ Above o t s = (
            λ q. up (subst (λ us. SomeReaches o us s) there (h.0 q)),
            λ q. h.1
                (subst (λ us. SomeReaches o us s) (sym there) (down q)),
          ) in
          stands t s b r e m (apart n)

    pub level-weight : (weight t ≡ list_weight ts + 1) × (weight s ≡ list_weight ss + 1)
    level-weight =
        let p : weight t ≡ weight (app one.head one.arguments) = ap (λ u. weight u) one.is_first in
        let q : weight s ≡ weight (app one.other one.others) = ap (λ u. weight u) one.is_second in
        let c : weights (trees_of ts) ≡ weights (arranged o one.head one.arguments) = ap (λ us. weights us)
        one.ordered in
        let d : weights (trees_of ss) ≡ weights (arranged o one.other one.others) = ap (λ us. weights us)
        one.others_ordered in (
          omega (arith, p, c, list_weight_is ts, weights-arranged o one.head one.arguments),
          omega (arith, q, d, list_weight_is ss, weights-arranged o one.other one.others),
        )

  -- a test of the first term, and then of the others
  pub all-then :
      (t : Tree) (ss : List Tree) (x : Tree) (rest : List Tree) (a b : Bool) → 1 ≤ length ss →
      x ≡ get_or ss 0 x → rest ≡ drop 1 ss → IsTrue a ↔ Above o t x → a ≡ true →
      IsTrue b ↔ AboveAll o t (trees_of rest) → IsTrue b ↔ AboveAll o t (trees_of ss)
  all-then t ss x rest a b l e r h is k =
      let f = all-front t ss x rest l e r in
      (λ q. f.1 (h.0 is, k.0 q), λ q. k.1 (f.0 q).1)

  pub all-else :
      (t : Tree) (ss : List Tree) (x : Tree) (a : Bool) → 1 ≤ length ss → x ≡ get_or ss 0 x →
      IsTrue a ↔ Above o t x → a ≡ false → IsTrue a ↔ AboveAll o t (trees_of ss)
  all-else t ss x a l e h is =
      let f = all-front t ss x (drop 1 ss) l e refl in
      (λ q. absurd (false≢true (sym is ∙ q)), λ q. h.1 (f.0 q).0)

  pub some-then :
      (ts : List Tree) (s x : Tree) (a : Bool) → 1 ≤ length ts → x ≡ get_or ts 0 x →
      IsTrue a ↔ Reaches o x s → a ≡ true → IsTrue a ↔ SomeReaches o (trees_of ts) s
  some-then ts s x a l e h is =
      let f = some-front ts s x (drop 1 ts) l e refl in
      (λ q. f.1 (inl (h.0 q)), λ q. is)

  pub some-else :
      (ts : List Tree) (s x : Tree) (rest : List Tree) (a b : Bool) → 1 ≤ length ts →
      x ≡ get_or ts 0 x → rest ≡ drop 1 ts → IsTrue a ↔ Reaches o x s → a ≡ false →
      IsTrue b ↔ SomeReaches o (trees_of rest) s → IsTrue b ↔ SomeReaches o (trees_of ts) s
  some-else ts s x rest a b l e r h is k =
      let f = some-front ts s x rest l e r in
      (λ q. f.1 (inr (k.0 q)), λ q. elim (f.0 q) [ inl w ↦ absurd (false≢true (sym is ∙ h.1 w)) | inr w ↦ k.1 w ])

  -- what a term is means the same for how it stands
  pub stands-as : {t s u v : Tree} (r : Standing) → u ≡ t → v ≡ s → Stands o u v r → Stands o t s r
  stands-as {t} {s} {u} {v} r p q h = subst (λ x. Stands o x s r) p (subst (λ x. Stands o u x r) q h)

  -- what is arranged weighs as much
  pub arranged-weight :
      (f : ℕ) (us ts : List Tree) → trees_of us ≡ arranged o f (trees_of ts) →
      list_weight us ≡ list_weight ts
  arranged-weight f us ts e =
      list_weight_is us ∙ ap (λ xs. weights xs) e ∙ weights-arranged o f (trees_of ts)
      ∙ sym (list_weight_is ts)
