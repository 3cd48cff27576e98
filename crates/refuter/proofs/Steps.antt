-- The steps from a value, or a row of values, to the next one.
use Rattle.std.proofs.Common.{◌≡◌, ◌≢◌, ℕ, zero, suc, ◌+◌, ◌-◌, ◌<◌, ◌≤◌, min, List, [], ◌∷◌, ◌++◌, Bool, true, false}
use Rattle.std.proofs.Common.{Option, Some, None, Result, Ok, Err, ◌⊎◌, inl, inr, refl, ap, sym, ◌∙◌, subst, arith}
use Rattle.std.proofs.Common.{append_assoc, length, take, drop, length-drop}
use Rattle.std.specs.Prelude.{map, slice_get, nat_le, OnOk}
use Rattle.std.specs.List.{flat_map, AllByRecursion}
use Rattle.std.proofs.lemmas.List.{append-nil, take_all}
use Rattle.std.proofs.lemmas.Option.{slice_get_within}
use Rattle.term_core.specs.Tree.{Tree, Trees, var, app, tree_size, trees_of, list_of}
use Rattle.term_core.specs.declared.ids.SortId.{SortId}
use Rattle.spec_core.specs.declared.records.SymInfo.{SymInfo}
use Rattle.spec_core.specs.Sig.{Sig, info_of, IsSort}
use Rattle.spec_core.specs.Order.{constructors_from, values}
use Rattle.refuter.proofs.Numbers.{true_le}
use Rattle.term_core.proofs.Members.{In, all_in}
use Rattle.refuter.specs.Bounded.{values_within, rows_within}
use Rattle.refuter.specs.Fewest.{fewest, total, number_in, IsRowOf}
use Rattle.refuter.specs.After.{args_in, args_of, constructors_after, room_within, applications, made_from, rows_on}
use Rattle.refuter.specs.After.{room_before, values_after, rows_after}
use Rattle.refuter.specs.Moves.{IsPlaceOf, GoesOn}
use Rattle.value_bank.specs.Cells.{Cell, cell, IsTerm, AreTerms, AddsCells}
use Rattle.value_bank.proofs.Terms.{term_kept, one_term_at, one_terms, same_cell}
use Rattle.value_bank.proofs.Placed.{app_placed}
use Rattle.rule_code.proofs.Joined.{drop_whole, take_whole}
use Rattle.refuter.proofs.InLists.{filter_parts, flat_map_parts, map_parts, begun_parts, first_in}
use Rattle.refuter.proofs.Bounded.{values_step, values_zero, values_none, rows_begin, rows_end}
use Rattle.refuter.proofs.Least.{rows_have, row_fits, none_fits, some_fits}
use Rattle.refuter.proofs.Lowering.{total_same}
use Rattle.refuter.proofs.Chains.{after_application, next_value_is}
use Rattle.spec_core.proofs.Constructors.{constructor_here, constructor_other, info_parts}
use Rattle.refuter.proofs.Members.{Makes, constructors_make}
use Rattle.term_core.proofs.Numbers.{below_or_not}
use Rattle.term_core.proofs.Items.{drop_past}
use Rattle.term_core.proofs.Trees.{list_of-trees_of, trees_of-list_of, trees_of-inj, size_positive}

pub no_first : {X : Type 0} (xs : List X) → slice_get xs 0 ≡ None → xs ≡ []
no_first [] e = refl
no_first (x ∷ xs) e = let q : Some x ≡ None = e in cc

pub first_left : {X Y : Type 0} (g : X → Y) (xs : List X) (ys : List Y) (x : X) → slice_get xs 0 ≡ Some x →
    slice_get (map g xs ++ ys) 0 ≡ Some (g x)
first_left g [] ys x e = let q : None ≡ Some x = e in cc
first_left g (y ∷ xs) ys x e =
    let q : Some y ≡ Some x = e in
    let k : y ≡ x = cc in
    ap (λ z. Some (g z)) k

first_right : {X Y : Type 0} (g : X → Y) (xs : List X) (ys : List Y) → slice_get xs 0 ≡ None →
    slice_get (map g xs ++ ys) 0 ≡ slice_get ys 0
first_right g xs ys e = ap (λ zs. slice_get (map g zs ++ ys) 0) (no_first xs e)

pub goes_false : (cells : List Cell) (kept : List ℕ) (o : Option (List Tree)) (row : List ℕ) (answer : Bool) →
    GoesOn cells kept o row answer → answer ≡ false → (o ≡ None) × (row ≡ kept)
goes_false cells kept None row answer h e = (refl, h.1)
goes_false cells kept (Some r) row answer h e = absurd (let q : true ≡ false = sym h.0 ∙ e in cc)

-- the values of a row that goes on, and their places
pub record Gone (cells : List Cell) (kept : List ℕ) (o : Option (List Tree)) (row : List ℕ) : Type 0 where
  pub values : List Tree
  pub places : List ℕ
  pub is : o ≡ Some values
  pub row_is : row ≡ kept ++ places
  pub stand : AreTerms cells places (trees_of values)

pub goes_true : (cells : List Cell) (kept : List ℕ) (o : Option (List Tree)) (row : List ℕ) (answer : Bool) →
    GoesOn cells kept o row answer → answer ≡ true → Gone cells kept o row
goes_true cells kept None row answer h e = absurd (let q : false ≡ true = sym h.0 ∙ e in cc)
goes_true cells kept (Some r) row answer h e = record {
  values = r;
  places = h.1.0;
  is = refl;
  row_is = h.1.1;
  stand = h.1.2;
}

goes_none : (cells : List Cell) (kept : List ℕ) (o : Option (List Tree)) (row : List ℕ) → o ≡ None →
    row ≡ kept → GoesOn cells kept o row false
goes_none cells kept o row e h = subst (λ x. GoesOn cells kept x row false) (sym e) (refl, h)

goes_some : (cells : List Cell) (kept : List ℕ) (o : Option (List Tree)) (row ps : List ℕ) (r : List Tree)
    (answer : Bool) → o ≡ Some r → answer ≡ true → row ≡ kept ++ ps → AreTerms cells ps (trees_of r) →
    GoesOn cells kept o row answer
goes_some cells kept o row ps r answer e a h stand = subst (λ x. GoesOn cells kept x row answer) (sym e) (
  a,
  (ps, h, stand),
)

pub place_none : (cells : List Cell) (v : Option Tree) (o : Option ℕ) → o ≡ None → IsPlaceOf cells v o → v ≡ None
place_none cells None o e h = refl
place_none cells (Some t) None e h = absurd h
place_none cells (Some t) (Some p) e h = absurd (let q : Some p ≡ None = e in cc)

pub place_some : (cells : List Cell) (v : Option Tree) (o : Option ℕ) (p : ℕ) → o ≡ Some p →
    IsPlaceOf cells v o → (t : Tree) × (v ≡ Some t) × IsTerm cells p t
place_some cells None None p e h = absurd (let q : None ≡ Some p = e in cc)
place_some cells None (Some q) p e h = absurd h
place_some cells (Some t) None p e h = absurd h
place_some cells (Some t) (Some q) p e h =
    let k : Some q ≡ Some p = e in
    let j : q ≡ p = cc in
    (t, refl, subst (λ n. IsTerm cells n t) j h)

-- what holds of the values at places holds of any values there
pub at_places : (cells : List Cell) (places : List ℕ) (P : List Tree → Type 0) (values : List Tree) →
    AreTerms cells places (trees_of values) → P values → (others : List Tree) →
    AreTerms cells places (trees_of others) → P others
at_places cells places P values h p others k = subst P
    (trees_of-inj values others (one_terms cells places (trees_of values) (trees_of others) h k)) p

split_bool : (b : Bool) → (b ≡ true) ⊎ (b ≡ false)
split_bool true = inl refl
split_bool false = inr refl

module _ (sig : Sig) where
  -- a value within a bound is small
  pub value_fits : (depth : ℕ) (s : SortId) (bound : ℕ) (t : Tree) → In t (values_within sig depth s bound) →
      tree_size t ≤ bound
  unfolding values_within
  value_fits depth s bound t a = true_le (tree_size t) bound
      (filter_parts (λ x. nat_le (tree_size x) bound) (values sig depth s) t a).1

  made_here : (depth : ℕ) (s : SortId) (bound f : ℕ) (i : SymInfo) → info_of sig f ≡ Some i →
      f < sig.constructors → i.result.0 ≡ s.0 →
      made_from sig depth s bound f ≡ map (λ r. app f (trees_of r))
      (rows_within sig depth i.args (room_within sig bound)) ++ made_from sig depth s bound (f + 1)
  unfolding made_from constructors_after applications
  made_here depth s bound f i at h q = ap (λ cs. flat_map (λ c. applications sig depth bound c) cs)
      (constructor_here sig f sig.constructors s i at h q)

  -- a constructor of another sort makes nothing
  pub made_other : (depth : ℕ) (s : SortId) (bound f : ℕ) (i : SymInfo) → info_of sig f ≡ Some i →
      f < sig.constructors → i.result.0 ≢ s.0 → made_from sig depth s bound f ≡ made_from sig depth s bound (f + 1)
  unfolding made_from constructors_after
  made_other depth s bound f i at h q = ap (λ cs. flat_map (λ c. applications sig depth bound c) cs)
      (constructor_other sig f sig.constructors s i at h q)

  pub made_none : (depth : ℕ) (s : SortId) (bound f : ℕ) → sig.constructors ≤ f → made_from sig depth s bound f ≡ []
  unfolding made_from constructors_after
  made_none depth s bound f h = let z : sig.constructors - f ≡ 0 = omega arith in rw z refl

  -- the first application of a constructor, or of a later one if there is no row for this one
  pub made_first : (depth : ℕ) (s : SortId) (bound f : ℕ) (i : SymInfo) (r : List Tree) →
      info_of sig f ≡ Some i → f < sig.constructors → i.result.0 ≡ s.0 →
      slice_get (rows_within sig depth i.args (room_within sig bound)) 0 ≡ Some r →
      slice_get (made_from sig depth s bound f) 0 ≡ Some (app f (trees_of r))
  made_first depth s bound f i r at h q e = ap (λ xs. slice_get xs 0) (made_here depth s bound f i at h q)
      ∙ first_left (λ x. app f (trees_of x)) (rows_within sig depth i.args (room_within sig bound))
      (made_from sig depth s bound (f + 1)) r e

  pub made_later : (depth : ℕ) (s : SortId) (bound f : ℕ) (i : SymInfo) → info_of sig f ≡ Some i →
      f < sig.constructors → i.result.0 ≡ s.0 →
      slice_get (rows_within sig depth i.args (room_within sig bound)) 0 ≡ None →
      slice_get (made_from sig depth s bound f) 0 ≡ slice_get (made_from sig depth s bound (f + 1)) 0
  made_later depth s bound f i at h q e = ap (λ xs. slice_get xs 0) (made_here depth s bound f i at h q)
      ∙ first_right (λ x. app f (trees_of x)) (rows_within sig depth i.args (room_within sig bound))
      (made_from sig depth s bound (f + 1)) e

  -- if the fewest symbols are more, there is no value
  pub first_none : (depth : ℕ) (s : SortId) (bound least : ℕ) → least ≡ fewest sig depth s → bound < least →
      None ≡ slice_get (values_within sig depth s bound) 0
  first_none depth s bound least e h = sym (ap (λ xs. slice_get xs 0) (none_fits sig depth s bound (omega arith)))

  pub first_is_made : (depth : ℕ) (s : SortId) (bound least : ℕ) → least ≡ fewest sig depth s → least ≤ bound →
      bound < 4096 → slice_get (made_from sig (depth - 1) s bound 0) 0 ≡ slice_get (values_within sig depth s bound) 0
  first_is_made depth s bound least l h b =
      let w = some_fits sig depth s bound (omega arith) b in
      let e : suc (depth - 1) ≡ depth = omega (arith, w.0) in
      sym (ap (λ n. slice_get (values_within sig n s bound) 0) (sym e)
      ∙ ap (λ xs. slice_get xs 0) (values_step sig (depth - 1) s bound w.1))

  pub begins : (depth : ℕ) (s : SortId) (ss : List SortId) (bound : ℕ) →
      rows_within sig depth (s ∷ ss) bound ≡ rows_on sig depth ss bound
      (values_within sig depth s (room_before sig depth ss bound))
  begins depth s ss bound = rows_begin sig depth s ss bound (rows_have sig depth ss)

  pub first_on : (depth : ℕ) (ss : List SortId) (bound : ℕ) (ts : List Tree) (t : Tree) (r : List Tree) →
      slice_get ts 0 ≡ Some t → slice_get (rows_within sig depth ss (bound - tree_size t)) 0 ≡ Some r →
      slice_get (rows_on sig depth ss bound ts) 0 ≡ Some (t ∷ r)
  unfolding rows_on
  first_on depth ss bound [] t r e h = let q : None ≡ Some t = e in cc
  first_on depth ss bound (x ∷ ts) t r e h =
      let q : Some x ≡ Some t = e in
      let k : x ≡ t = cc in
      first_left (λ y. x ∷ y) (rows_within sig depth ss (bound - tree_size x))
      (flat_map (λ u. map (λ y. u ∷ y) (rows_within sig depth ss (bound - tree_size u))) ts) r
      (ap (λ y. slice_get (rows_within sig depth ss (bound - tree_size y)) 0) k ∙ h) ∙ ap (λ y. Some (y ∷ r)) k

  none_on : (depth : ℕ) (ss : List SortId) (bound : ℕ) (ts : List Tree) → slice_get ts 0 ≡ None →
      rows_on sig depth ss bound ts ≡ []
  unfolding rows_on
  none_on depth ss bound ts e = ap
      (λ us. flat_map (λ u. map (λ y. u ∷ y) (rows_within sig depth ss (bound - tree_size u))) us) (no_first ts e)

  -- if a value leaves room for the fewest symbols of the others, these have a row
  pub room_fits : (depth : ℕ) (ss : List SortId) (bound : ℕ) (t : Tree) → bound < 4096 →
      tree_size t ≤ room_before sig depth ss bound →
      slice_get (rows_within sig depth ss (bound - tree_size t)) 0 ≡ None → ⊥
  unfolding room_before
  room_fits depth ss bound t l h e = row_fits sig depth ss (bound - tree_size t) (let w = size_positive t in
      omega arith) (omega arith) e

  -- a first value, and the first row of the others after it
  goes_on : (cells : List Cell) (depth : ℕ) (ss : List SortId) (bound left : ℕ) (ts : List Tree) (t : Tree)
      (p : ℕ) (kept mid row : List ℕ) (answer : Bool) → bound < 4096 → slice_get ts 0 ≡ Some t →
      IsTerm cells p t → tree_size t ≤ room_before sig depth ss bound → left ≡ bound - tree_size t →
      mid ≡ kept ++ p ∷ [] → GoesOn cells mid (slice_get (rows_within sig depth ss left) 0) row answer →
      GoesOn cells kept (slice_get (rows_on sig depth ss bound ts) 0) row answer
  goes_on cells depth ss bound left ts t p kept mid row answer l e at h k m g =
      elim (split_bool answer) [
        | inr a ↦ absurd (room_fits depth ss bound t l h
            (ap (λ b. slice_get (rows_within sig depth ss b) 0) (sym k)
            ∙ (goes_false cells mid (slice_get (rows_within sig depth ss left) 0) row answer g a).0))
        | inl a ↦
            let w = goes_true cells mid (slice_get (rows_within sig depth ss left) 0) row answer g a in
            let f = first_on depth ss bound ts t w.values e
            (ap (λ b. slice_get (rows_within sig depth ss b) 0) (sym k) ∙ w.is) in
            goes_some cells kept (slice_get (rows_on sig depth ss bound ts) 0) row (p ∷ w.places) (t ∷ w.values)
            answer f a (w.row_is ∙ ap (λ xs. xs ++ w.places) m ∙ append_assoc kept (p ∷ []) w.places) (at, w.stand)
      ]

  pub push_end : (cells : List Cell) (depth : ℕ) (ss : List SortId) (bound : ℕ) (row : List ℕ) → ss ≡ [] →
      GoesOn cells row (slice_get (rows_within sig depth ss bound) 0) row true
  push_end cells depth ss bound row e = goes_some cells row (slice_get (rows_within sig depth ss bound) 0) row
      [] [] true (ap (λ xs. slice_get (rows_within sig depth xs bound) 0) e
      ∙ ap (λ xs. slice_get xs 0) (rows_end sig depth bound)) refl (sym (append-nil row)) tt

  pub push_none : (cells : List Cell) (depth : ℕ) (all : List SortId) (s : SortId) (ss : List SortId)
      (bound room : ℕ) (o : Option ℕ) (kept row : List ℕ) → all ≡ s ∷ ss →
      room ≡ room_before sig depth ss bound → o ≡ None →
      IsPlaceOf cells (slice_get (values_within sig depth s room) 0) o → row ≡ kept →
      GoesOn cells kept (slice_get (rows_within sig depth all bound) 0) row false
  push_none cells depth all s ss bound room o kept row e r z f same =
      let h : slice_get (values_within sig depth s (room_before sig depth ss bound)) 0 ≡ None = sym
      (ap (λ b. slice_get (values_within sig depth s b) 0) r)
      ∙ place_none cells (slice_get (values_within sig depth s room) 0) o z f in
      goes_none cells kept (slice_get (rows_within sig depth all bound) 0) row
      (ap (λ xs. slice_get (rows_within sig depth xs bound) 0) e
      ∙ ap (λ xs. slice_get xs 0) (begins depth s ss bound
      ∙ none_on depth ss bound (values_within sig depth s (room_before sig depth ss bound)) h)) same

  pub push_some : (before cells : List Cell) (depth : ℕ) (all : List SortId) (s : SortId) (ss : List SortId)
      (bound room size p : ℕ) (o : Option ℕ) (kept mid row : List ℕ) → all ≡ s ∷ ss → bound < 4096 →
      room ≡ room_before sig depth ss bound → o ≡ Some p →
      IsPlaceOf before (slice_get (values_within sig depth s room) 0) o →
      ((t : Tree) → IsTerm before p t → size ≡ min (tree_size t) bound) → AddsCells before cells →
      mid ≡ kept ++ p ∷ [] → (answer : Bool) →
      GoesOn cells mid (slice_get (rows_within sig depth ss (bound - size)) 0) row answer →
      GoesOn cells kept (slice_get (rows_within sig depth all bound) 0) row answer
  push_some before cells depth all s ss bound room size p o kept mid row e l r z w sized adds m answer g =
      let v = place_some before (slice_get (values_within sig depth s room) 0) o p z w in
      let n = sized v.0 v.2 in
      let left = bound - size in
      let k : left ≡ bound - tree_size v.0 = omega arith in
      let h : slice_get (values_within sig depth s (room_before sig depth ss bound)) 0 ≡ Some v.0 = sym
      (ap (λ b. slice_get (values_within sig depth s b) 0) r) ∙ v.1 in
      let b : rows_on sig depth ss bound
      (values_within sig depth s (room_before sig depth ss bound)) ≡ rows_within sig depth all bound = sym
      (ap (λ xs. rows_within sig depth xs bound) e ∙ begins depth s ss bound) in
      let f = value_fits depth s (room_before sig depth ss bound) v.0
      (first_in (values_within sig depth s (room_before sig depth ss bound)) v.0 h) in
      subst (λ xs. GoesOn cells kept (slice_get xs 0) row answer) b
      (goes_on cells depth ss bound left (values_within sig depth s (room_before sig depth ss bound)) v.0 p
      kept mid row answer l h (term_kept before cells p v.0 adds v.2) f k m g)

  -- the parts of a row are in the lists of which the rows are made
  pub row_parts : (depth : ℕ) (s : SortId) (ss : List SortId) (bound : ℕ) (t : Tree) (r : List Tree) →
      In (t ∷ r) (rows_within sig depth (s ∷ ss) bound) →
      In t (values_within sig depth s (room_before sig depth ss bound))
      × In r (rows_within sig depth ss (bound - tree_size t))
  unfolding rows_on
  row_parts depth s ss bound t r a = begun_parts (λ u. rows_within sig depth ss (bound - tree_size u))
      (values_within sig depth s (room_before sig depth ss bound)) t r
      (subst (λ xs. In (t ∷ r) xs) (begins depth s ss bound) a)

  made_parts : (depth : ℕ) (s : SortId) (bound : ℕ) (t : Tree) → In t (made_from sig depth s bound 0) →
      (f : ℕ) × (ts : Trees) × (i : SymInfo) × (t ≡ app f ts) × (f < sig.constructors)
      × (info_of sig f ≡ Some i) × In (list_of ts) (rows_within sig depth i.args (room_within sig bound))
  unfolding made_from constructors_after applications Makes
  made_parts depth s bound t a =
      let cs = constructors_from 0 (sig.constructors - 0) s sig.table in
      let room = room_within sig bound in
      let w = flat_map_parts (λ c. applications sig depth bound c) cs t a in
      let v = map_parts (λ r. app w.0.0 (trees_of r)) (rows_within sig depth w.0.1 room) t w.2 in
      let all = constructors_make sig s sig.table 0 (sig.constructors - 0)
      (λ k e q. subst (λ n. slice_get sig.table n ≡ Some e) (omega arith) q) (omega arith) in
      let m = all_in (Makes sig s) cs w.0 all w.1 in (
        w.0.0,
        trees_of v.0,
        m.0,
        sym v.2,
        m.4,
        m.1,
        subst (λ r. In r (rows_within sig depth m.0.args room)) (sym (list_of-trees_of v.0))
            (subst (λ ss. In v.0 (rows_within sig depth ss room)) (sym m.3) v.1),
      )

  -- a value is a constructor's application to one of the rows
  pub value_parts : (depth : ℕ) (s : SortId) (bound : ℕ) (t : Tree) → In t (values_within sig depth s bound) →
      (f : ℕ) × (ts : Trees) × (i : SymInfo) × (t ≡ app f ts) × (1 ≤ depth) × (f < sig.constructors)
      × (info_of sig f ≡ Some i) × In (list_of ts) (rows_within sig (depth - 1) i.args (room_within sig bound))
  value_parts zero s bound t a = absurd (subst (λ xs. In t xs) (values_none sig s bound) a)
  value_parts (suc depth) s zero t a = absurd (subst (λ xs. In t xs) (values_zero sig (suc depth) s) a)
  value_parts (suc depth) s (suc bound) t a =
      let b = made_parts depth s (suc bound) t
      (subst (λ xs. In t xs) (values_step sig depth s (suc bound) (omega arith)) a) in
      let e : depth ≡ suc depth - 1 = omega arith in (
        b.0,
        b.1,
        b.2,
        b.3,
        omega arith,
        b.4,
        b.5,
        subst (λ d. In (list_of b.1) (rows_within sig d b.2.args (room_within sig (suc bound)))) e b.6,
      )

  -- the next row: the values from the second place on go on, or the first one does
  pub next_same : (cells : List Cell) (depth : ℕ) (all : List SortId) (s : SortId) (ss : List SortId)
      (bound left p : ℕ) (t : Tree) (ts old : List Tree) (kept mid row : List ℕ) → all ≡ s ∷ ss → old ≡ t ∷ ts →
      IsTerm cells p t → left ≡ bound - tree_size t → mid ≡ kept ++ p ∷ [] →
      GoesOn cells mid (slice_get (rows_after sig depth ss left ts) 0) row true →
      GoesOn cells kept (slice_get (rows_after sig depth all bound old) 0) row true
  unfolding rows_after
  next_same cells depth all s ss bound left p t ts old kept mid row e o at k m g =
      let w = goes_true cells mid (slice_get (rows_after sig depth ss left ts) 0) row true g refl in
      let f : slice_get (rows_after sig depth (s ∷ ss) bound (t ∷ ts)) 0 ≡ Some (t ∷ w.values) = first_left
      (λ r. t ∷ r) (rows_after sig depth ss (bound - tree_size t) ts)
      (rows_on sig depth ss bound (values_after sig depth s (room_before sig depth ss bound) t)) w.values
      (ap (λ b. slice_get (rows_after sig depth ss b ts) 0) (sym k) ∙ w.is) in
      goes_some cells kept (slice_get (rows_after sig depth all bound old) 0) row (p ∷ w.places) (t ∷ w.values)
      true (ap (λ xs. slice_get (rows_after sig depth xs bound old) 0) e
      ∙ ap (λ xs. slice_get (rows_after sig depth (s ∷ ss) bound xs) 0) o ∙ f) refl (w.row_is
      ∙ ap (λ xs. xs ++ w.places) m ∙ append_assoc kept (p ∷ []) w.places) (at, w.stand)

  pub after_last : (depth : ℕ) (all : List SortId) (s : SortId) (ss : List SortId) (bound left : ℕ) (t : Tree)
      (ts old : List Tree) → all ≡ s ∷ ss → old ≡ t ∷ ts → left ≡ bound - tree_size t →
      slice_get (rows_after sig depth ss left ts) 0 ≡ None →
      slice_get (rows_after sig depth all bound old) 0 ≡ slice_get
      (rows_on sig depth ss bound (values_after sig depth s (room_before sig depth ss bound) t)) 0
  unfolding rows_after
  after_last depth all s ss bound left t ts old e o k n = ap
      (λ xs. slice_get (rows_after sig depth xs bound old) 0) e
      ∙ ap (λ xs. slice_get (rows_after sig depth (s ∷ ss) bound xs) 0) o
      ∙ first_right (λ r. t ∷ r) (rows_after sig depth ss (bound - tree_size t) ts)
      (rows_on sig depth ss bound (values_after sig depth s (room_before sig depth ss bound) t))
      (ap (λ b. slice_get (rows_after sig depth ss b ts) 0) (sym k) ∙ n)

  pub next_none : (cells : List Cell) (depth : ℕ) (all : List SortId) (s : SortId) (ss : List SortId)
      (bound left room : ℕ) (t : Tree) (ts old : List Tree) (kept row : List ℕ) (x : Option ℕ) → all ≡ s ∷ ss →
      old ≡ t ∷ ts → left ≡ bound - tree_size t → slice_get (rows_after sig depth ss left ts) 0 ≡ None →
      room ≡ room_before sig depth ss bound → x ≡ None →
      IsPlaceOf cells (slice_get (values_after sig depth s room t) 0) x → row ≡ kept →
      GoesOn cells kept (slice_get (rows_after sig depth all bound old) 0) row false
  next_none cells depth all s ss bound left room t ts old kept row x e o k n q z f r =
      let h : slice_get (values_after sig depth s (room_before sig depth ss bound) t) 0 ≡ None = sym
      (ap (λ b. slice_get (values_after sig depth s b t) 0) q)
      ∙ place_none cells (slice_get (values_after sig depth s room t) 0) x z f in
      goes_none cells kept (slice_get (rows_after sig depth all bound old) 0) row
      (after_last depth all s ss bound left t ts old e o k n
      ∙ ap (λ xs. slice_get xs 0)
      (none_on depth ss bound (values_after sig depth s (room_before sig depth ss bound) t) h)) r

  pub next_first : (earlier cells : List Cell) (depth : ℕ) (all : List SortId) (s : SortId) (ss : List SortId)
      (bound left before size p : ℕ) (t : Tree) (ts old : List Tree) (kept mid row : List ℕ) (x : Option ℕ) →
      all ≡ s ∷ ss → old ≡ t ∷ ts → left ≡ bound - tree_size t →
      slice_get (rows_after sig depth ss left ts) 0 ≡ None → bound < 4096 →
      before ≡ room_before sig depth ss bound → In old (rows_within sig depth all bound) → x ≡ Some p →
      IsPlaceOf earlier (slice_get (values_after sig depth s before t) 0) x →
      ((v : Tree) → IsTerm earlier p v → size ≡ min (tree_size v) bound) → AddsCells earlier cells →
      mid ≡ kept ++ p ∷ [] → (answer : Bool) →
      GoesOn cells mid (slice_get (rows_within sig depth ss (bound - size)) 0) row answer →
      GoesOn cells kept (slice_get (rows_after sig depth all bound old) 0) row answer
  next_first earlier cells depth all s ss bound left before size p t ts old kept mid row x e o k n l q b z y
      sized adds m answer g =
      let v = place_some earlier (slice_get (values_after sig depth s before t) 0) x p z y in
      let c = sized v.0 v.2 in
      let room = room_before sig depth ss bound in
      let again = bound - size in
      let r : again ≡ bound - tree_size v.0 = omega arith in
      let a = (row_parts depth s ss bound t ts (subst (λ us. In (t ∷ ts) (rows_within sig depth us bound)) e
      (subst (λ us. In us (rows_within sig depth all bound)) o b))).0 in
      let h : slice_get (values_after sig depth s room t) 0 ≡ Some v.0 = sym
      (ap (λ w. slice_get (values_after sig depth s w t) 0) q) ∙ v.1 in
      let later = values_after sig depth s room t in
      let f = value_fits depth s room v.0 (next_value_is sig depth s room t v.0 a (first_in later v.0 h)) in
      subst (λ x. GoesOn cells kept x row answer) (sym (after_last depth all s ss bound left t ts old e o k n))
      (goes_on cells depth ss bound again later v.0 p kept mid row answer l h
      (term_kept earlier cells p v.0 adds v.2) f r m g)

  pub next_end : (cells : List Cell) (depth : ℕ) (ss : List SortId) (bound : ℕ) (old : List Tree)
      (kept row : List ℕ) → ss ≡ [] → row ≡ kept →
      GoesOn cells kept (slice_get (rows_after sig depth ss bound old) 0) row false
  unfolding rows_after
  next_end cells depth ss bound old kept row e h = goes_none cells kept
      (slice_get (rows_after sig depth ss bound old) 0) row
      (ap (λ xs. slice_get (rows_after sig depth xs bound old) 0) e) h

  after_with : (depth : ℕ) (s : SortId) (bound f : ℕ) (ts : Trees) (i : SymInfo) → info_of sig f ≡ Some i →
      values_after sig (suc depth) s bound (app f ts) ≡ map (λ x. app f (trees_of x))
      (rows_after sig depth i.args (room_within sig bound) (list_of ts)) ++ made_from sig depth s bound (f + 1)
  unfolding args_of
  after_with depth s bound f ts i at = after_application sig depth s bound f ts
      ∙ ap (λ o. map (λ x. app f (trees_of x)) (rows_after sig depth (args_in o) (room_within sig bound)
      (list_of ts)) ++ made_from sig depth s bound (f + 1)) at

  -- the next value: the next one of its constructor, or the first one of a later constructor
  pub value_same : (depth : ℕ) (s : SortId) (bound f : ℕ) (t : Tree) (ts : Trees) (i : SymInfo)
      (r : List Tree) → t ≡ app f ts → 1 ≤ depth → info_of sig f ≡ Some i →
      slice_get (rows_after sig (depth - 1) i.args (room_within sig bound) (list_of ts)) 0 ≡ Some r →
      Some (app f (trees_of r)) ≡ slice_get (values_after sig depth s bound t) 0
  value_same depth s bound f t ts i r e d at h =
      let n : suc (depth - 1) ≡ depth = omega arith in
      let a = after_with (depth - 1) s bound f ts i at in
      sym (ap (λ x. slice_get (values_after sig depth s bound x) 0) e
      ∙ ap (λ x. slice_get (values_after sig x s bound (app f ts)) 0) (sym n) ∙ ap (λ xs. slice_get xs 0) a
      ∙ first_left (λ x. app f (trees_of x)) (rows_after sig (depth - 1) i.args (room_within sig bound)
      (list_of ts)) (made_from sig (depth - 1) s bound (f + 1)) r h)

  pub value_later : (depth : ℕ) (s : SortId) (bound f : ℕ) (t : Tree) (ts : Trees) (i : SymInfo) →
      t ≡ app f ts → 1 ≤ depth → info_of sig f ≡ Some i →
      slice_get (rows_after sig (depth - 1) i.args (room_within sig bound) (list_of ts)) 0 ≡ None →
      slice_get (made_from sig (depth - 1) s bound (f + 1)) 0 ≡ slice_get (values_after sig depth s bound t) 0
  value_later depth s bound f t ts i e d at h =
      let n : suc (depth - 1) ≡ depth = omega arith in
      let a = after_with (depth - 1) s bound f ts i at in
      sym (ap (λ x. slice_get (values_after sig depth s bound x) 0) e
      ∙ ap (λ x. slice_get (values_after sig x s bound (app f ts)) 0) (sym n) ∙ ap (λ xs. slice_get xs 0) a
      ∙ first_right (λ x. app f (trees_of x)) (rows_after sig (depth - 1) i.args (room_within sig bound)
      (list_of ts)) (made_from sig (depth - 1) s bound (f + 1)) h)

  pub room_is : (bound least room : ℕ) → least ≡ min bound 255 → room ≡ least - 1 → room ≡ room_within sig bound
  unfolding room_within
  room_is bound least room e h = omega arith

  pub before_is : (depth : ℕ) (ss : List SortId) (row : List ℕ) (bound sum room : ℕ) →
      AllByRecursion (IsSort sig) ss → IsRowOf sig depth row → sum ≡ min (total (number_in row) ss) 4096 →
      bound < 4096 → room ≡ bound - sum → room ≡ room_before sig depth ss bound
  unfolding room_before
  before_is depth ss row bound sum room a r e l h = omega (
    arith,
    total_same sig (number_in row) (λ s. fewest sig depth s) r.numbers ss a,
  )

  pub before_few : (depth : ℕ) (ss : List SortId) (bound room : ℕ) → bound < 4096 →
      room ≡ room_before sig depth ss bound → room < 4096
  unfolding room_before
  before_few depth ss bound room l e = omega arith

  pub same_rows : (depth : ℕ) (us ss : List SortId) (room bound : ℕ) (o : Option (List Tree)) → us ≡ ss →
      room ≡ bound → slice_get (rows_within sig depth us room) 0 ≡ o → slice_get (rows_within sig depth ss bound) 0 ≡ o
  same_rows depth us ss room bound o e r h = sym (ap (λ xs. slice_get (rows_within sig depth xs room) 0) e
      ∙ ap (λ b. slice_get (rows_within sig depth ss b) 0) r) ∙ h

-- no places are those of no values
no_values : (cells : List Cell) (values : List Tree) → AreTerms cells [] (trees_of values) → values ≡ []
no_values cells [] h = refl
no_values cells (t ∷ ts) h = absurd h

no_places : (cells : List Cell) (places : List ℕ) → AreTerms cells places (trees_of []) → places ≡ []
no_places cells [] h = refl
no_places cells (p ∷ ps) h = absurd h

-- the value at the first one of some places, and the values at the others
pub record Parted (cells : List Cell) (p : ℕ) (rest : List ℕ) (values : List Tree) : Type 0 where
  pub first : Tree
  pub others : List Tree
  pub is : values ≡ first ∷ others
  pub here : IsTerm cells p first
  pub behind : AreTerms cells rest (trees_of others)

pub parted : (cells : List Cell) (places : List ℕ) (p : ℕ) (rest : List ℕ) (values : List Tree) →
    places ≡ p ∷ rest → AreTerms cells places (trees_of values) → Parted cells p rest values
parted cells places p rest [] e h = absurd (subst (λ ps. AreTerms cells ps (trees_of [])) e h)
parted cells places p rest (t ∷ ts) e h =
    let k : AreTerms cells (p ∷ rest) (trees_of (t ∷ ts)) = subst (λ ps. AreTerms cells ps (trees_of (t ∷ ts))) e h in
    record { first = t; others = ts; is = refl; here = k.0; behind = k.1 }

-- a value is its symbol applied to the values at the places of its cell
pub application_at : (cells : List Cell) (p f : ℕ) (places : List ℕ) (t : Tree) →
    slice_get cells p ≡ Some (cell f places) → IsTerm cells p t →
    (args : List Tree) × (app f (trees_of args) ≡ t) × AreTerms cells places (trees_of args)
application_at cells p f places (var n) at h = absurd h
application_at cells p f places (app g ts) at (ps, there, h) =
    let e = same_cell cells p f g places ps at there in
    let all : AreTerms cells places ts = subst (λ qs. AreTerms cells qs ts) (sym e.1) h in (
      list_of ts,
      ap (λ us. app f us) (trees_of-list_of ts) ∙ ap (λ g. app g ts) e.0,
      subst (λ us. AreTerms cells places us) (sym (trees_of-list_of ts)) all,
    )

-- the places after a row
pub behind_row : (old row places xs : List ℕ) (start : ℕ) → row ≡ old ++ places → start ≡ length old →
    xs ≡ row → take (length xs - start) (drop start xs) ≡ places
behind_row old row places xs start r n x =
    let whole : take (length xs - start) (drop start xs) ≡ drop start xs = take_all (length xs - start)
    (drop start xs) (omega (arith, length-drop start xs)) in
    whole ∙ ap (λ ys. drop start ys) (x ∙ r) ∙ ap (λ k. drop k (old ++ places)) n ∙ drop_whole old places

-- the value that is made of them
pub made_at : (mid new : List Cell) (args places : List ℕ) (made f : ℕ) (values : List Tree) → args ≡ places →
    AreTerms mid places (trees_of values) → AddsCells mid new → slice_get new made ≡ Some (cell f args) →
    IsTerm new made (app f (trees_of values))
made_at mid new args places made f values e h adds at = app_placed mid new made f places (trees_of values) h
    adds (subst (λ ps. slice_get new made ≡ Some (cell f ps)) e at)

-- what holds of the value at a place holds of any value there
pub at_term : (cells : List Cell) (p : ℕ) (P : Tree → Type 0) (t : Tree) → IsTerm cells p t → P t → (u : Tree) →
    IsTerm cells p u → P u
at_term cells p P t h x u k = subst P (one_term_at cells p t u h k) x

pub on_ok_map : {T E : Type 0} (r : Result T E) (P Q : Type 0) → (P → Q) → OnOk r P → OnOk r Q
on_ok_map (Ok x) P Q f h = f h
on_ok_map (Err e) P Q f h = tt

pub cut_back : (old row places : List ℕ) (start : ℕ) → row ≡ old ++ places → start ≡ length old → take start row ≡ old
cut_back old row places start r n = ap (λ xs. take start xs) r ∙ ap (λ k. take k (old ++ places)) n
    ∙ take_whole old places

-- the rows of a sort and more have a first value
module _ (sig : Sig) where
  rows_begun : (depth : ℕ) (s : SortId) (ss : List SortId) (bound : ℕ) →
      In [] (rows_within sig depth (s ∷ ss) bound) → ⊥
  unfolding rows_on
  rows_begun depth s ss bound a =
      let w = flat_map_parts (λ u. map (λ x. u ∷ x) (rows_within sig depth ss (bound - tree_size u)))
      (values_within sig depth s (room_before sig depth ss bound)) []
      (subst (λ xs. In [] xs) (begins sig depth s ss bound) a) in
      let v = map_parts (λ x. w.0 ∷ x) (rows_within sig depth ss (bound - tree_size w.0)) [] w.2 in
      let q : w.0 ∷ v.0 ≡ [] = v.2 in
      cc

  pub place_within : (cells : List Cell) (depth : ℕ) (all : List SortId) (s : SortId) (ss : List SortId)
      (bound place : ℕ) (row : List ℕ) (values : List Tree) → all ≡ s ∷ ss →
      AreTerms cells (drop place row) (trees_of values) → In values (rows_within sig depth all bound) →
      place < length row
  place_within cells depth all s ss bound place row values e h a = elim (below_or_not place (length row)) [
    | inl l ↦ l
    | inr l ↦ absurd (rows_begun depth s ss bound (subst (λ xs. In xs (rows_within sig depth (s ∷ ss) bound))
        (no_values cells values (subst (λ ps. AreTerms cells ps (trees_of values)) (drop_past row place l) h))
        (subst (λ us. In values (rows_within sig depth us bound)) e a)))
  ]

  pub rest_listed : (depth : ℕ) (all : List SortId) (s : SortId) (ss : List SortId) (bound size : ℕ) (t : Tree)
      (ts old : List Tree) → all ≡ s ∷ ss → old ≡ t ∷ ts → size ≡ min (tree_size t) bound →
      In old (rows_within sig depth all bound) → In ts (rows_within sig depth ss (bound - size))
  rest_listed depth all s ss bound size t ts old e o n a =
      let k : bound - tree_size t ≡ bound - size = omega arith in
      subst (λ b. In ts (rows_within sig depth ss b)) k
      (row_parts sig depth s ss bound t ts (subst (λ us. In (t ∷ ts) (rows_within sig depth us bound)) e
      (subst (λ us. In us (rows_within sig depth all bound)) o a))).1

  pub first_listed : (depth : ℕ) (all : List SortId) (s : SortId) (ss : List SortId) (bound room : ℕ) (t : Tree)
      (ts old : List Tree) → all ≡ s ∷ ss → old ≡ t ∷ ts → room ≡ room_before sig depth ss bound →
      In old (rows_within sig depth all bound) → In t (values_within sig depth s room)
  first_listed depth all s ss bound room t ts old e o k a =
      subst (λ b. In t (values_within sig depth s b)) (sym k)
      (row_parts sig depth s ss bound t ts (subst (λ us. In (t ∷ ts) (rows_within sig depth us bound)) e
      (subst (λ us. In us (rows_within sig depth all bound)) o a))).0

not_none : {X : Type 0} (xs : List X) (x : X) → [] ≡ xs ++ x ∷ [] → ⊥
not_none [] x e = let q : [] ≡ x ∷ [] = e in cc
not_none (y ∷ xs) x e = let q : [] ≡ y ∷ (xs ++ x ∷ []) = e in cc

pub last_same : {X : Type 0} (xs ys : List X) (x y : X) → xs ++ x ∷ [] ≡ ys ++ y ∷ [] → (xs ≡ ys) × (x ≡ y)
last_same [] [] x y e = let q : x ∷ [] ≡ y ∷ [] = e in (refl, cc)
last_same [] (b ∷ ys) x y e =
    let q : x ∷ [] ≡ b ∷ (ys ++ y ∷ []) = e in
    let k : [] ≡ ys ++ y ∷ [] = cc in
    absurd (not_none ys y k)
last_same (a ∷ xs) [] x y e =
    let q : a ∷ (xs ++ x ∷ []) ≡ y ∷ [] = e in
    let k : [] ≡ xs ++ x ∷ [] = cc in
    absurd (not_none xs x k)
last_same (a ∷ xs) (b ∷ ys) x y e =
    let q : a ∷ (xs ++ x ∷ []) ≡ b ∷ (ys ++ y ∷ []) = e in
    let h : a ≡ b = cc in
    let t : xs ++ x ∷ [] ≡ ys ++ y ∷ [] = cc in
    let w = last_same xs ys x y t in
    (let m : xs ≡ ys = w.0 in cc, w.1)

all_taken : {X : Type 0} (xs : List X) (n : ℕ) → drop n xs ≡ [] → xs ≡ take n xs
all_taken [] zero e = refl
all_taken [] (suc n) e = refl
all_taken (x ∷ xs) zero e = absurd (let q : x ∷ xs ≡ [] = e in cc)
all_taken (x ∷ xs) (suc n) e = ap (λ ys. x ∷ ys) (all_taken xs n e)

pub whole_taken : (cells : List Cell) (sig : Sig) (depth : ℕ) (ss : List SortId) (bound place : ℕ)
    (row : List ℕ) (values : List Tree) → ss ≡ [] → AreTerms cells (drop place row) (trees_of values) →
    In values (rows_within sig depth ss bound) → row ≡ take place row
whole_taken cells sig depth ss bound place row values e h a =
    let k : rows_within sig depth ss bound ≡ [] ∷ [] = ap (λ us. rows_within sig depth us bound) e
    ∙ rows_end sig depth bound in
    elim (subst (λ xs. In values xs) k a) [
      | inl v ↦ all_taken row place
          (no_places cells (drop place row) (subst (λ vs. AreTerms cells (drop place row) (trees_of vs)) v h))
      | inr v ↦ absurd v
    ]

module _ (sig : Sig) (depth : ℕ) (s : SortId) (bound f : ℕ) (args : List Tree) (t : Tree) where
  -- what an application is if it is a value
  pub application_is : In t (values_within sig depth s bound) → app f (trees_of args) ≡ t →
      (1 ≤ depth) × (f < sig.constructors) × (f < length sig.table)
  application_is a e =
      let w = value_parts sig depth s bound t a in
      let q : app f (trees_of args) ≡ app w.0 w.1 = e ∙ w.3 in
      let k : f ≡ w.0 = cc in
      let at = info_parts sig.table w.0 w.2 w.6 in
      let l : w.0 < length sig.table = slice_get_within sig.table w.0 at.0 at.1 in
      (w.4, omega (arith, w.5), omega arith)

  pub arguments_listed : (i : SymInfo) (us : List SortId) (room : ℕ) → In t (values_within sig depth s bound) →
      app f (trees_of args) ≡ t → info_of sig f ≡ Some i → us ≡ i.args → room ≡ room_within sig bound →
      In args (rows_within sig (depth - 1) us room)
  arguments_listed i us room a e at u r =
      let w = value_parts sig depth s bound t a in
      let q : app f (trees_of args) ≡ app w.0 w.1 = e ∙ w.3 in
      let k : f ≡ w.0 = cc in
      let ts : trees_of args ≡ w.1 = cc in
      let o : Some w.2 ≡ Some i = sym w.6 ∙ ap (λ n. info_of sig n) (sym k) ∙ at in
      let j : w.2 ≡ i = cc in
      let row : list_of w.1 ≡ args = ap (λ x. list_of x) (sym ts) ∙ list_of-trees_of args in
      let sorts : w.2.args ≡ us = ap (λ (x : SymInfo). x.args) j ∙ sym u in
      subst (λ b. In args (rows_within sig (depth - 1) us b)) (sym r)
      (subst (λ x. In args (rows_within sig (depth - 1) x (room_within sig bound))) sorts
      (subst (λ x. In x (rows_within sig (depth - 1) w.2.args (room_within sig bound))) row w.7))

  same_after : (i : SymInfo) (us : List SortId) (room : ℕ) → us ≡ i.args → room ≡ room_within sig bound →
      slice_get (rows_after sig (depth - 1) us room args) 0 ≡ slice_get
      (rows_after sig (depth - 1) i.args (room_within sig bound) (list_of (trees_of args))) 0
  same_after i us room u r = ap (λ x. slice_get (rows_after sig (depth - 1) x room args) 0) u
      ∙ ap (λ b. slice_get (rows_after sig (depth - 1) i.args b args) 0) r
      ∙ ap (λ x. slice_get (rows_after sig (depth - 1) i.args (room_within sig bound) x) 0)
      (sym (list_of-trees_of args))

  pub value_goes : (i : SymInfo) (us : List SortId) (room : ℕ) (r : List Tree) (new : Tree) → 1 ≤ depth →
      app f (trees_of args) ≡ t → info_of sig f ≡ Some i → us ≡ i.args → room ≡ room_within sig bound →
      slice_get (rows_after sig (depth - 1) us room args) 0 ≡ Some r → new ≡ app f (trees_of r) →
      Some new ≡ slice_get (values_after sig depth s bound t) 0
  value_goes i us room r new d e at u k h n = ap (λ x. Some x) n
      ∙ value_same sig depth s bound f t (trees_of args) i r (sym e) d at (sym (same_after i us room u k) ∙ h)

  pub value_ends : (i : SymInfo) (us : List SortId) (room : ℕ) → 1 ≤ depth → app f (trees_of args) ≡ t →
      info_of sig f ≡ Some i → us ≡ i.args → room ≡ room_within sig bound →
      slice_get (rows_after sig (depth - 1) us room args) 0 ≡ None →
      slice_get (made_from sig (depth - 1) s bound (f + 1)) 0 ≡ slice_get (values_after sig depth s bound t) 0
  value_ends i us room d e at u k h = value_later sig depth s bound f t (trees_of args) i (sym e) d
      at (sym (same_after i us room u k) ∙ h)
