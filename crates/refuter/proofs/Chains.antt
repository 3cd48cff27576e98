-- In a list of values or of rows, the functions of what comes after give each member's rest of the list.
use Rattle.std.proofs.Common.{◌≡◌, ℕ, zero, suc, ◌+◌, ◌-◌, List, [], ◌∷◌, ◌++◌, Bool, true, false, cond, eqb, Some}
use Rattle.std.proofs.Common.{None, inl, inr, refl, ap, sym, ◌∙◌, subst, arith, drop}
use Rattle.std.specs.Prelude.{map, slice_get, option_map}
use Rattle.std.specs.List.{flat_map}
use Rattle.term_core.specs.Tree.{Tree, Trees, app, tree_size, trees_of, list_of}
use Rattle.term_core.specs.declared.ids.SortId.{SortId}
use Rattle.spec_core.specs.declared.records.SymInfo.{SymInfo}
use Rattle.spec_core.specs.Sig.{Sig}
use Rattle.spec_core.specs.Order.{constructors_from}
use Rattle.term_core.proofs.Members.{In}
use Rattle.refuter.specs.Bounded.{values_within, rows_within}
use Rattle.refuter.specs.After.{args_in, args_of, constructors_after, room_within, applications, made_from, rows_on}
use Rattle.refuter.specs.After.{room_before, values_after, rows_after}
use Rattle.refuter.proofs.Bounded.{values_step, values_zero, values_none, rows_begin, rows_end}
use Rattle.refuter.proofs.Least.{rows_have}
use Rattle.term_core.proofs.Trees.{list_of-trees_of}

-- each member is followed by what the function says
abbrev pub IsChained : {X : Type 0} → (X → List X) → List X → Type 0
IsChained after [] = Unit {0}
IsChained after (x ∷ xs) = (after x ≡ xs) × IsChained after xs

pub chained_map : {X Y : Type 0} (after : Y → List Y) (g : X → Y) (B : X → List X) (rows : List X)
    (rest : List Y) → ((r : X) → after (g r) ≡ map g (B r) ++ rest) → IsChained B rows → IsChained after rest →
    IsChained after (map g rows ++ rest)
chained_map after g B [] rest h c d = d
chained_map after g B (r ∷ rows) rest h c d = (
  h r ∙ ap (λ xs. map g xs ++ rest) c.0,
  chained_map after g B rows rest h c.1 d,
)

-- what is after a first member begins with the second one
chained_head : {X : Type 0} (after : X → List X) (xs : List X) (y : X) → IsChained after xs →
    slice_get xs 0 ≡ Some y → xs ≡ y ∷ after y
chained_head after [] y c e = let q : None ≡ Some y = e in cc
chained_head after (x ∷ xs) y c e =
    let q : Some x ≡ Some y = e in
    let k : x ≡ y = cc in
    let h : after x ≡ xs = c.0 in
    let m : after x ≡ after y = ap after k in
    cc

chained_next : {X : Type 0} (after : X → List X) (xs : List X) (x y : X) → IsChained after xs → In x xs →
    slice_get (after x) 0 ≡ Some y → after x ≡ y ∷ after y
chained_next after [] x y c a e = absurd a
chained_next after (z ∷ xs) x y c (inl k) e =
    let m : after x ≡ xs = ap after k ∙ c.0 in
    m ∙ chained_head after xs y c.1 (ap (λ xs. slice_get xs 0) (sym m) ∙ e)
chained_next after (z ∷ xs) x y c (inr a) e = chained_next after xs x y c.1 a e

chained_later : {X : Type 0} (after : X → List X) (xs : List X) (x y : X) → IsChained after xs → In x xs →
    In y (after x) → In y xs
chained_later after [] x y c a b = absurd a
chained_later after (z ∷ xs) x y c (inl k) b = inr (subst (λ ys. In y ys) (ap after k ∙ c.0) b)
chained_later after (z ∷ xs) x y c (inr a) b = inr (chained_later after xs x y c.1 a b)

pub drop_at : {X : Type 0} (xs : List X) (f : ℕ) (x : X) (rest : List X) → drop f xs ≡ x ∷ rest →
    (slice_get xs f ≡ Some x) × (drop (suc f) xs ≡ rest)
drop_at [] zero x rest e = absurd (let q : [] ≡ x ∷ rest = e in cc)
drop_at [] (suc f) x rest e = absurd (let q : [] ≡ x ∷ rest = e in cc)
drop_at (y ∷ xs) zero x rest e =
    let q : y ∷ xs ≡ x ∷ rest = e in
    let a : y ≡ x = cc in
    let b : xs ≡ rest = cc in
    (ap (λ z. Some z) a, b)
drop_at (y ∷ xs) (suc f) x rest e = drop_at xs f x rest e

module _ (sig : Sig) where
  rows_on_chained : (depth : ℕ) (s : SortId) (ss : List SortId) (bound : ℕ) →
      ((b : ℕ) → IsChained (rows_after sig depth ss b) (rows_within sig depth ss b)) → (ts : List Tree) →
      IsChained (values_after sig depth s (room_before sig depth ss bound)) ts →
      IsChained (rows_after sig depth (s ∷ ss) bound) (rows_on sig depth ss bound ts)
  unfolding rows_on rows_after
  rows_on_chained depth s ss bound h [] c = tt
  rows_on_chained depth s ss bound h (t ∷ ts) c =
      chained_map (rows_after sig depth (s ∷ ss) bound) (λ r. t ∷ r)
      (rows_after sig depth ss (bound - tree_size t)) (rows_within sig depth ss (bound - tree_size t))
      (rows_on sig depth ss bound ts)
      (λ r. ap (λ us. map (λ x. t ∷ x) (rows_after sig depth ss (bound - tree_size t) r)
      ++ rows_on sig depth ss bound us) c.0) (h (bound - tree_size t)) (rows_on_chained depth s ss bound h ts c.1)

  rows_chained_by : (depth : ℕ) →
      ((s : SortId) (b : ℕ) → IsChained (values_after sig depth s b) (values_within sig depth s b)) →
      (ss : List SortId) (bound : ℕ) → IsChained (rows_after sig depth ss bound) (rows_within sig depth ss bound)
  unfolding rows_after
  rows_chained_by depth h [] bound = subst (λ xs. IsChained (rows_after sig depth [] bound) xs)
      (sym (rows_end sig depth bound)) (refl, tt)
  rows_chained_by depth h (s ∷ ss) bound =
      subst (λ xs. IsChained (rows_after sig depth (s ∷ ss) bound) xs)
      (sym (rows_begin sig depth s ss bound (rows_have sig depth ss)))
      (rows_on_chained depth s ss bound (rows_chained_by depth h ss)
      (values_within sig depth s (room_before sig depth ss bound)) (h s (room_before sig depth ss bound)))

  -- what is after an application: those to the rows after its arguments, and those of the later constructors
  pub after_application : (depth : ℕ) (s : SortId) (bound f : ℕ) (ts : Trees) →
      values_after sig (suc depth) s bound (app f ts) ≡ map (λ x. app f (trees_of x))
      (rows_after sig depth (args_of sig f) (room_within sig bound) (list_of ts)) ++ made_from sig depth s bound (f + 1)
  unfolding values_after rows_after
  after_application depth s bound f ts = refl

  after_at : (depth : ℕ) (s : SortId) (bound f left : ℕ) (e : List ℕ × SymInfo) (es : List (List ℕ × SymInfo)) →
      slice_get sig.table f ≡ Some e → drop (suc f) sig.table ≡ es → f + suc left ≡ sig.constructors →
      (r : List Tree) → values_after sig (suc depth) s bound (app f (trees_of r)) ≡ map
      (λ x. app f (trees_of x)) (rows_after sig depth e.1.args (room_within sig bound) r)
      ++ flat_map (λ c. applications sig depth bound c) (constructors_from (suc f) left s es)
  unfolding args_of made_from constructors_after
  after_at depth s bound f left e es at d n r =
      let k : f + 1 ≡ suc f = omega arith in
      let m : sig.constructors - suc f ≡ left = omega arith in
      let g : args_of sig f ≡ e.1.args = ap (λ o. args_in (option_map (λ (x : List ℕ × SymInfo). x.1) o)) at in
      let made : made_from sig depth s bound (f + 1) ≡ flat_map (λ c. applications sig depth bound c)
      (constructors_from (suc f) left s es) = rw (k, m, d) refl in
      let rows : map (λ x. app f (trees_of x)) (rows_after sig depth (args_of sig f) (room_within sig bound)
      (list_of (trees_of r))) ≡ map (λ x. app f (trees_of x))
      (rows_after sig depth e.1.args (room_within sig bound) r) = ap
      (λ ss. map (λ x. app f (trees_of x))
      (rows_after sig depth ss (room_within sig bound) (list_of (trees_of r)))) g
      ∙ ap (λ ts. map (λ x. app f (trees_of x)) (rows_after sig depth e.1.args (room_within sig bound) ts))
      (list_of-trees_of r) in
      after_application depth s bound f (trees_of r) ∙ ap (λ xs. xs ++ made_from sig depth s bound (f + 1)) rows
      ∙ ap (λ xs. map (λ x. app f (trees_of x)) (rows_after sig depth e.1.args (room_within sig bound) r)
      ++ xs) made

  one_chained : (depth : ℕ) (s : SortId) (bound f : ℕ) (ss : List SortId) (cs : List (ℕ × List SortId)) →
      IsChained (rows_after sig depth ss (room_within sig bound))
      (rows_within sig depth ss (room_within sig bound)) →
      ((r : List Tree) → values_after sig (suc depth) s bound (app f (trees_of r)) ≡ map
      (λ x. app f (trees_of x)) (rows_after sig depth ss (room_within sig bound) r)
      ++ flat_map (λ c. applications sig depth bound c) cs) →
      IsChained (values_after sig (suc depth) s bound) (flat_map (λ c. applications sig depth bound c) cs) →
      (b : Bool) → IsChained (values_after sig (suc depth) s bound)
      (flat_map (λ c. applications sig depth bound c) (cond b ((f, ss) ∷ cs) cs))
  unfolding applications
  one_chained depth s bound f ss cs rows here ih false = ih
  one_chained depth s bound f ss cs rows here ih true = chained_map (values_after sig (suc depth) s bound)
      (λ x. app f (trees_of x)) (rows_after sig depth ss (room_within sig bound))
      (rows_within sig depth ss (room_within sig bound)) (flat_map (λ c. applications sig depth bound c) cs)
      here rows ih

  made_chained : (depth : ℕ) (s : SortId) (bound : ℕ) →
      ((ss : List SortId) (b : ℕ) → IsChained (rows_after sig depth ss b) (rows_within sig depth ss b)) →
      (es : List (List ℕ × SymInfo)) (f left : ℕ) → drop f sig.table ≡ es → f + left ≡ sig.constructors →
      IsChained (values_after sig (suc depth) s bound)
      (flat_map (λ c. applications sig depth bound c) (constructors_from f left s es))
  made_chained depth s bound h es f zero d n = tt
  made_chained depth s bound h [] f (suc left) d n = tt
  made_chained depth s bound h (e ∷ es) f (suc left) d n =
      let w = drop_at sig.table f e es d in
      one_chained depth s bound f e.1.args (constructors_from (suc f) left s es)
      (h e.1.args (room_within sig bound)) (after_at depth s bound f left e es w.0 w.1 n)
      (made_chained depth s bound h es (suc f) left w.1 (omega arith)) (eqb e.1.result.0 s.0)

  made_whole : (depth : ℕ) (s : SortId) (bound : ℕ) →
      IsChained (values_after sig (suc depth) s bound)
      (flat_map (λ c. applications sig depth bound c) (constructors_from 0 sig.constructors s sig.table)) →
      IsChained (values_after sig (suc depth) s bound) (made_from sig depth s bound 0)
  unfolding made_from constructors_after
  made_whole depth s bound h = let z : sig.constructors - 0 ≡ sig.constructors = omega arith in rw z h

  values_chained : (depth : ℕ) (s : SortId) (bound : ℕ) →
      IsChained (values_after sig depth s bound) (values_within sig depth s bound)
  values_chained zero s bound = subst (λ xs. IsChained (values_after sig 0 s bound) xs)
      (sym (values_none sig s bound)) tt
  values_chained (suc depth) s zero = subst (λ xs. IsChained (values_after sig (suc depth) s 0) xs)
      (sym (values_zero sig (suc depth) s)) tt
  values_chained (suc depth) s (suc bound) =
      subst (λ xs. IsChained (values_after sig (suc depth) s (suc bound)) xs)
      (sym (values_step sig depth s (suc bound) (omega arith)))
      (made_whole depth s (suc bound)
      (made_chained depth s (suc bound) (rows_chained_by depth (values_chained depth)) sig.table 0
      sig.constructors refl (omega arith)))

  rows_chained : (depth : ℕ) (ss : List SortId) (bound : ℕ) →
      IsChained (rows_after sig depth ss bound) (rows_within sig depth ss bound)
  rows_chained depth ss bound = rows_chained_by depth (values_chained depth) ss bound

  pub next_value_is : (depth : ℕ) (s : SortId) (bound : ℕ) (x y : Tree) →
      In x (values_within sig depth s bound) → In y (values_after sig depth s bound x) →
      In y (values_within sig depth s bound)
  next_value_is depth s bound x y a b = chained_later (values_after sig depth s bound)
      (values_within sig depth s bound) x y (values_chained depth s bound) a b

  pub first_row : (depth : ℕ) (ss : List SortId) (bound : ℕ) (y : List Tree) →
      slice_get (rows_within sig depth ss bound) 0 ≡ Some y →
      rows_within sig depth ss bound ≡ y ∷ rows_after sig depth ss bound y
  first_row depth ss bound y e = chained_head (rows_after sig depth ss bound) (rows_within sig depth ss bound) y
      (rows_chained depth ss bound) e

  pub next_row : (depth : ℕ) (ss : List SortId) (bound : ℕ) (x y : List Tree) →
      In x (rows_within sig depth ss bound) → slice_get (rows_after sig depth ss bound x) 0 ≡ Some y →
      (rows_after sig depth ss bound x ≡ y ∷ rows_after sig depth ss bound y) × In y (rows_within sig depth ss bound)
  next_row depth ss bound x y a e =
      let k = chained_next (rows_after sig depth ss bound) (rows_within sig depth ss bound) x y
      (rows_chained depth ss bound) a e in (
        k,
        chained_later (rows_after sig depth ss bound) (rows_within sig depth ss bound) x y
            (rows_chained depth ss bound) a (subst (λ xs. In y xs) (sym k) (inl refl)),
      )
