-- A step of the odometer adds at most as many cells as the values that it makes have symbols.
use Rattle.std.proofs.Common.{◌≡◌, ℕ, ◌+◌, ◌-◌, ◌<◌, ◌≤◌, min, List, ◌∷◌, Option, Some, None, refl, ap, sym, ◌∙◌}
use Rattle.std.proofs.Common.{subst, arith}
use Rattle.std.specs.Prelude.{slice_get}
use Rattle.term_core.specs.Tree.{Tree, tree_size}
use Rattle.term_core.specs.declared.ids.SortId.{SortId}
use Rattle.spec_core.specs.Sig.{Sig}
use Rattle.value_bank.specs.Cells.{Cell, IsTerm}
use Rattle.term_core.proofs.Members.{In}
use Rattle.refuter.specs.Bounded.{values_within, rows_within}
use Rattle.refuter.specs.After.{rows_on, room_before, values_after, rows_after}
use Rattle.refuter.specs.Moves.{IsPlaceOf}
use Rattle.refuter.specs.Symbols.{value_symbols, row_symbols}
use Rattle.refuter.proofs.InLists.{first_in}
use Rattle.refuter.proofs.Chains.{next_value_is}
use Rattle.refuter.proofs.Steps.{first_left, value_fits, begins, first_on, room_fits, after_last, row_parts, place_some}

module _ (sig : Sig) (depth : ℕ) where
  -- the first row on some values has the symbols of the first value, and of the first row of the others after it
  on_symbols : (ss : List SortId) (bound left : ℕ) (ts : List Tree) (t : Tree) → bound < 4096 →
      slice_get ts 0 ≡ Some t → tree_size t ≤ room_before sig depth ss bound → left ≡ bound - tree_size t →
      row_symbols (slice_get (rows_on sig depth ss bound ts) 0) ≡ tree_size t + row_symbols
      (slice_get (rows_within sig depth ss left) 0)
  on_symbols ss bound left ts t l e fits k = by (slice_get (rows_within sig depth ss left) 0) refl
    where
      by : (o : Option (List Tree)) → slice_get (rows_within sig depth ss left) 0 ≡ o →
          row_symbols (slice_get (rows_on sig depth ss bound ts) 0) ≡ tree_size t + row_symbols o
      by None q = absurd (room_fits sig depth ss bound t l fits
          (ap (λ b. slice_get (rows_within sig depth ss b) 0) (sym k) ∙ q))
      by (Some r) q = ap row_symbols
          (first_on sig depth ss bound ts t r e (ap (λ b. slice_get (rows_within sig depth ss b) 0) (sym k) ∙ q))

  -- a first value is made, and the first row of the others
  pub push_symbols : (cells : List Cell) (all : List SortId) (s : SortId) (ss : List SortId)
      (bound room size p : ℕ) (o : Option ℕ) → all ≡ s ∷ ss → bound < 4096 →
      room ≡ room_before sig depth ss bound → o ≡ Some p →
      IsPlaceOf cells (slice_get (values_within sig depth s room) 0) o →
      ((t : Tree) → IsTerm cells p t → size ≡ min (tree_size t) bound) →
      row_symbols (slice_get (rows_within sig depth all bound) 0) ≡ value_symbols
      (slice_get (values_within sig depth s room) 0) + row_symbols
      (slice_get (rows_within sig depth ss (bound - size)) 0)
  push_symbols cells all s ss bound room size p o e l r z w sized =
      let v = place_some cells (slice_get (values_within sig depth s room) 0) o p z w in
      let n = sized v.0 v.2 in
      let left = bound - size in
      let k : left ≡ bound - tree_size v.0 = omega arith in
      let firsts = values_within sig depth s (room_before sig depth ss bound) in
      let h : slice_get firsts 0 ≡ Some v.0 = sym (ap (λ b. slice_get (values_within sig depth s b) 0) r) ∙ v.1 in
      let fits = value_fits sig depth s (room_before sig depth ss bound) v.0 (first_in firsts v.0 h) in
      let whole = ap (λ xs. row_symbols (slice_get (rows_within sig depth xs bound) 0)) e
      ∙ ap (λ xs. row_symbols (slice_get xs 0)) (begins sig depth s ss bound) in
      omega (arith, whole, on_symbols ss bound left firsts v.0 l h fits k, ap value_symbols v.1)

  -- the next value is made, and the first row of the others
  pub next_symbols : (cells : List Cell) (all : List SortId) (s : SortId) (ss : List SortId)
      (bound left before size p : ℕ) (t : Tree) (ts old : List Tree) (x : Option ℕ) → all ≡ s ∷ ss →
      old ≡ t ∷ ts → left ≡ bound - tree_size t → slice_get (rows_after sig depth ss left ts) 0 ≡ None →
      bound < 4096 → before ≡ room_before sig depth ss bound → In old (rows_within sig depth all bound) →
      x ≡ Some p → IsPlaceOf cells (slice_get (values_after sig depth s before t) 0) x →
      ((v : Tree) → IsTerm cells p v → size ≡ min (tree_size v) bound) →
      row_symbols (slice_get (rows_after sig depth all bound old) 0) ≡ value_symbols
      (slice_get (values_after sig depth s before t) 0) + row_symbols
      (slice_get (rows_within sig depth ss (bound - size)) 0)
  next_symbols cells all s ss bound left before size p t ts old x e o k n l q b z y sized =
      let v = place_some cells (slice_get (values_after sig depth s before t) 0) x p z y in
      let c = sized v.0 v.2 in
      let room = room_before sig depth ss bound in
      let again = bound - size in
      let r : again ≡ bound - tree_size v.0 = omega arith in
      let a = (row_parts sig depth s ss bound t ts (subst (λ us. In (t ∷ ts) (rows_within sig depth us bound)) e
      (subst (λ us. In us (rows_within sig depth all bound)) o b))).0 in
      let h : slice_get (values_after sig depth s room t) 0 ≡ Some v.0 = sym
      (ap (λ w. slice_get (values_after sig depth s w t) 0) q) ∙ v.1 in
      let later = values_after sig depth s room t in
      let fits = value_fits sig depth s room v.0 (next_value_is sig depth s room t v.0 a (first_in later v.0 h)) in
      omega (
        arith,
        ap row_symbols (after_last sig depth all s ss bound left t ts old e o k n),
        on_symbols ss bound again later v.0 l h fits r,
        ap value_symbols v.1,
      )

  -- the first value stays, and the others go on
  pub same_symbols : (all : List SortId) (s : SortId) (ss : List SortId) (bound left : ℕ) (t : Tree)
      (ts old r : List Tree) → all ≡ s ∷ ss → old ≡ t ∷ ts → left ≡ bound - tree_size t →
      slice_get (rows_after sig depth ss left ts) 0 ≡ Some r →
      row_symbols (slice_get (rows_after sig depth all bound old) 0) ≡ tree_size t + row_symbols
      (slice_get (rows_after sig depth ss left ts) 0)
  unfolding rows_after
  same_symbols all s ss bound left t ts old r e o k n =
      let f : slice_get (rows_after sig depth (s ∷ ss) bound (t ∷ ts)) 0 ≡ Some (t ∷ r) = first_left
      (λ r. t ∷ r) (rows_after sig depth ss (bound - tree_size t) ts)
      (rows_on sig depth ss bound (values_after sig depth s (room_before sig depth ss bound) t)) r
      (ap (λ b. slice_get (rows_after sig depth ss b ts) 0) (sym k) ∙ n) in
      omega (
        arith,
        ap (λ xs. row_symbols (slice_get (rows_after sig depth xs bound old) 0)) e,
        ap (λ xs. row_symbols (slice_get (rows_after sig depth (s ∷ ss) bound xs) 0)) o,
        ap row_symbols f,
        ap row_symbols n,
      )
