-- A search's bank stays small: the row of a step has few symbols, and so has the one that is put into an empty bank.
use Rattle.std.proofs.Common.{◌≡◌, ℕ, ◌*◌, ◌≤◌, max, List, [], ◌∷◌, Option, Some, None, refl, arith, length}
use Rattle.std.specs.Prelude.{map, slice_get, nat_le}
use Rattle.std.specs.List.{AllByRecursion}
use Rattle.term_core.specs.Tree.{Tree, tree_size, sizes, trees_of}
use Rattle.term_core.specs.declared.ids.SortId.{SortId}
use Rattle.term_core.proofs.Members.{In}
use Rattle.spec_core.specs.Sig.{Sig}
use Rattle.spec_core.specs.Order.{product, values}
use Rattle.value_bank.specs.Cells.{Cell, AreTerms}
use Rattle.rule_code.proofs.Testing.{terms_count}
use Rattle.refuter.specs.declared.parts.Look.{Look}
use Rattle.refuter.specs.declared.parts.Look.TheVariants.{Whole, Cut, Found}
use Rattle.refuter.specs.declared.walking.Walk.{Walk}
use Rattle.refuter.specs.Bounded.{rows_within}
use Rattle.refuter.specs.After.{rows_after}
use Rattle.refuter.specs.Sizes.{CanRead}
use Rattle.refuter.specs.Symbols.{row_symbols}
use Rattle.refuter.specs.Memory.{most_cells, HasAtMost, LeavesFew}
use Rattle.refuter.proofs.Numbers.{true_le}
use Rattle.refuter.proofs.InLists.{first_in, filter_parts}
use Rattle.refuter.proofs.Chains.{next_row}
use Rattle.refuter.proofs.Steps.{at_places}

module _ (sig : Sig) (depth : ℕ) (ss : List SortId) (bound : ℕ) where
  in_bound : (row : List Tree) → In row (rows_within sig depth ss bound) → sizes (trees_of row) ≤ bound
  unfolding rows_within
  in_bound row a = true_le (sizes (trees_of row)) bound (filter_parts (λ ts. nat_le (sizes (trees_of ts)) bound)
      (product (map (λ s. values sig depth s) ss)) row a).1

  -- the first row has at most as many symbols as the bound says
  pub first_symbols : row_symbols (slice_get (rows_within sig depth ss bound) 0) ≤ bound
  first_symbols = by (slice_get (rows_within sig depth ss bound) 0) refl
    where
      by : (o : Option (List Tree)) → slice_get (rows_within sig depth ss bound) 0 ≡ o → row_symbols o ≤ bound
      by None e = omega arith
      by (Some row) e = in_bound row (first_in (rows_within sig depth ss bound) row e)

  -- and so has a next one
  pub after_symbols : (old : List Tree) → In old (rows_within sig depth ss bound) →
      row_symbols (slice_get (rows_after sig depth ss bound old) 0) ≤ bound
  after_symbols old a = by (slice_get (rows_after sig depth ss bound old) 0) refl
    where
      by : (o : Option (List Tree)) → slice_get (rows_after sig depth ss bound old) 0 ≡ o → row_symbols o ≤ bound
      by None e = omega arith
      by (Some row) e = in_bound row (next_row sig depth ss bound old row a e).1

small_symbols : (row : List Tree) → AllByRecursion (λ t. tree_size t ≤ 255) row →
    sizes (trees_of row) ≤ 255 * length row
small_symbols [] a = omega arith
small_symbols (t ∷ row) a = let w : tree_size t ≤ 255 = a.0 in omega (arith, small_symbols row a.1)

-- values that can be read have at most 255 symbols each
pub read_symbols : (cells : List Cell) (places : List ℕ) (row : List Tree) → CanRead cells places →
    AreTerms cells places (trees_of row) → sizes (trees_of row) ≤ 255 * length places
read_symbols cells places row can h =
    let few : sizes (trees_of can.0) ≤ 255 * length places = omega (
      arith,
      small_symbols can.0 can.2,
      terms_count cells places can.0 can.1,
    ) in
    at_places cells places (λ ts. sizes (trees_of ts) ≤ 255 * length places) can.0 can.1 few row h

module _ (walk : Walk) where
  pub more_allowed : (less most : ℕ) (cells : List Cell) (look : Look) → less ≤ most →
      HasAtMost walk less cells look → HasAtMost walk most cells look
  more_allowed less most cells Whole l h = omega arith
  more_allowed less most cells Cut l h = omega arith
  more_allowed less most cells (Found row) l h = omega arith

  -- what a look leaves that begins with few cells
  pub leaves_few : (old mid new : List Cell) (look : Look) → length mid ≤ most_cells walk →
      HasAtMost walk (max (length mid) (most_cells walk)) new look → LeavesFew walk old new look
  leaves_few old mid new Whole l h = omega arith
  leaves_few old mid new Cut l h = omega arith
  leaves_few old mid new (Found row) l h = omega arith
