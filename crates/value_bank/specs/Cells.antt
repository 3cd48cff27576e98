-- Cells of a bank, and the terms at their places.
use Rattle.std.specs.Prelude.{◌≡◌, ℕ, ◌<◌, List, [], ◌∷◌, ◌++◌, Some, slice_get}
use Rattle.std.specs.List.{AllByRecursion}
use Rattle.term_core.specs.Tree.{Tree, Trees, var, app, none, some}
use Rattle.bank_core.specs.Entries.{Entry, entry}

-- a symbol, and the places of its arguments
abbrev pub Cell : Type 0
Cell = Entry ℕ ℕ

abbrev pub cell : ℕ → List ℕ → Cell
cell f ps = entry f ps

module _ (cells : List Cell) where
  -- the term at a place: the cell's symbol, applied to the terms at the cell's places
  abbrev mutual
    pub IsTerm : ℕ → Tree → Type 0
    IsTerm p (var n) = ⊥
    IsTerm p (app f ts) = (ps : List ℕ) × (slice_get cells p ≡ Some (cell f ps)) × AreTerms ps ts

    pub AreTerms : List ℕ → Trees → Type 0
    AreTerms [] none = Unit {0}
    AreTerms (p ∷ ps) (some t ts) = IsTerm p t × AreTerms ps ts
    AreTerms [] (some t ts) = ⊥
    AreTerms (p ∷ ps) none = ⊥

-- the places are those of earlier cells
abbrev pub AreBelow : ℕ → List ℕ → Type 0
AreBelow n ps = AllByRecursion (λ (p : ℕ). p < n) ps

-- each cell refers to earlier cells alone, and no two places have the same cell
pub record IsBank (cells : List Cell) : Type 0 where
  pub earlier : (k : ℕ) (f : ℕ) (ps : List ℕ) → slice_get cells k ≡ Some (cell f ps) → AreBelow k ps
  pub distinct : (j k : ℕ) (c : Cell) → slice_get cells j ≡ Some c → slice_get cells k ≡ Some c
      → j ≡ k

-- the old cells stay, and further ones may follow
abbrev pub AddsCells : List Cell → List Cell → Type 0
AddsCells old new = (more : List Cell) × (new ≡ old ++ more)
