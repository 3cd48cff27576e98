-- Declarations of one sort, on which small values are worked.
use Rattle.std.specs.Prelude.{ℕ, List, [], ◌∷◌, codes, replicate}
use Rattle.term_core.specs.declared.ids.SortId.{SortId}
use Rattle.spec_core.specs.declared.records.SymInfo.{SymInfo}
use Rattle.spec_core.specs.Sig.{Sig}
use Rattle.spec_core.specs.Declarations.{declared_by, bool_sort}

-- the declared sort
abbrev pub shape : SortId
shape = record { 0 = 1 }

-- a constructor of the sort with these arguments
abbrev pub shape_symbol : List SortId → SymInfo
shape_symbol args = record { args = args; result = shape }

-- sort Tree = node(Tree, Tree) | leaf
abbrev pub tree_sig : Sig
tree_sig = declared_by (codes "Tree" ∷ [])
    ((codes "node", shape_symbol (shape ∷ shape ∷ [])) ∷ (codes "leaf", shape_symbol []) ∷ []) []

-- sort Color = red | green
abbrev pub color_sig : Sig
color_sig = declared_by (codes "Color" ∷ [])
    ((codes "red", shape_symbol []) ∷ (codes "green", shape_symbol []) ∷ []) []

-- sort Wide = wide(Bool, .., Bool), with this number of arguments
abbrev pub wide_sig : ℕ → Sig
wide_sig n =
    declared_by (codes "Wide" ∷ []) ((codes "wide", shape_symbol (replicate n bool_sort)) ∷ []) []
