-- A bank of three cells, where zero, succ and node are the symbols 2, 3 and 4.
use Rattle.std.specs.Prelude.{List, [], ◌∷◌}
use Rattle.term_core.specs.Tree.{Tree, app, none, some}
use Rattle.value_bank.specs.Cells.{Cell, cell, IsTerm, IsBank}

abbrev pub zero_term : Tree
zero_term = app 2 none

abbrev pub succ_term : Tree → Tree
succ_term t = app 3 (some t none)

-- zero, its succ, and a node of that one twice
abbrev pub three_cells : List Cell
three_cells = cell 2 [] ∷ cell 3 (0 ∷ []) ∷ cell 4 (1 ∷ 1 ∷ []) ∷ []

-- the term of the last cell, which has five symbols
abbrev pub node_term : Tree
node_term = app 4 (some (succ_term zero_term) (some (succ_term zero_term) none))

pub record WorkedExamples : Type 0 where
  pub shared : IsTerm three_cells 2 node_term
  -- no other term is there, and no term comes after the last cell
  pub other : IsTerm three_cells 2 (succ_term zero_term) → ⊥
  pub outside : IsTerm three_cells 3 zero_term → ⊥
  -- two cells of zero are no bank, and neither is a cell that refers to itself
  pub twice : IsBank (cell 2 [] ∷ cell 2 [] ∷ []) → ⊥
  pub itself : IsBank (cell 3 (0 ∷ []) ∷ []) → ⊥
