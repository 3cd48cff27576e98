-- Substitutions: a list that has, by variable number, an entry or none.
use Rattle.std.specs.Prelude.{◌≡◌, ℕ, List, Option, None, slice_index_or, unwrap_or}
use Rattle.term_core.specs.Tree.{Tree, Trees, var, app, none, some}

-- the entry of a variable
abbrev pub entry : List (Option Tree) → ℕ → Option Tree
entry entries n = slice_index_or entries n None

-- what a variable becomes: its entry, or itself if it has none
abbrev pub image : List (Option Tree) → ℕ → Tree
image entries n = unwrap_or (entry entries n) (var n)

-- the term with each variable exchanged for what it becomes
abbrev mutual
  pub apply : List (Option Tree) → Tree → Tree
  apply entries (var n) = image entries n
  apply entries (app f ts) = app f (apply_all entries ts)

  pub apply_all : List (Option Tree) → Trees → Trees
  apply_all entries none = none
  apply_all entries (some t ts) = some (apply entries t) (apply_all entries ts)

-- applying the one is applying the first and then the second (composition)
abbrev pub IsComposed : List (Option Tree) → List (Option Tree) → List (Option Tree) → Type 0
IsComposed first second both = (t : Tree) → apply both t ≡ apply second (apply first t)
