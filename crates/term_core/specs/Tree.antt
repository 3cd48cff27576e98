-- Terms as trees: a variable by its number, or a symbol's number before its arguments.
use Rattle.std.specs.Prelude.{ℕ, ◌+◌, max, List, [], ◌∷◌, slice_index_or}

mutual
  pub data Tree : Type 0 where
    var : ℕ → Tree
    app : ℕ → Trees → Tree

  pub data Trees : Type 0 where
    none : Trees
    some : Tree → Trees → Trees

-- the terms of a list, and the list of the terms
abbrev pub trees_of : List Tree → Trees
trees_of [] = none
trees_of (t ∷ ts) = some t (trees_of ts)

abbrev pub list_of : Trees → List Tree
list_of none = []
list_of (some t ts) = t ∷ list_of ts

-- the number of symbols and variables, each occurrence counted
abbrev mutual
  pub tree_size : Tree → ℕ
  tree_size (var n) = 1
  tree_size (app f ts) = 1 + sizes ts

  pub sizes : Trees → ℕ
  sizes none = 0
  sizes (some t ts) = tree_size t + sizes ts

-- the number of symbols and variables on the longest way down from the root
abbrev mutual
  pub tree_depth : Tree → ℕ
  tree_depth (var n) = 1
  tree_depth (app f ts) = 1 + depths ts

  pub depths : Trees → ℕ
  depths none = 0
  depths (some t ts) = max (tree_depth t) (depths ts)

-- the tree with each variable exchanged for the entry of that number; a variable without an entry stays
abbrev mutual
  pub instance : List Tree → Tree → Tree
  instance values (var n) = slice_index_or values n (var n)
  instance values (app f ts) = app f (instances values ts)

  pub instances : List Tree → Trees → Trees
  instances values none = none
  instances values (some t ts) = some (instance values t) (instances values ts)
