-- Raw terms as trees: a word's bytes, its place, and the terms in parentheses after it.
use Rattle.std.specs.Prelude.{ℕ, List, [], ◌∷◌}

mutual
  pub data RawTree : Type 0 where
    word : List ℕ → ℕ → RawTrees → RawTree

  pub data RawTrees : Type 0 where
    none : RawTrees
    some : RawTree → RawTrees → RawTrees

-- the terms of a list
abbrev pub raw_trees : List RawTree → RawTrees
raw_trees [] = none
raw_trees (t ∷ ts) = some t (raw_trees ts)
