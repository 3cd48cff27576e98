-- The variables of raw terms by first occurrence.
use Rattle.std.specs.Prelude.{ℕ, List, [], ◌∷◌, ◌++◌, Option, Some, None, position}
use Rattle.std.specs.Str.{bytes_eq}
use Rattle.spec_core.specs.Sig.{Sig, names_of}
use Rattle.spec_grammar.specs.RawTree.{RawTree, RawTrees, word, none as no_raws, some as more_raws}
use Rattle.spec_grammar.specs.declared.raw.RawEq.{RawEq}

-- the names with one more, unless it has a place among them
abbrev pub with_name : List (List ℕ) → List ℕ → Option ℕ → List (List ℕ)
with_name seen name (Some n) = seen
with_name seen name None = seen ++ name ∷ []

-- the names after a word: those after its terms if it is a symbol
abbrev pub after_word : List (List ℕ) → List ℕ → List (List ℕ) → Option ℕ → List (List ℕ)
after_word seen name after (Some f) = after
after_word seen name after None = with_name seen name (position (bytes_eq name) seen)

module _ (sig : Sig) where
  -- the names after a term, each word that is no symbol after those before it
  abbrev mutual
    pub names_after : List (List ℕ) → RawTree → List (List ℕ)
    names_after seen (word name at raws) =
        after_word seen name (names_after_all seen raws) (position (bytes_eq name) (names_of sig))

    pub names_after_all : List (List ℕ) → RawTrees → List (List ℕ)
    names_after_all seen no_raws = seen
    names_after_all seen (more_raws raw raws) = names_after_all (names_after seen raw) raws

  -- the names after the sides of equations
  abbrev pub names_after_sides : List (List ℕ) → List RawEq → List (List ℕ)
  names_after_sides seen [] = seen
  names_after_sides seen (e ∷ es) =
      names_after_sides (names_after (names_after seen e.left) e.right) es
