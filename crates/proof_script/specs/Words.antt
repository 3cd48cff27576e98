-- The words of a line, and their text.
use Rattle.std.specs.Prelude.{ℕ, List, [], ◌∷◌, ◌++◌, Bool, true, false, codes, map, flat_map, slice_get}
use Rattle.std.specs.Fmt.{decimal}
use Rattle.term_core.specs.Tree.{Tree, Trees, var, app, none, some}
use Rattle.spec_core.specs.Sig.{Sig, names_of}
use Rattle.spec_core.specs.TermText.{symbol_text, term_text}
use Rattle.clause_core.specs.declared.steps.Place.{Place}

pub data Word : Type 0 where
  -- a fixed word, and a name
  fixed : List ℕ → Word
  name : List ℕ → Word
  -- a number, and a variable by its number
  number : ℕ → Word
  variable : ℕ → Word
  -- a conclusion if true, a premise if false, by its number
  equation : Bool → ℕ → Word
  place : Place → Word
  -- the left side if true, the right one if false
  side : Bool → Word
  -- a term, a list of terms, and a list of patterns
  term : Tree → Word
  terms : List Tree → Word
  patterns : List Tree → Word

-- `c` and the number of a conclusion, or `p` and the number of a premise
abbrev pub equation_text : Bool → ℕ → List ℕ
equation_text true n = codes "c" ++ decimal n
equation_text false n = codes "p" ++ decimal n

abbrev pub side_text : Bool → List ℕ
side_text true = codes "l"
side_text false = codes "r"

-- an equation, `.l` or `.r`, and `.i` for each argument number on the way down
abbrev pub place_text : Place → List ℕ
place_text p =
    equation_text p.conclusion p.number
    ++ (codes "." ++ (side_text p.left ++ flat_map (λ i. codes "." ++ decimal i) p.path))

-- a list in brackets, of which each item comes with the text before it
abbrev pub in_brackets : List ℕ → List ℕ
in_brackets text = codes "[" ++ (text ++ codes "]")

-- the texts of a list with `, ` between them
abbrev pub with_commas : List (List ℕ) → List ℕ
with_commas [] = []
with_commas (t ∷ ts) = t ++ flat_map (λ u. codes ", " ++ u) ts

module _ (sig : Sig) where
  -- a pattern is written as a term, with `_` for each variable
  abbrev mutual
    pub pattern_text : Tree → List ℕ
    pattern_text (var n) = codes "_"
    pattern_text (app f none) = symbol_text (slice_get (names_of sig) f)
    pattern_text (app f (some p ps)) =
        symbol_text (slice_get (names_of sig) f)
        ++ codes "(" ++ pattern_text p ++ other_patterns_text ps ++ codes ")"

    pub other_patterns_text : Trees → List ℕ
    other_patterns_text none = []
    other_patterns_text (some p ps) = codes ", " ++ pattern_text p ++ other_patterns_text ps

abbrev pub word_text : Sig → Word → List ℕ
word_text sig (fixed text) = text
word_text sig (name text) = text
word_text sig (number n) = decimal n
word_text sig (variable n) = codes "?" ++ decimal n
word_text sig (equation conclusion n) = equation_text conclusion n
word_text sig (place p) = place_text p
word_text sig (side left) = side_text left
word_text sig (term t) = term_text sig [] t
word_text sig (terms ts) = in_brackets (with_commas (map (term_text sig []) ts))
word_text sig (patterns ps) = in_brackets (with_commas (map (pattern_text sig) ps))

-- A line: what it begins with, and its other words.
pub record Line : Type 0 where
  pub head : List ℕ
  pub words : List Word

-- single blanks between the words, and a newline at the end
abbrev pub line_text : Sig → Line → List ℕ
line_text sig l = l.head ++ (flat_map (λ w. codes " " ++ word_text sig w) l.words ++ codes "\n")

abbrev pub lines_text : Sig → List Line → List ℕ
lines_text sig ls = flat_map (line_text sig) ls
