-- Questions for a list of terms.
use Rattle.std.specs.Prelude.{◌≡◌, ℕ, List, map, length}
use Rattle.term_core.specs.Tree.{Tree, instance}

-- which list has this many terms, one for each variable, by which each pattern becomes the term that
-- is beside it?
pub record Question : Type 0 where
  pub variables : ℕ
  pub patterns : List Tree
  pub terms : List Tree

abbrev pub Answers : Question → List Tree → Type 0
Answers question list =
    (length list ≡ question.variables)
    × (map (instance list) question.patterns ≡ question.terms)
