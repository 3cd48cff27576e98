-- The names that may appear in a report.
use Rattle.std.specs.Prelude.{ℕ, ◌≤◌, List, [], ◌∷◌, Contains, codes, length}
use Rattle.std.specs.Str.{chars, IsUtf8}
use Rattle.spec_text.specs.Names.{IsName}

-- the words that are no names
abbrev pub reserved_words : List (List ℕ)
reserved_words =
    codes "spike" ∷ codes "sort" ∷ codes "fun" ∷ codes "rule" ∷ codes "goal" ∷ codes "if"
    ∷ codes "unless" ∷ codes "order" ∷ codes "status" ∷ codes "equal" ∷ codes "_" ∷ []

-- a name as in the text of a specification, of at most 64 bytes
pub record IsReportName (name : List ℕ) : Type 0 where
  pub text : IsUtf8 name
  pub spelled : IsName (chars name)
  pub free : Contains reserved_words name → ⊥
  pub short : length name ≤ 64
