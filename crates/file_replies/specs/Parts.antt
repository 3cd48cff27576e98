-- Texts of which a part was appended.
use Rattle.std.specs.Prelude.{◌≡◌, ℕ, ◌⊎◌, List, Option}
use Rattle.io_core.specs.Piece.{AppendedPrefix}

-- nothing was appended, or a prefix of one of these texts
abbrev pub AppendsPartOf : (List ℕ → Type 0) → Option (List ℕ) → Option (List ℕ) → Type 0
AppendsPartOf IsText old new =
    (new ≡ old) ⊎ ((text : List ℕ) × IsText text × AppendedPrefix old new text)
