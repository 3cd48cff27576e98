-- Raw specifications in format 2, and what holds of their printed form.
use Rattle.std.specs.Prelude.{◌≡◌, ◌≤◌, ◌*◌, ℕ, List, length}
use Rattle.spec_grammar.specs.declared.raw.RawSpec.{RawSpec}
use Rattle.spec_grammar.specs.Grammar.{IsSpecText}
use Rattle.spec_grammar.specs.Derives.{TextDerives}
use Rattle.spec_printing.specs.Printed.{printed}
use Rattle.spec_printing.specs.SamePlaces.{IsSameButPlaces}

-- the same declarations in format 2
abbrev pub upgraded : RawSpec → RawSpec
upgraded raw = record raw { version = 2 }

-- Of a raw specification that a text of either format derives, the printed form in format 2 is a
-- text, derives that specification in format 2, apart from places, is the printed form in format 2
-- of what it derives, and has at most three times the bytes of the first text.
pub record UpgradeReadsBack : Type 0 where
  pub derives : (bytes : List ℕ) (raw : RawSpec) → TextDerives IsSpecText bytes raw
      → (again : RawSpec) × TextDerives IsSpecText (printed (upgraded raw)) again
  pub same : (bytes : List ℕ) (raw again : RawSpec) → TextDerives IsSpecText bytes raw
      → TextDerives IsSpecText (printed (upgraded raw)) again
      → IsSameButPlaces again (upgraded raw)
  pub unchanged : (bytes : List ℕ) (raw again : RawSpec) → TextDerives IsSpecText bytes raw
      → TextDerives IsSpecText (printed (upgraded raw)) again
      → printed (upgraded again) ≡ printed (upgraded raw)
  pub short : (bytes : List ℕ) (raw : RawSpec) → TextDerives IsSpecText bytes raw
      → length (printed (upgraded raw)) ≤ 3 * length bytes
