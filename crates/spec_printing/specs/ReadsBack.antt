-- What is read of a text that was printed.
use Rattle.std.specs.Prelude.{◌≡◌, ℕ, List}
use Rattle.spec_grammar.specs.declared.raw.RawSpec.{RawSpec}
use Rattle.spec_grammar.specs.Grammar.{IsSpecText}
use Rattle.spec_grammar.specs.Derives.{TextDerives}
use Rattle.spec_printing.specs.Printed.{printed}
use Rattle.spec_printing.specs.SamePlaces.{IsSameButPlaces}

-- if any text derives the raw specification, this one derives the same apart from places
abbrev pub ReadsBackAs : RawSpec → List ℕ → Type 0
ReadsBackAs raw text = (bytes : List ℕ) → TextDerives IsSpecText bytes raw
    → (again : RawSpec) × TextDerives IsSpecText text again × IsSameButPlaces again raw

-- the printed form of what a text derives is a text, derives the same, apart from places, and is the
-- printed form of that too
pub record PrintedReadsBack : Type 0 where
  pub derives : (bytes : List ℕ) (raw : RawSpec) → TextDerives IsSpecText bytes raw
      → (again : RawSpec) × TextDerives IsSpecText (printed raw) again
  pub same : (bytes : List ℕ) (raw again : RawSpec) → TextDerives IsSpecText bytes raw
      → TextDerives IsSpecText (printed raw) again → IsSameButPlaces again raw
  pub printed_again : (bytes : List ℕ) (raw again : RawSpec) → TextDerives IsSpecText bytes raw
      → TextDerives IsSpecText (printed raw) again → printed again ≡ printed raw
