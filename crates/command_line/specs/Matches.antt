-- What is read of the matches that `clap` finds in words.
use Rattle.std.specs.Prelude.{◌≡◌, ◌≤◌, ℕ, List, [], Some, codes}
use Rattle.std.specs.Str.Parse.{IsNumeral, digits_value, without_leading_plus}
use Rattle.clap.specs.Words.{App, Row, Text, fault_of, first_of, one_of}
use Rattle.command_line.specs.declared.ranges.NumberRange.{NumberRange}

-- `clap` finds no fault in the words; help and the version are faults
abbrev pub Takes : App → List Text → Type 0
Takes app words = fault_of app words ≡ []

-- the positional word of this name
abbrev pub HasWord : List Row → Text → Text → Type 0
HasWord rows name word = first_of name rows ≡ Some word

-- the text is digits, after a `+` at most, that write this number
pub record Writes (text : Text) (n : ℕ) : Type 0 where
  pub digits : IsNumeral 10 (without_leading_plus text)
  pub value : digits_value 10 (without_leading_plus text) ≡ n

-- the number of the option of this name, within its range: that of the words, or else the usual one
pub record HasNumber (rows : List Row) (name : Text) (range : NumberRange) (n : ℕ) : Type 0 where
  pub text : Text
  pub found : one_of name rows ≡ Some text
  pub writes : Writes text n
  pub least : range.least ≤ n
  pub most : n ≤ range.most

-- the option without a value is given
abbrev pub IsGiven : List Row → Text → Type 0
IsGiven rows name = first_of name rows ≡ Some (codes "true")
