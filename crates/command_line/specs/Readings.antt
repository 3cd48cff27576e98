-- What a parse of a flat command gives, for each of its arguments.
use Rattle.std.specs.Prelude.{◌≡◌, ◌≤◌, ℕ, List, Some, codes, is_some, slice_get, true}
use Rattle.std.specs.Str.Parse.{IsNumeral, digits_value, without_leading_plus}
use Rattle.clap.specs.Words.{App, Row, Text, first_of, matches_of, one_of}
use Rattle.command_line.specs.declared.ranges.NumberRange.{NumberRange}
use Rattle.command_line.specs.Ranges.{depth_range, tries_range, steps_range, plain_range, nodes_range}
use Rattle.command_line.specs.Rules.{number_rule, numeral_rule, word_rule}
use Rattle.command_line.specs.Matches.{Takes}

-- the matches have a positional word of this name
abbrev pub HasSomeWord : List Row → Text → Type 0
HasSomeWord rows name = is_some (first_of name rows) ≡ true

-- the matches have a text of this name that writes a number of the range
pub record HasSomeNumber (rows : List Row) (name : Text) (range : NumberRange) : Type 0 where
  pub text : Text
  pub found : one_of name rows ≡ Some text
  pub digits : IsNumeral 10 (without_leading_plus text)
  pub least : range.least ≤ digits_value 10 (without_leading_plus text)
  pub most : digits_value 10 (without_leading_plus text) ≤ range.most

-- the matches have the three numbers of a search for counterexamples
pub record HasSomeBounds (rows : List Row) : Type 0 where
  pub depth : HasSomeNumber rows (codes "depth") depth_range
  pub tries : HasSomeNumber rows (codes "tries") tries_range
  pub steps : HasSomeNumber rows (codes "steps") steps_range

-- the matches have the five numbers of a search for counterexamples and then for proofs
pub record HasSomeProofBounds (rows : List Row) : Type 0 where
  pub search : HasSomeBounds rows
  pub plain : HasSomeNumber rows (codes "plain") plain_range
  pub nodes : HasSomeNumber rows (codes "nodes") nodes_range

-- all arguments of the command are there
pub record HasArguments (app : App) (rows : List Row) : Type 0 where
  pub has_words : (k : ℕ) (name : Text) → slice_get app.top.rules k ≡ Some (word_rule name)
      → HasSomeWord rows name
  pub has_numbers : (k : ℕ) (name usual : Text) (range : NumberRange)
      → slice_get app.top.rules k ≡ Some (number_rule name range usual)
      → HasSomeNumber rows name range
  pub has_numerals : (k : ℕ) (name : Text) (range : NumberRange)
      → slice_get app.top.rules k ≡ Some (numeral_rule name range)
      → HasSomeNumber rows name range

-- the matches are those of the command in words without a fault, and all its arguments are there
pub record AreMatches (app : App) (words : List Text) (rows : List Row) : Type 0 where
  pub taken : Takes app words
  pub are : rows ≡ matches_of app words
  pub arguments : HasArguments app rows
