-- The arguments of commands, as `clap` sees them.
use Rattle.std.specs.Prelude.{[], ◌∷◌, Some, true}
use Rattle.clap.specs.Words.{Rule, Text, new_rule}
use Rattle.clap.specs.declared.builder.value_parser.ValueParser.TheVariants.{Unsigned}
use Rattle.clap.specs.declared.builder.action.ArgAction.TheVariants.{Set, SetTrue}
use Rattle.command_line.specs.declared.ranges.NumberRange.{NumberRange}

-- a positional word, which has to be there
abbrev pub word_rule : Text → Rule
word_rule name = record (new_rule name) { required = true; action = Some Set }

-- a positional number of the range, which has to be there
abbrev pub numeral_rule : Text → NumberRange → Rule
numeral_rule name range = record (new_rule name) {
  required = true;
  action = Some Set;
  parser = Some (Unsigned range.least range.most);
}

-- an option with a text
abbrev pub option_rule : Text → Rule
option_rule name = record (new_rule name) { long = Some name; action = Some Set }

-- an option with a number of the range, and the text that stands for it if no word gives one
abbrev pub number_rule : Text → NumberRange → Text → Rule
number_rule name range usual = record (new_rule name) {
  long = Some name;
  action = Some Set;
  parser = Some (Unsigned range.least range.most);
  defaults = usual ∷ [];
}

-- an option without a value
abbrev pub flag_rule : Text → Rule
flag_rule name = record (new_rule name) { long = Some name; action = Some SetTrue }
