-- Words that ask for help, and what `clap` makes of words where help is an answer of its own.
use Rattle.std.specs.Prelude.{◌≡◌, ◌≢◌, ◌⊎◌, List, [], ◌∷◌, codes}
use Rattle.clap.specs.Words.{App, IsAmong, Text, fault_of, found_of, rows_of}
use Rattle.clap.specs.declared.error.kind.ErrorKind.TheVariants.{DisplayHelp}
use Rattle.command_line.specs.Readings.{AreMatches}
use Rattle.command_line.specs.declared.matching.Reading.{Reading}
use Rattle.command_line.specs.declared.matching.Reading.TheVariants.{Matches, Help, Fault}

-- a word that asks for help if it is the first one
abbrev pub IsHelpWord : Text → Type 0
IsHelpWord word = (word ≡ codes "--help") ⊎ ((word ≡ codes "-h") ⊎ (word ≡ codes "help"))

abbrev pub BeginWithHelp : List Text → Type 0
BeginWithHelp [] = ⊥
BeginWithHelp (word ∷ words) = IsHelpWord word

-- `clap` finds a fault in the words, and not only that they ask for help
pub record AreFaulty (app : App) (words : List Text) : Type 0 where
  pub fault : fault_of app words ≢ []
  pub other : fault_of app words ≢ DisplayHelp ∷ []

-- what `clap` makes of the words after a command word
abbrev pub IsReading : App → List Text → Reading → Type 0
IsReading app words (Matches matches) = AreMatches app words (rows_of (found_of matches))
IsReading app words Help = IsAmong DisplayHelp (fault_of app words)
IsReading app words Fault = AreFaulty app words
