-- What holds of the tokens of every text.
use Rattle.std.specs.Prelude.{◌≡◌, ℕ, List}
use Rattle.spec_text.specs.Tokens.{AreTokens}
use Rattle.spec_text.specs.Spans.{HaveSpans}
use Rattle.spec_text.specs.Written.{Written, written, placed, AllBlank, AllSound}
use Rattle.spec_text.specs.declared.tokens.Token.{Token}

-- a text has no two lists of tokens
abbrev pub OneList : Type 0
OneList = (bs : List ℕ) (ts us : List Token) → AreTokens bs ts → AreTokens bs us → ts ≡ us

-- the tokens of a text lie in it, in order, and are spelled there
abbrev pub SpansHold : Type 0
SpansHold = (bs : List ℕ) (ts : List Token) → AreTokens bs ts → HaveSpans bs ts

-- what is written as sound pieces and blanks has the tokens of the pieces
abbrev pub WrittenScans : Type 0
WrittenScans = (ws : List Written) (tail : List ℕ) → AllSound ws → AllBlank tail
    → AreTokens (written ws tail) (placed 0 ws)
