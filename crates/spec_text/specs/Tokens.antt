-- The tokens of a text, and the place of its first fault.
use Rattle.std.specs.Prelude.{◌≡◌, ◌⊎◌, ℕ, ◌+◌, List, [], ◌∷◌, ◌++◌, Result, Ok, Err, codes, decimal}
use Rattle.std.specs.Str.{chars, IsUtf8, IsValidUpTo}
use Rattle.spec_text.specs.Names.{size}
use Rattle.spec_text.specs.Gaps.{IsGap, IsLastGap}
use Rattle.spec_text.specs.Lexemes.{IsSpelling, IsLongest, BeginsNothing, IsLongNumber}
use Rattle.spec_text.specs.declared.tokens.Token.{Token}
use Rattle.spec_text.specs.declared.tokens.ScanError.{ScanError}
use Rattle.spec_text.specs.declared.tokens.ScanError.TheVariants as errors

-- The characters are a gap, the longest token there, and what follows it. A place is counted from
-- the end of the text: with the bytes from there on it makes the total.
pub record IsFirst (total : ℕ) (cs : List ℕ) (t : Token) (after : List ℕ) : Type 0 where
  pub gap : List ℕ
  pub text : List ℕ
  pub whole : cs ≡ gap ++ (text ++ after)
  pub apart : IsGap gap
  pub spelled : IsSpelling t.kind text
  pub longest : IsLongest text after
  pub at : t.at + size (text ++ after) ≡ total
  pub len : t.len ≡ size text

-- these are the first tokens of the characters, and what follows them
abbrev pub Scans : ℕ → List ℕ → List Token → List ℕ → Type 0
Scans total cs [] rest = cs ≡ rest
Scans total cs (t ∷ ts) rest =
    (after : List ℕ) × IsFirst total cs t after × Scans total after ts rest

-- the bytes are text, and these are all its tokens
abbrev pub AreTokens : List ℕ → List Token → Type 0
AreTokens bs ts =
    IsUtf8 bs × ((rest : List ℕ) × Scans (size (chars bs)) (chars bs) ts rest × IsLastGap rest)

-- After some tokens of the characters and a gap, at this place, a character begins nothing or a
-- number is too long.
pub record HasFault (cs : List ℕ) (at : ℕ) : Type 0 where
  pub before : List Token
  pub gap : List ℕ
  pub c : ℕ
  pub others : List ℕ
  pub scans : Scans (size cs) cs before (gap ++ (c ∷ others))
  pub apart : IsGap gap
  pub faulty : BeginsNothing c ⊎ IsLongNumber (c ∷ others)
  pub place : at + size (c ∷ others) ≡ size cs

-- the bytes are text up to this place and no further, or they are text and have their first fault
-- there
abbrev pub IsTextFault : List ℕ → ℕ → Type 0
IsTextFault bs at = IsValidUpTo bs at ⊎ (IsUtf8 bs × HasFault (chars bs) at)

-- the result says these tokens, unless memory ran out
abbrev pub IsTokens : {X : Type 0} → (X → List Token) → List Token → Result X ScanError → Type 0
IsTokens view ts (Ok x) = view x ≡ ts
IsTokens view ts (Err errors.OutOfMemory) = Unit {0}
IsTokens view ts (Err (errors.Text at)) = ⊥

-- the result says a fault at this place, unless memory ran out
abbrev pub IsFault : {X : Type 0} → ℕ → Result X ScanError → Type 0
IsFault at (Ok x) = ⊥
IsFault at (Err errors.OutOfMemory) = Unit {0}
IsFault at (Err (errors.Text place)) = place ≡ at

-- if the error is a fault of the text, its place is right
abbrev pub TellsFault : List ℕ → ScanError → Type 0
TellsFault bs errors.OutOfMemory = Unit {0}
TellsFault bs (errors.Text at) = IsTextFault bs at

-- what is printed of an error
abbrev pub error_text : ScanError → List ℕ
error_text (errors.Text at) = codes "text at " ++ decimal at
error_text errors.OutOfMemory = codes "out of memory"
