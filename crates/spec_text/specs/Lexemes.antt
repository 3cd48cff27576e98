-- How one token is written, as a list of characters.
use Rattle.std.specs.Prelude.{◌≡◌, ◌≢◌, ◌⊎◌, ◌≤◌, ◌<◌, ℕ, List, [], ◌∷◌, ◌++◌, IsTrue, length, codes}
use Rattle.std.specs.Str.Parse.{AllDigits, IsNumeral, digits_value}
use Rattle.spec_text.specs.Names.{IsName}
use Rattle.spec_text.specs.Gaps.{is_blank}
use Rattle.spec_text.specs.declared.tokens.TokenKind.{TokenKind}
use Rattle.spec_text.specs.declared.tokens.TokenKind.TheVariants.{Word, Number, LeftPar, RightPar, Comma, Colon}
use Rattle.spec_text.specs.declared.tokens.TokenKind.TheVariants.{Equals, Bar, Arrow}

-- the characters spell a token of this kind
abbrev pub IsSpelling : TokenKind → List ℕ → Type 0
IsSpelling Word cs = IsName cs
IsSpelling (Number n) cs = IsNumeral 10 cs × (length cs ≤ 6) × (n ≡ digits_value 10 cs)
IsSpelling LeftPar cs = cs ≡ codes "("
IsSpelling RightPar cs = cs ≡ codes ")"
IsSpelling Comma cs = cs ≡ codes ","
IsSpelling Colon cs = cs ≡ codes ":"
IsSpelling Equals cs = cs ≡ codes "="
IsSpelling Bar cs = cs ≡ codes "|"
IsSpelling Arrow cs = cs ≡ codes "=>"

-- the characters are a run of digits, however long, or spell a token
abbrev pub IsLexeme : List ℕ → Type 0
IsLexeme cs = IsNumeral 10 cs ⊎ ((kind : TokenKind) × IsSpelling kind cs)

-- with more of what follows, the text is no lexeme
abbrev pub IsLongest : List ℕ → List ℕ → Type 0
IsLongest text rest = (more others : List ℕ) → rest ≡ more ++ others
    → IsLexeme (text ++ more) → more ≡ []

-- the character begins no token, and no gap
abbrev pub BeginsNothing : ℕ → Type 0
BeginsNothing c = (IsTrue (is_blank c) → ⊥) × (c ≢ 35) × ((cs : List ℕ) → IsLexeme (c ∷ cs) → ⊥)

-- more than six digits begin the characters
abbrev pub IsLongNumber : List ℕ → Type 0
IsLongNumber cs = (digits : List ℕ) × (rest : List ℕ)
    × (cs ≡ digits ++ rest) × AllDigits 10 digits × (6 < length digits)
