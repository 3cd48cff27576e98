-- What the definitions say of small texts.
use Rattle.std.specs.Prelude.{ℕ, List, [], ◌∷◌, ◌++◌, codes}
use Rattle.spec_text.specs.Tokens.{AreTokens, IsTextFault}
use Rattle.spec_text.specs.declared.tokens.TokenKind.{TokenKind}
use Rattle.spec_text.specs.declared.tokens.TokenKind.TheVariants.{Word, Number, LeftPar, RightPar, Colon, Equals, Arrow}
use Rattle.spec_text.specs.declared.tokens.Token.{Token}

abbrev pub token : TokenKind → ℕ → ℕ → Token
token kind at len = record { kind = kind; at = at; len = len }

pub record WorkedExamples : Type 0 where
  -- f(x) => 12 has six tokens, and => is one of them
  pub call : AreTokens (codes "f(x) => 12")
      (token Word 0 1 ∷ token LeftPar 1 1 ∷ token Word 2 1 ∷ token RightPar 3 1
      ∷ token Arrow 5 2 ∷ token (Number 12) 8 2 ∷ [])
  -- so the = at its front is no token
  pub no_equals : (ts : List Token) → AreTokens (codes "=>") (token Equals 0 1 ∷ ts) → ⊥
  -- a comment goes up to the newline
  pub commented : AreTokens (codes "a#(" ++ (10 ∷ codes ":"))
      (token Word 0 1 ∷ token Colon 4 1 ∷ [])
  -- a character that begins no token
  pub strange : IsTextFault (codes "a $") 2
  -- a number of seven digits, at the first of them
  pub long_number : IsTextFault (codes "a 1234567") 2
  -- a byte that is no text goes before the fault on its left
  pub bad_byte : IsTextFault (36 ∷ 255 ∷ []) 1
