-- A text as pieces that are written one after the other.
use Rattle.std.specs.Prelude.{ℕ, ◌+◌, List, [], ◌∷◌, ◌++◌, IsTrue, length, codes}
use Rattle.std.specs.Fmt.{decimal}
use Rattle.std.specs.Str.{chars, IsUtf8}
use Rattle.std.specs.List.{AllByRecursion}
use Rattle.spec_text.specs.Gaps.{is_blank}
use Rattle.spec_text.specs.Lexemes.{IsSpelling}
use Rattle.spec_text.specs.declared.tokens.TokenKind.{TokenKind}
use Rattle.spec_text.specs.declared.tokens.TokenKind.TheVariants.{Word, Number, LeftPar, RightPar, Comma, Colon}
use Rattle.spec_text.specs.declared.tokens.TokenKind.TheVariants.{Equals, Bar, Arrow}
use Rattle.spec_text.specs.declared.tokens.Token.{Token}

-- a token's bytes, and the bytes before them
pub record Written : Type 0 where
  pub gap : List ℕ
  pub text : List ℕ
  pub kind : TokenKind

-- the text of a sign
abbrev pub sign_text : TokenKind → List ℕ
sign_text LeftPar = codes "("
sign_text RightPar = codes ")"
sign_text Comma = codes ","
sign_text Colon = codes ":"
sign_text Equals = codes "="
sign_text Bar = codes "|"
sign_text Arrow = codes "=>"
sign_text _ = []

-- a word, a number and a sign after a gap
abbrev pub word_piece : List ℕ → List ℕ → Written
word_piece gap name = record { gap = gap; text = name; kind = Word }

abbrev pub number_piece : List ℕ → ℕ → Written
number_piece gap n = record { gap = gap; text = decimal n; kind = Number n }

abbrev pub sign_piece : List ℕ → TokenKind → Written
sign_piece gap kind = record { gap = gap; text = sign_text kind; kind = kind }

-- the bytes of the pieces, and then a tail
abbrev pub written : List Written → List ℕ → List ℕ
written [] tail = tail
written (w ∷ ws) tail = w.gap ++ (w.text ++ written ws tail)

-- the tokens of the pieces, which are written from this place on
abbrev pub placed : ℕ → List Written → List Token
placed n [] = []
placed n (w ∷ ws) = record { kind = w.kind; at = n + length w.gap; len = length w.text }
    ∷ placed (n + length w.gap + length w.text) ws

-- blanks, and no comment
abbrev pub AllBlank : List ℕ → Type 0
AllBlank bs = AllByRecursion (λ b. IsTrue (is_blank b)) bs

-- a sign, which may be next to each token
abbrev pub IsSignKind : TokenKind → Type 0
IsSignKind Word = ⊥
IsSignKind (Number n) = ⊥
IsSignKind _ = Unit {0}

-- the second token may be next to the first, with nothing between them
abbrev pub MayTouch : TokenKind → TokenKind → Type 0
MayTouch Word next = IsSignKind next
MayTouch (Number n) next = IsSignKind next
MayTouch _ next = Unit {0}

-- there is a gap, or the fact holds
abbrev pub PartedOr : List ℕ → Type 0 → Type 0
PartedOr [] P = P
PartedOr (b ∷ bs) P = Unit {0}

-- after a token of this kind come no pieces, or a gap, or a token that may be next to it
abbrev pub Apart : TokenKind → List Written → Type 0
Apart kind [] = Unit {0}
Apart kind (w ∷ ws) = PartedOr w.gap (MayTouch kind w.kind)

-- blanks and the spelling of a token
abbrev pub Sound : Written → Type 0
Sound w = AllBlank w.gap × IsUtf8 w.text × IsSpelling w.kind (chars w.text)

-- each piece is sound, and apart from the next
abbrev pub AllSound : List Written → Type 0
AllSound [] = Unit {0}
AllSound (w ∷ ws) = Sound w × Apart w.kind ws × AllSound ws
