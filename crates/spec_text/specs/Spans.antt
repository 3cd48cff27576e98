-- Where the tokens of a text are in it.
use Rattle.std.specs.Prelude.{ℕ, ◌+◌, ◌≤◌, List, [], ◌∷◌, length, take, drop}
use Rattle.std.specs.Str.{chars, IsUtf8}
use Rattle.std.specs.List.{AllByRecursion}
use Rattle.spec_text.specs.Lexemes.{IsSpelling}
use Rattle.spec_text.specs.declared.tokens.Token.{Token}

-- from the first place on, up to the second, the spans are in order, apart and not empty
abbrev pub InOrder : ℕ → ℕ → List Token → Type 0
InOrder from end [] = from ≤ end
InOrder from end (t ∷ ts) = (from ≤ t.at) × (1 ≤ t.len) × InOrder (t.at + t.len) end ts

-- the bytes of a token
abbrev pub slice_of : List ℕ → Token → List ℕ
slice_of bs t = take t.len (drop t.at bs)

-- the token's bytes are text that spells it
abbrev pub SpelledIn : List ℕ → Token → Type 0
SpelledIn bs t = IsUtf8 (slice_of bs t) × IsSpelling t.kind (chars (slice_of bs t))

-- The spans lie in the bytes, each token is spelled there, and there are no more tokens than bytes.
pub record HaveSpans (bs : List ℕ) (ts : List Token) : Type 0 where
  pub in_order : InOrder 0 (length bs) ts
  pub spelled : AllByRecursion (SpelledIn bs) ts
  pub few : length ts ≤ length bs
