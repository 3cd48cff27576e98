-- The tokens that the grammar speaks of: a name with its place, a key or a number.
use Rattle.std.specs.Prelude.{ℕ, List, [], ◌∷◌, Option, Some, None, codes, take, drop, if◌then◌else◌}
use Rattle.std.specs.Str.{bytes_eq}
use Rattle.spec_text.specs.declared.tokens.Token.{Token}
use Rattle.spec_text.specs.declared.tokens.TokenKind.{TokenKind}
use Rattle.spec_text.specs.declared.tokens.TokenKind.TheVariants as kinds
use Rattle.spec_grammar.specs.declared.keys.Key.{Key}
use Rattle.spec_grammar.specs.declared.keys.Key.TheVariants.{Spike, Sort, Fun, Rule, Goal, If, Unless, Equal, Status}
use Rattle.spec_grammar.specs.declared.keys.Key.TheVariants.{Order, LeftPar, RightPar, Comma, Colon, Equals, Bar}
use Rattle.spec_grammar.specs.declared.keys.Key.TheVariants.{Arrow, Stray}

pub data Item : Type 0 where
  Word : List ℕ → ℕ → Item
  Sign : Key → Item
  Number : ℕ → Item

-- the key of a reserved word; `_` is no name
abbrev pub reserved : List ℕ → Option Key
reserved word =
    if bytes_eq word (codes "spike") then Some Spike
    else if bytes_eq word (codes "sort") then Some Sort
    else if bytes_eq word (codes "fun") then Some Fun
    else if bytes_eq word (codes "rule") then Some Rule
    else if bytes_eq word (codes "goal") then Some Goal
    else if bytes_eq word (codes "if") then Some If
    else if bytes_eq word (codes "unless") then Some Unless
    else if bytes_eq word (codes "order") then Some Order
    else if bytes_eq word (codes "status") then Some Status
    else if bytes_eq word (codes "equal") then Some Equal
    else if bytes_eq word (codes "_") then Some Stray
    else None

-- the key that a token is, if it is no name and no number
abbrev pub key_of : TokenKind → List ℕ → Option Key
key_of kinds.Word text = reserved text
key_of (kinds.Number n) text = None
key_of kinds.LeftPar text = Some LeftPar
key_of kinds.RightPar text = Some RightPar
key_of kinds.Comma text = Some Comma
key_of kinds.Colon text = Some Colon
key_of kinds.Equals text = Some Equals
key_of kinds.Bar text = Some Bar
key_of kinds.Arrow text = Some Arrow

-- a token's slice of the bytes
abbrev pub text_of : List ℕ → Token → List ℕ
text_of bytes token = take token.len (drop token.at bytes)

abbrev pub key_or_name : Option Key → List ℕ → ℕ → Item
key_or_name (Some key) text at = Sign key
key_or_name None text at = Word text at

-- what a token of this kind is, with its text and its place
abbrev pub item_as : TokenKind → List ℕ → ℕ → Item
item_as (kinds.Number n) text at = Number n
item_as kind text at = key_or_name (key_of kind text) text at

abbrev pub item_of : List ℕ → Token → Item
item_of bytes token = item_as token.kind (text_of bytes token) token.at

abbrev pub items_of : List ℕ → List Token → List Item
items_of bytes [] = []
items_of bytes (token ∷ tokens) = item_of bytes token ∷ items_of bytes tokens
