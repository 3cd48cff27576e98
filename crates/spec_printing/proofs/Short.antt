-- How long the printed form is: a gap has one byte at most, and a token's spelling is no longer than what
-- occurs in the text.
use Rattle.std.proofs.Common.{◌≡◌, ℕ, ◌+◌, ◌*◌, ◌<◌, ◌≤◌, ◌^◌, List, [], ◌∷◌, ◌++◌, Bool, true, false, Option, Some}
use Rattle.std.proofs.Common.{None, length, drop, refl, ap, arith}
use Rattle.std.proofs.Common.{length-append}
use Rattle.std.specs.Prelude.{codes}
use Rattle.std.specs.List.{AllByRecursion}
use Rattle.std.specs.Str.Parse.{digits_value}
use Rattle.std.specs.Str.{chars, IsUtf8}
use Rattle.std.proofs.lemmas.Fmt.{length-decimal-le}
use Rattle.std.proofs.lemmas.Int.Digits.{digits_value-lt}
use Rattle.std.proofs.lemmas.List.{length-take}
use Rattle.std.proofs.lemmas.Str.{len_utf8_bounds}
use Rattle.spec_text.specs.Names.{size}
use Rattle.spec_text.specs.Lexemes.{IsSpelling}
use Rattle.spec_text.specs.Spans.{InOrder, SpelledIn}
use Rattle.spec_text.specs.declared.tokens.Token.{Token}
use Rattle.spec_text.specs.declared.tokens.TokenKind.{TokenKind}
use Rattle.spec_text.specs.declared.tokens.TokenKind.TheVariants as kinds
use Rattle.spec_text.proofs.TokenLemmas.{size_is}
use Rattle.spec_grammar.specs.declared.keys.Key.{Key}
use Rattle.spec_grammar.specs.declared.keys.Key.TheVariants.{Spike, Sort, Fun, Rule, Goal, If, Unless, Equal, Status}
use Rattle.spec_grammar.specs.declared.keys.Key.TheVariants.{Order, LeftPar, RightPar, Comma, Colon, Equals, Bar}
use Rattle.spec_grammar.specs.declared.keys.Key.TheVariants.{Arrow, Stray}
use Rattle.spec_grammar.specs.Items.{Item, Word, Sign, Number, reserved, key_or_name, item_as, items_of, text_of}
use Rattle.spec_grammar.specs.Grammar.{Marked}
use Rattle.spec_grammar.specs.Derives.{clean}
use Rattle.spec_printing.proofs.Spellings.{item_text, reserved_spelled}
use Rattle.spec_printing.proofs.Plain.{spaced_size}
use Rattle.spec_printing.proofs.Pieces.{key_gap, gap_of, opens, number_small}
use Rattle.spec_printing.proofs.Shown.{shown}

-- a gap has one byte at most
key_gap_le : (key : Key) → length (key_gap key) ≤ 1
key_gap_le LeftPar = omega arith
key_gap_le RightPar = omega arith
key_gap_le Comma = omega arith
key_gap_le Sort = omega arith
key_gap_le Fun = omega arith
key_gap_le Rule = omega arith
key_gap_le Goal = omega arith
key_gap_le Equal = omega arith
key_gap_le Status = omega arith
key_gap_le Order = omega arith
key_gap_le Spike = omega arith
key_gap_le If = omega arith
key_gap_le Unless = omega arith
key_gap_le Colon = omega arith
key_gap_le Equals = omega arith
key_gap_le Bar = omega arith
key_gap_le Arrow = omega arith
key_gap_le Stray = omega arith

gap_le : (inner : Bool) (x : Item) → length (gap_of inner x) ≤ 1
gap_le true (Word name at) = omega arith
gap_le false (Word name at) = omega arith
gap_le true (Sign key) = omega arith
gap_le false (Sign key) = key_gap_le key
gap_le true (Number n) = omega arith
gap_le false (Number n) = omega arith

-- what is written of the tokens, with the newline at the end
pub shown_short : (inner : Bool) (w : List Marked) → length (shown inner w) ≤ spaced_size w + 1
shown_short inner [] = omega arith
shown_short inner (x ∷ w) =
    let gap : List ℕ = gap_of inner x.0 in
    let text : List ℕ = item_text x.0 in
    let rest : List ℕ = shown (opens x.0) w in
    let later = shown_short (opens x.0) w in
    omega (arith, gap_le inner x.0, later, length-append gap (text ++ rest), length-append text rest)

-- characters take a byte at least
size_ge : (cs : List ℕ) → length cs ≤ size cs
size_ge [] = omega arith
size_ge (c ∷ cs) = omega (arith, (len_utf8_bounds c).0, size_ge cs)

chars_short : (bs : List ℕ) → IsUtf8 bs → length (chars bs) ≤ length bs
chars_short bs u = omega (arith, size_is bs u, size_ge (chars bs))

-- a token is spelled in no more bytes than it has
sign_short : (bs cs : List ℕ) → IsUtf8 bs → chars bs ≡ cs → length cs ≤ length bs
sign_short bs cs u e = omega (arith, chars_short bs u, ap length e)

word_short :
    (key : Option Key) (name : List ℕ) (at : ℕ) → reserved name ≡ key →
    length (item_text (key_or_name key name at)) ≤ length name
word_short None name at e = omega arith
word_short (Some key) name at e = omega (arith, ap length (reserved_spelled name key e))

item_short :
    (kind : TokenKind) (bs : List ℕ) (at : ℕ) → IsUtf8 bs → IsSpelling kind (chars bs) →
    length (item_text (item_as kind bs at)) ≤ length bs
item_short kinds.Word bs at u s = word_short (reserved bs) bs at refl
item_short (kinds.Number n) bs at u s =
    let cs = chars bs in
    let below : digits_value 10 cs < 10 ^ length cs = digits_value-lt 10 cs s.0.1 in
    let some : 0 < length cs = omega (arith, s.0) in
    let small : n < 10 ^ length cs = omega (arith, s.2, below) in
    let narrow = length-decimal-le (length cs) n some small (omega (arith, number_small n cs s)) in
    omega (arith, narrow, chars_short bs u)
item_short kinds.LeftPar bs at u s = sign_short bs (codes "(") u s
item_short kinds.RightPar bs at u s = sign_short bs (codes ")") u s
item_short kinds.Comma bs at u s = sign_short bs (codes ",") u s
item_short kinds.Colon bs at u s = sign_short bs (codes ":") u s
item_short kinds.Equals bs at u s = sign_short bs (codes "=") u s
item_short kinds.Bar bs at u s = sign_short bs (codes "|") u s
item_short kinds.Arrow bs at u s = sign_short bs (codes "=>") u s

-- each token has a byte at least, so that the tokens and as many bytes again take twice the text at most
pub tokens_short :
    (bytes : List ℕ) (from end : ℕ) (tokens : List Token) → InOrder from end tokens →
    AllByRecursion (SpelledIn bytes) tokens →
    spaced_size (clean (items_of bytes tokens)) + 2 * from ≤ 2 * end
tokens_short bytes from end [] o s = omega (arith, o)
tokens_short bytes from end (token ∷ tokens) o s =
    let rest = tokens_short bytes (token.at + token.len) end tokens o.2 s.1 in
    let text : List ℕ = text_of bytes token in
    let here = item_short token.kind text token.at s.0.0 s.0.1 in
    let within = length-take token.len (drop token.at bytes) in
    omega (arith, rest, here, within, o.0, o.1)
