-- The pieces that the printed form writes of marked tokens: a gap depends on the token and on the one before it.
use Rattle.std.proofs.Common.{◌≡◌, ℕ, ◌+◌, ◌<◌, ◌^◌, List, [], ◌∷◌, ◌++◌, Bool, true, false, ◌&&◌, Option, Some, None}
use Rattle.std.proofs.Common.{length, take, drop, refl, ap, sym, subst, ◌∙◌, append_assoc, length-append, arith, lit<}
use Rattle.std.specs.Prelude.{◌==◌, ◌||◌, IsTrue, codes, nat_lt}
use Rattle.std.specs.Char.{is_ascii_alphabetic, is_ascii_alphanumeric}
use Rattle.std.specs.List.{AllByRecursion}
use Rattle.std.specs.Str.Parse.{AllDigits, digits_value}
use Rattle.std.specs.Str.{chars, IsUtf8, IsAscii}
use Rattle.std.proofs.Math.Seq.{drop-append_seam, take-append_seam}
use Rattle.std.proofs.lemmas.Bool.{ltb-true}
use Rattle.std.proofs.lemmas.Str.Parse.{IsNumeralModel, digits_value_short}
use Rattle.std.proofs.lemmas.Str.{chars-IsAscii, IsUtf8-from_ascii}
use Rattle.std.proofs.lemmas.Str.Ascii.{IsAscii-nil, IsAscii-cons}
use Rattle.unicode_ident.specs.Ident.{is_xid_continue}
use Rattle.unicode_ident.proofs.IdentLemmas.{is_xid_start-ascii, is_xid_continue-ascii}
use Rattle.spec_text.specs.Names.{IsName}
use Rattle.spec_text.specs.Lexemes.{IsSpelling}
use Rattle.spec_text.specs.Spans.{SpelledIn}
use Rattle.spec_text.specs.Written.{Written, written, placed, AllBlank, IsSignKind, MayTouch, Apart, Sound, AllSound}
use Rattle.spec_text.specs.declared.tokens.Token.{Token}
use Rattle.spec_text.specs.declared.tokens.TokenKind.{TokenKind}
use Rattle.spec_text.specs.declared.tokens.TokenKind.TheVariants as kinds
use Rattle.spec_text.proofs.WrittenLemmas.{word_sound, sign_sound, number_sound}
use Rattle.spec_grammar.specs.declared.keys.Key.{Key}
use Rattle.spec_grammar.specs.declared.keys.Key.TheVariants.{Spike, Sort, Fun, Rule, Goal, If, Unless, Equal, Status}
use Rattle.spec_grammar.specs.declared.keys.Key.TheVariants.{Order, LeftPar, RightPar, Comma, Colon, Equals, Bar}
use Rattle.spec_grammar.specs.declared.keys.Key.TheVariants.{Arrow, Stray}
use Rattle.spec_grammar.specs.declared.limits.LimitKind.{LimitKind}
use Rattle.spec_grammar.specs.Items.{Item, Word, Sign, Number, reserved, key_or_name, item_as, items_of, text_of}
use Rattle.spec_grammar.specs.Grammar.{Marked}
use Rattle.spec_grammar.specs.Derives.{clean}
use Rattle.spec_printing.proofs.Spellings.{key_kind, key_text, item_kind, item_text}
use Rattle.spec_printing.proofs.Plain.{IsGood, AllGood}
use Rattle.spec_printing.proofs.Moved.{Step, Moved}
use Rattle.spec_text.proofs.SpanLemmas.{and_parts}

-- the gap before a key that doesn't come after `(`
abbrev pub key_gap : Key → List ℕ
key_gap LeftPar = []
key_gap RightPar = []
key_gap Comma = []
key_gap Sort = codes "\n"
key_gap Fun = codes "\n"
key_gap Rule = codes "\n"
key_gap Goal = codes "\n"
key_gap Equal = codes "\n"
key_gap Status = codes "\n"
key_gap Order = codes "\n"
key_gap Spike = codes " "
key_gap If = codes " "
key_gap Unless = codes " "
key_gap Colon = codes " "
key_gap Equals = codes " "
key_gap Bar = codes " "
key_gap Arrow = codes " "
key_gap Stray = codes " "

-- a blank, but none after `(`, which the first says
abbrev pub blank : Bool → List ℕ
blank true = []
blank false = codes " "

abbrev pub sign_gap : Bool → Key → List ℕ
sign_gap true key = []
sign_gap false key = key_gap key

abbrev pub gap_of : Bool → Item → List ℕ
gap_of inner (Word name at) = blank inner
gap_of inner (Sign key) = sign_gap inner key
gap_of inner (Number n) = blank inner

-- the token is `(`
abbrev pub key_opens : Key → Bool
key_opens LeftPar = true
key_opens _ = false

abbrev pub opens : Item → Bool
opens (Word name at) = false
opens (Sign key) = key_opens key
opens (Number n) = false

abbrev pub pieces : Bool → List Marked → List Written
pieces inner [] = []
pieces inner (x ∷ w) = record { gap = gap_of inner x.0; text = item_text x.0; kind = item_kind x.0 } ∷ pieces
    (opens x.0) w

abbrev is_letter : ℕ → Bool
is_letter c = nat_lt c 128 && (is_ascii_alphanumeric c || (c == 95))

abbrev are_letters : List ℕ → Bool
are_letters [] = true
are_letters (c ∷ cs) = is_letter c && are_letters cs

letters_continue : (cs : List ℕ) → are_letters cs ≡ true → AllByRecursion (λ d. IsTrue (is_xid_continue d)) cs
letters_continue [] h = tt
letters_continue (c ∷ cs) h =
    let p = and_parts (is_letter c) (are_letters cs) h in
    let q = and_parts (nat_lt c 128) (is_ascii_alphanumeric c || (c == 95)) p.0 in
    (is_xid_continue-ascii c (ltb-true c 128 q.0) ∙ q.1, letters_continue cs p.1)

letters_ascii : (cs : List ℕ) → are_letters cs ≡ true → IsAscii cs
letters_ascii [] h = IsAscii-nil
letters_ascii (c ∷ cs) h =
    let p = and_parts (is_letter c) (are_letters cs) h in
    let q = and_parts (nat_lt c 128) (is_ascii_alphanumeric c || (c == 95)) p.0 in
    IsAscii-cons c cs (ltb-true c 128 q.0) (letters_ascii cs p.1)

letters_name : (c : ℕ) (cs : List ℕ) → c < 128 → (is_ascii_alphabetic c || (c == 95)) ≡ true →
    are_letters (c ∷ cs) ≡ true → IsName (c ∷ cs)
letters_name c cs lt first h = (
  rw (is_xid_start-ascii c lt) first,
  letters_continue cs (and_parts (is_letter c) (are_letters cs) h).1,
)

letters_sound : (c : ℕ) (cs gap : List ℕ) → AllBlank gap → c < 128 →
    (is_ascii_alphabetic c || (c == 95)) ≡ true → are_letters (c ∷ cs) ≡ true →
    Sound (record { gap = gap; text = c ∷ cs; kind = kinds.Word })
letters_sound c cs gap b lt first h =
    let a = letters_ascii (c ∷ cs) h in
    word_sound gap (c ∷ cs) b (IsUtf8-from_ascii (c ∷ cs) a)
    (subst (λ (xs : List ℕ). IsName xs) (sym (chars-IsAscii (c ∷ cs) a)) (letters_name c cs lt first h))

key_sound : (key : Key) (gap : List ℕ) → AllBlank gap →
    Sound (record { gap = gap; text = key_text key; kind = key_kind key })
key_sound Spike gap b = letters_sound 115 (codes "pike") gap b (lit< tt) refl refl
key_sound Sort gap b = letters_sound 115 (codes "ort") gap b (lit< tt) refl refl
key_sound Fun gap b = letters_sound 102 (codes "un") gap b (lit< tt) refl refl
key_sound Rule gap b = letters_sound 114 (codes "ule") gap b (lit< tt) refl refl
key_sound Goal gap b = letters_sound 103 (codes "oal") gap b (lit< tt) refl refl
key_sound If gap b = letters_sound 105 (codes "f") gap b (lit< tt) refl refl
key_sound Unless gap b = letters_sound 117 (codes "nless") gap b (lit< tt) refl refl
key_sound Equal gap b = letters_sound 101 (codes "qual") gap b (lit< tt) refl refl
key_sound Status gap b = letters_sound 115 (codes "tatus") gap b (lit< tt) refl refl
key_sound Order gap b = letters_sound 111 (codes "rder") gap b (lit< tt) refl refl
key_sound Stray gap b = letters_sound 95 [] gap b (lit< tt) refl refl
key_sound LeftPar gap b = sign_sound gap kinds.LeftPar b tt
key_sound RightPar gap b = sign_sound gap kinds.RightPar b tt
key_sound Comma gap b = sign_sound gap kinds.Comma b tt
key_sound Colon gap b = sign_sound gap kinds.Colon b tt
key_sound Equals gap b = sign_sound gap kinds.Equals b tt
key_sound Bar gap b = sign_sound gap kinds.Bar b tt
key_sound Arrow gap b = sign_sound gap kinds.Arrow b tt

key_gap_blank : (key : Key) → AllBlank (key_gap key)
key_gap_blank LeftPar = tt
key_gap_blank RightPar = tt
key_gap_blank Comma = tt
key_gap_blank Sort = (refl, tt)
key_gap_blank Fun = (refl, tt)
key_gap_blank Rule = (refl, tt)
key_gap_blank Goal = (refl, tt)
key_gap_blank Spike = (refl, tt)
key_gap_blank If = (refl, tt)
key_gap_blank Unless = (refl, tt)
key_gap_blank Equal = (refl, tt)
key_gap_blank Status = (refl, tt)
key_gap_blank Order = (refl, tt)
key_gap_blank Colon = (refl, tt)
key_gap_blank Equals = (refl, tt)
key_gap_blank Bar = (refl, tt)
key_gap_blank Arrow = (refl, tt)
key_gap_blank Stray = (refl, tt)

gap_blank : (inner : Bool) (x : Item) → AllBlank (gap_of inner x)
gap_blank true (Word name at) = tt
gap_blank false (Word name at) = (refl, tt)
gap_blank true (Sign key) = tt
gap_blank false (Sign key) = key_gap_blank key
gap_blank true (Number n) = tt
gap_blank false (Number n) = (refl, tt)

-- each piece is sound
piece_sound : (inner : Bool) (x : Item) → IsGood x →
    Sound (record { gap = gap_of inner x; text = item_text x; kind = item_kind x })
piece_sound inner (Word name at) g = word_sound (gap_of inner (Word name at)) name
    (gap_blank inner (Word name at)) g.0 g.1
piece_sound inner (Sign key) g = key_sound key (gap_of inner (Sign key)) (gap_blank inner (Sign key))
piece_sound inner (Number n) g = number_sound (gap_of inner (Number n)) n (gap_blank inner (Number n)) g

touches_sign : (kind next : TokenKind) → IsSignKind next → MayTouch kind next
touches_sign kinds.Word next h = h
touches_sign (kinds.Number n) next h = h
touches_sign kinds.LeftPar next h = tt
touches_sign kinds.RightPar next h = tt
touches_sign kinds.Comma next h = tt
touches_sign kinds.Colon next h = tt
touches_sign kinds.Equals next h = tt
touches_sign kinds.Bar next h = tt
touches_sign kinds.Arrow next h = tt

apart_from : (kind : TokenKind) (w : List Marked) → Apart kind (pieces false w)
apart_from kind [] = tt
apart_from kind (x ∷ w) = by x.0
  where
    by : (y : Item) → Apart kind
        (record { gap = gap_of false y; text = item_text y; kind = item_kind y } ∷ pieces (opens x.0) w)
    by (Word name at) = tt
    by (Sign LeftPar) = touches_sign kind kinds.LeftPar tt
    by (Sign RightPar) = touches_sign kind kinds.RightPar tt
    by (Sign Comma) = touches_sign kind kinds.Comma tt
    by (Sign Sort) = tt
    by (Sign Fun) = tt
    by (Sign Rule) = tt
    by (Sign Goal) = tt
    by (Sign Spike) = tt
    by (Sign If) = tt
    by (Sign Unless) = tt
    by (Sign Equal) = tt
    by (Sign Status) = tt
    by (Sign Order) = tt
    by (Sign Colon) = tt
    by (Sign Equals) = tt
    by (Sign Bar) = tt
    by (Sign Arrow) = tt
    by (Sign Stray) = tt
    by (Number n) = tt

apart_open : (w : List Marked) → Apart kinds.LeftPar (pieces true w)
apart_open [] = tt
apart_open (x ∷ w) = by x.0
  where
    by : (y : Item) → Apart kinds.LeftPar
        (record { gap = gap_of true y; text = item_text y; kind = item_kind y } ∷ pieces (opens x.0) w)
    by (Word name at) = tt
    by (Sign key) = tt
    by (Number n) = tt

apart_pieces : (x : Item) (w : List Marked) → Apart (item_kind x) (pieces (opens x) w)
apart_pieces (Word name at) w = apart_from kinds.Word w
apart_pieces (Sign LeftPar) w = apart_open w
apart_pieces (Sign RightPar) w = apart_from kinds.RightPar w
apart_pieces (Sign Comma) w = apart_from kinds.Comma w
apart_pieces (Sign Sort) w = apart_from kinds.Word w
apart_pieces (Sign Fun) w = apart_from kinds.Word w
apart_pieces (Sign Rule) w = apart_from kinds.Word w
apart_pieces (Sign Goal) w = apart_from kinds.Word w
apart_pieces (Sign Spike) w = apart_from kinds.Word w
apart_pieces (Sign If) w = apart_from kinds.Word w
apart_pieces (Sign Unless) w = apart_from kinds.Word w
apart_pieces (Sign Equal) w = apart_from kinds.Word w
apart_pieces (Sign Status) w = apart_from kinds.Word w
apart_pieces (Sign Order) w = apart_from kinds.Word w
apart_pieces (Sign Colon) w = apart_from kinds.Colon w
apart_pieces (Sign Equals) w = apart_from kinds.Equals w
apart_pieces (Sign Bar) w = apart_from kinds.Bar w
apart_pieces (Sign Arrow) w = apart_from kinds.Arrow w
apart_pieces (Sign Stray) w = apart_from kinds.Word w
apart_pieces (Number n) w = apart_from (kinds.Number n) w

pub pieces_sound : (inner : Bool) (w : List Marked) → AllGood w → AllSound (pieces inner w)
pieces_sound inner [] h = tt
pieces_sound inner (x ∷ w) h = (piece_sound inner x.0 h.0, apart_pieces x.0 w, pieces_sound (opens x.0) w h.2)

-- an item is read from what is written of it
key_read : (key : Key) (at : ℕ) → item_as (key_kind key) (key_text key) at ≡ Sign key
key_read Spike at = refl
key_read Sort at = refl
key_read Fun at = refl
key_read Rule at = refl
key_read Goal at = refl
key_read If at = refl
key_read Unless at = refl
key_read Equal at = refl
key_read Status at = refl
key_read Order at = refl
key_read LeftPar at = refl
key_read RightPar at = refl
key_read Comma at = refl
key_read Colon at = refl
key_read Equals at = refl
key_read Bar at = refl
key_read Arrow at = refl
key_read Stray at = refl

-- a token of an item that was written, before others
next_token : (x y : Item) (mark : Option LimitKind) (u : List Marked) → x ≡ y → mark ≡ None →
    ◌≡◌ {A = List Marked} ((x, None) ∷ u) ((y, mark) ∷ u)
next_token x y mark u e m = ap (λ (z : Item). (z, None) ∷ u) e ∙ ap (λ (k : Option LimitKind). (y, k) ∷ u) (sym m)

item_step : (x : Item) (mark : Option LimitKind) (Next : List Marked → Type 0) (slice : List ℕ) (at : ℕ)
    (u : List Marked) → IsGood x → mark ≡ None → slice ≡ item_text x → Next u →
    Step x mark Next ((item_as (item_kind x) slice at, None) ∷ u)
item_step (Word name place) mark Next slice at u g m s h =
    let named : key_or_name (reserved name) name at ≡ Word name at = ap
    (λ (o : Option Key). key_or_name o name at) g.2 in
    let read : item_as kinds.Word slice at ≡ Word name at = ap (λ (bs : List ℕ). item_as kinds.Word bs at) s ∙ named in
    (at, u, next_token (item_as kinds.Word slice at) (Word name at) mark u read m, h)
item_step (Sign key) mark Next slice at u g m s h =
    let read : item_as (key_kind key) slice at ≡ Sign key = ap (λ (bs : List ℕ). item_as (key_kind key) bs at) s
    ∙ key_read key at in
    (u, next_token (item_as (key_kind key) slice at) (Sign key) mark u read m, h)
item_step (Number n) mark Next slice at u g m s h = (u, next_token (Number n) (Number n) mark u refl m, h)

-- what is written in a row, and the slice of a part of it
slice_is : (bytes before text rest : List ℕ) (at : ℕ) → bytes ≡ before ++ (text ++ rest) → at ≡ length before →
    take (length text) (drop at bytes) ≡ text
slice_is bytes before text rest at whole place =
    ap (λ (ys : List ℕ). take (length text) (drop at ys)) whole
    ∙ ap (λ (k : ℕ). take (length text) (drop k (before ++ (text ++ rest)))) place
    ∙ ap (take (length text)) (drop-append_seam before (text ++ rest)) ∙ take-append_seam text rest

-- the tokens of the pieces are the marked tokens, with names at other places
pub pieces_moved : (w : List Marked) (inner : Bool) (front tail bytes : List ℕ) (n : ℕ) → AllGood w →
    n ≡ length front → bytes ≡ front ++ written (pieces inner w) tail →
    Moved w (clean (items_of bytes (placed n (pieces inner w))))
pieces_moved [] inner front tail bytes n g e h = refl
pieces_moved (x ∷ w) inner front tail bytes n g e h =
    let gap : List ℕ = gap_of inner x.0 in
    let text : List ℕ = item_text x.0 in
    let before : List ℕ = front ++ gap in
    let rest : List ℕ = written (pieces (opens x.0) w) tail in
    let at : ℕ = n + length gap in
    let here : bytes ≡ before ++ (text ++ rest) = h ∙ sym (append_assoc front gap (text ++ rest)) in
    let place : at ≡ length before = omega (arith, e, length-append front gap) in
    let slice : take (length text) (drop at bytes) ≡ text = slice_is bytes before text rest at here place in
    let next : at + length text ≡ length (before ++ text) = omega (arith, place, length-append before text) in
    let whole : bytes ≡ (before ++ text) ++ rest = here ∙ sym (append_assoc before text rest) in
    item_step x.0 x.1 (Moved w) (take (length text) (drop at bytes))
    at (clean (items_of bytes (placed (at + length text) (pieces (opens x.0) w)))) g.0 g.1 slice
    (pieces_moved w (opens x.0) (before ++ text) tail bytes (at + length text) g.2 next whole)

-- the tokens of a text are good
decimal_numerals : IsNumeralModel (AllDigits 10) (digits_value 10)
decimal_numerals = record { to = λ ds h. h; from = λ ds h. h; same = λ ds h. refl }

named_good : (key : Option Key) (name : List ℕ) (at : ℕ) → key ≡ reserved name → IsUtf8 name →
    IsName (chars name) → IsGood (key_or_name key name at)
named_good (Some key) name at e u n = tt
named_good None name at e u n = (u, n, sym e)

-- a number has six digits at most
pub number_small : (n : ℕ) (cs : List ℕ) → IsSpelling (kinds.Number n) cs → n < 10 ^ 6
number_small n cs s =
    let short : digits_value 10 cs < 10 ^ 6 = digits_value_short decimal_numerals cs 6 s.0.1 s.1 in
    omega (arith, s.2, short)

token_good :
    (bytes : List ℕ) (token : Token) (kind : TokenKind) → IsUtf8 (text_of bytes token) →
    IsSpelling kind (chars (text_of bytes token)) → IsGood (item_as kind (text_of bytes token) token.at)
token_good bytes token kinds.Word u s =
    named_good (reserved (text_of bytes token)) (text_of bytes token) token.at refl u s
token_good bytes token (kinds.Number n) u s = number_small n (chars (text_of bytes token)) s
token_good bytes token kinds.LeftPar u s = tt
token_good bytes token kinds.RightPar u s = tt
token_good bytes token kinds.Comma u s = tt
token_good bytes token kinds.Colon u s = tt
token_good bytes token kinds.Equals u s = tt
token_good bytes token kinds.Bar u s = tt
token_good bytes token kinds.Arrow u s = tt

pub tokens_good : (bytes : List ℕ) (tokens : List Token) → AllByRecursion (SpelledIn bytes) tokens →
    AllGood (clean (items_of bytes tokens))
tokens_good bytes [] h = tt
tokens_good bytes (token ∷ tokens) h = (
  token_good bytes token token.kind h.0.0 h.0.1,
  refl,
  tokens_good bytes tokens h.1,
)
