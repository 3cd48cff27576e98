-- A scanner of characters as a function.
use Rattle.std.specs.Prelude.{ℕ, ◌+◌, ◌*◌, List, [], ◌∷◌, ◌==◌, if◌then◌else◌, Bool, true, false, nat_le, nat_lt}
use Rattle.std.specs.Prelude.{Option, Some, None}
use Rattle.std.specs.Char.{len_utf8, digit_value}
use Rattle.unicode_ident.specs.Ident.{is_xid_continue}
use Rattle.spec_text.specs.Names.{starts}
use Rattle.spec_text.specs.Gaps.{is_blank}
use Rattle.spec_text.specs.declared.tokens.TokenKind.{TokenKind}
use Rattle.spec_text.specs.declared.tokens.TokenKind.TheVariants.{Word, Number, LeftPar, RightPar, Comma, Colon}
use Rattle.spec_text.specs.declared.tokens.TokenKind.TheVariants.{Equals, Bar, Arrow}

-- the bytes of the characters that go on with a name
abbrev pub run_of : List ℕ → ℕ
run_of [] = 0
run_of (c ∷ cs) = if is_xid_continue c then len_utf8 c + run_of cs else 0

-- the bytes of the longest name at the front
abbrev pub name_of : List ℕ → ℕ
name_of [] = 0
name_of (c ∷ cs) = if starts c then len_utf8 c + run_of cs else 0

-- what follows the blanks and comments; inside a comment if the first is true
abbrev pub skip_gaps : Bool → List ℕ → List ℕ
skip_gaps inside [] = []
skip_gaps true (c ∷ cs) = if c == 10 then skip_gaps false cs else skip_gaps true cs
skip_gaps false (c ∷ cs) =
    if is_blank c then skip_gaps false cs
    else if c == 35 then skip_gaps true cs
    else c ∷ cs

-- what follows the characters that go on with a name
abbrev pub skip_name : List ℕ → List ℕ
skip_name [] = []
skip_name (c ∷ cs) = if is_xid_continue c then skip_name cs else c ∷ cs

abbrev pub is_digit : ℕ → Bool
is_digit c = nat_lt (digit_value c) 10

-- the number at the front with what follows it, after k digits of the value v; at most six digits
abbrev pub digits : ℕ → ℕ → List ℕ → Option (ℕ × List ℕ)
digits k v [] = Some (v, [])
digits k v (c ∷ cs) = if is_digit c
    then (if nat_le 6 k then None else digits (k + 1) (v * 10 + digit_value c) cs)
    else Some (v, c ∷ cs)

abbrev pub numbered : Option (ℕ × List ℕ) → Option (TokenKind × List ℕ)
numbered None = None
numbered (Some p) = Some (Number p.0, p.1)

-- what = begins
abbrev pub equals : List ℕ → TokenKind × List ℕ
equals [] = (Equals, [])
equals (c ∷ cs) = if c == 62 then (Arrow, cs) else (Equals, c ∷ cs)

-- the sign of one character, but not =, which begins two tokens
abbrev pub sign_of : ℕ → Option TokenKind
sign_of c =
    if c == 40 then Some LeftPar
    else if c == 41 then Some RightPar
    else if c == 44 then Some Comma
    else if c == 58 then Some Colon
    else if c == 124 then Some Bar
    else None

abbrev pub signed : Option TokenKind → List ℕ → Option (TokenKind × List ℕ)
signed None cs = None
signed (Some kind) cs = Some (kind, cs)

-- the longest token at the front, with what follows it
abbrev pub first_token : List ℕ → Option (TokenKind × List ℕ)
first_token [] = None
first_token (c ∷ cs) =
    if starts c then Some (Word, skip_name cs)
    else if is_digit c then numbered (digits 0 0 (c ∷ cs))
    else if c == 61 then Some (equals cs)
    else signed (sign_of c) cs
