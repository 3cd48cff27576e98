-- What is written as sound pieces has the tokens of the pieces.
use Rattle.std.proofs.Common.{◌≡◌, inl, ℕ, ◌+◌, ◌^◌, ◌<◌, List, [], ◌∷◌, ◌++◌, Bool, true, false, length, refl, ap}
use Rattle.std.proofs.Common.{sym, subst, ◌∙◌, length-append, arith, lit<}
use Rattle.std.specs.Prelude.{◌==◌, ◌||◌, IsTrue}
use Rattle.std.specs.Str.{chars, IsUtf8, IsAscii}
use Rattle.std.specs.Char.{is_ascii_alphanumeric}
use Rattle.std.specs.Fmt.{decimal}
use Rattle.std.proofs.lemmas.Bool.{eqb-true}
use Rattle.std.proofs.lemmas.Fmt.{IsAscii-decimal, decimal_is_IsNumeral, length-decimal-le}
use Rattle.std.proofs.lemmas.Str.Ascii.{IsAscii-nil, IsAscii-cons}
use Rattle.std.proofs.lemmas.Str.{chars-append, chars-nil, chars-IsAscii, IsUtf8-append, IsUtf8-from_ascii}
use Rattle.unicode_ident.specs.Ident.{is_xid_continue}
use Rattle.unicode_ident.proofs.IdentLemmas.{is_xid_continue-ascii}
use Rattle.spec_text.specs.Names.{IsName}
use Rattle.spec_text.specs.Gaps.{is_blank, IsGap, nothing, blank}
use Rattle.spec_text.specs.Lexemes.{IsSpelling, IsLongest}
use Rattle.spec_text.specs.Tokens.{IsFirst, Scans, AreTokens}
use Rattle.spec_text.specs.Written.{Written, written, placed, word_piece, number_piece, sign_piece, sign_text}
use Rattle.spec_text.specs.Written.{AllBlank, IsSignKind, MayTouch, PartedOr, Apart, Sound, AllSound}
use Rattle.spec_text.specs.Scanner.{is_digit}
use Rattle.spec_text.specs.declared.tokens.TokenKind.{TokenKind}
use Rattle.spec_text.specs.declared.tokens.TokenKind.TheVariants.{Word, Number, LeftPar, RightPar, Comma, Colon}
use Rattle.spec_text.specs.declared.tokens.TokenKind.TheVariants.{Equals, Bar, Arrow}
use Rattle.spec_text.proofs.LexemeLemmas.{true_false, no_digit_at, no_start_at, Continues, Digit, Stops, word_longest}
use Rattle.spec_text.proofs.LexemeLemmas.{numeral_longest, sign_longest, equal_longest, arrow_longest}
use Rattle.spec_text.proofs.TokenLemmas.{size_is, size-append}
use Rattle.spec_text.proofs.ScanLemmas.{no_spelling}

-- a blank is one of four characters
blank_is : (P : ℕ → Type 0) (b : ℕ) → IsTrue (is_blank b) → P 32 → P 9 → P 13 → P 10 → P b
blank_is P b h space tab return newline = by (b == 32) (b == 9) (b == 13) (b == 10) refl refl refl refl h
  where
    by : (s t r n : Bool) → (b == 32) ≡ s → (b == 9) ≡ t → (b == 13) ≡ r → (b == 10) ≡ n →
        (s || t || r || n) ≡ true → P b
    by true t r n p q u v e = subst P (sym (eqb-true b 32 p)) space
    by false true r n p q u v e = subst P (sym (eqb-true b 9 q)) tab
    by false false true n p q u v e = subst P (sym (eqb-true b 13 u)) return
    by false false false true p q u v e = subst P (sym (eqb-true b 10 v)) newline
    by false false false false p q u v e = absurd (let f : false ≡ true = e in cc)

blank_gap : (bs : List ℕ) → AllBlank bs → IsGap bs
blank_gap [] h = nothing
blank_gap (b ∷ bs) h = blank b h.0 (blank_gap bs h.1)

blank_ascii : (bs : List ℕ) → AllBlank bs → IsAscii bs
blank_ascii [] h = IsAscii-nil
blank_ascii (b ∷ bs) h = IsAscii-cons b bs (blank_is (λ k. k < 128) b h.0 (lit< tt) (lit< tt) (lit< tt)
    (lit< tt)) (blank_ascii bs h.1)

chars_blanks : (gap rest : List ℕ) → AllBlank gap → chars (gap ++ rest) ≡ gap ++ chars rest
chars_blanks gap rest h =
    let a = blank_ascii gap h in
    chars-append gap rest (IsUtf8-from_ascii gap a) ∙ ap (λ ys. ys ++ chars rest) (chars-IsAscii gap a)

-- what goes on with a token
abbrev GoesOn : TokenKind → ℕ → Type 0
GoesOn Word c = Continues c
GoesOn (Number n) c = Digit c
GoesOn Equals c = c ≡ 62
GoesOn _ c = ⊥

-- the character goes on with no token
abbrev Foreign : ℕ → Type 0
Foreign c = (Continues c → ⊥) × (Digit c → ⊥) × (c ≡ 62 → ⊥)

foreign_at : (c k : ℕ) → c ≡ k → k < 128 → (is_ascii_alphanumeric k || (k == 95)) ≡ false → is_digit k ≡ false →
    (k == 62) ≡ false → Foreign c
foreign_at c k e h n d g = (
  λ p. true_false (sym p ∙ ap is_xid_continue e ∙ is_xid_continue-ascii k h ∙ n),
  λ p. no_digit_at c k e d p,
  λ p. true_false (ap (λ j. j == 62) (sym p ∙ e) ∙ g),
)

goes_on_with_none : (kind : TokenKind) (c : ℕ) → Foreign c → GoesOn kind c → ⊥
goes_on_with_none Word c f h = f.0 h
goes_on_with_none (Number n) c f h = f.1 h
goes_on_with_none Equals c f h = f.2 h
goes_on_with_none LeftPar c f h = h
goes_on_with_none RightPar c f h = h
goes_on_with_none Comma c f h = h
goes_on_with_none Colon c f h = h
goes_on_with_none Bar c f h = h
goes_on_with_none Arrow c f h = h

blank_foreign : (b : ℕ) → IsTrue (is_blank b) → Foreign b
blank_foreign b h = blank_is Foreign b h (foreign_at 32 32 refl (lit< tt) refl refl refl)
    (foreign_at 9 9 refl (lit< tt) refl refl refl) (foreign_at 13 13 refl (lit< tt) refl refl refl)
    (foreign_at 10 10 refl (lit< tt) refl refl refl)

head_is : {c k : ℕ} {cs ks : List ℕ} → c ∷ cs ≡ k ∷ ks → c ≡ k
head_is e = cc

sign_foreign : (kind : TokenKind) (c : ℕ) (cs : List ℕ) → IsSignKind kind → IsSpelling kind (c ∷ cs) → Foreign c
sign_foreign Word c cs s h = absurd s
sign_foreign (Number n) c cs s h = absurd s
sign_foreign LeftPar c cs s h = foreign_at c 40 (head_is h) (lit< tt) refl refl refl
sign_foreign RightPar c cs s h = foreign_at c 41 (head_is h) (lit< tt) refl refl refl
sign_foreign Comma c cs s h = foreign_at c 44 (head_is h) (lit< tt) refl refl refl
sign_foreign Colon c cs s h = foreign_at c 58 (head_is h) (lit< tt) refl refl refl
sign_foreign Equals c cs s h = foreign_at c 61 (head_is h) (lit< tt) refl refl refl
sign_foreign Bar c cs s h = foreign_at c 124 (head_is h) (lit< tt) refl refl refl
sign_foreign Arrow c cs s h = foreign_at c 61 (head_is h) (lit< tt) refl refl refl

-- no token begins with >
not_greater : (kind : TokenKind) (c : ℕ) (cs : List ℕ) → IsSpelling kind (c ∷ cs) → c ≡ 62 → ⊥
not_greater Word c cs h e = true_false (sym h.0 ∙ no_start_at c 62 e (lit< tt) refl)
not_greater (Number n) c cs h e = no_digit_at c 62 e refl h.0.1.0
not_greater LeftPar c cs h e = (sign_foreign LeftPar c cs tt h).2 e
not_greater RightPar c cs h e = (sign_foreign RightPar c cs tt h).2 e
not_greater Comma c cs h e = (sign_foreign Comma c cs tt h).2 e
not_greater Colon c cs h e = (sign_foreign Colon c cs tt h).2 e
not_greater Equals c cs h e = (sign_foreign Equals c cs tt h).2 e
not_greater Bar c cs h e = (sign_foreign Bar c cs tt h).2 e
not_greater Arrow c cs h e = (sign_foreign Arrow c cs tt h).2 e

touching : (kind next : TokenKind) (c : ℕ) (cs : List ℕ) → MayTouch kind next → IsSpelling next (c ∷ cs) →
    GoesOn kind c → ⊥
touching Word next c cs m h g = (sign_foreign next c cs m h).0 g
touching (Number n) next c cs m h g = (sign_foreign next c cs m h).1 g
touching Equals next c cs m h g = not_greater next c cs h g
touching LeftPar next c cs m h g = g
touching RightPar next c cs m h g = g
touching Comma next c cs m h g = g
touching Colon next c cs m h g = g
touching Bar next c cs m h g = g
touching Arrow next c cs m h g = g

text_stops : (kind next : TokenKind) (text rest : List ℕ) → MayTouch kind next → IsSpelling next text →
    Stops (GoesOn kind) (text ++ rest)
text_stops kind next [] rest m h = absurd (no_spelling next h)
text_stops kind next (c ∷ cs) rest m h = touching kind next c cs m h

blanks_stop : (kind : TokenKind) (b : ℕ) (bs rest : List ℕ) → AllBlank (b ∷ bs) →
    Stops (GoesOn kind) (chars ((b ∷ bs) ++ rest))
blanks_stop kind b bs rest h = subst (λ (cs : List ℕ). Stops (GoesOn kind) cs)
    (sym (chars_blanks (b ∷ bs) rest h)) (goes_on_with_none kind b (blank_foreign b h.0))

piece_stops : (kind next : TokenKind) (gap text rest : List ℕ) → PartedOr gap (MayTouch kind next) →
    AllBlank gap → IsUtf8 text → IsSpelling next (chars text) → Stops (GoesOn kind) (chars (gap ++ (text ++ rest)))
piece_stops kind next [] text rest p b u h = subst (λ (cs : List ℕ). Stops (GoesOn kind) cs)
    (sym (chars-append text rest u)) (text_stops kind next (chars text) (chars rest) p h)
piece_stops kind next (b ∷ bs) text rest p h u s = blanks_stop kind b bs (text ++ rest) h

tail_stops : (kind : TokenKind) (tail : List ℕ) → AllBlank tail → Stops (GoesOn kind) (chars tail)
tail_stops kind [] h = subst (λ (cs : List ℕ). Stops (GoesOn kind) cs) (sym chars-nil) tt
tail_stops kind (b ∷ bs) h = subst (λ (cs : List ℕ). Stops (GoesOn kind) cs)
    (sym (chars-IsAscii (b ∷ bs) (blank_ascii (b ∷ bs) h))) (goes_on_with_none kind b (blank_foreign b h.0))

rest_stops : (kind : TokenKind) (ws : List Written) (tail : List ℕ) → Apart kind ws → AllSound ws →
    AllBlank tail → Stops (GoesOn kind) (chars (written ws tail))
rest_stops kind [] tail p h b = tail_stops kind tail b
rest_stops kind (w ∷ ws) tail p h b = piece_stops kind w.kind w.gap w.text (written ws tail) p h.0.0 h.0.1 h.0.2

longest_word : (text rest : List ℕ) → IsName text → Stops Continues rest → IsLongest text rest
longest_word [] rest n s = absurd n
longest_word (c ∷ name) rest n s = word_longest c name rest n.0 s

longest_at : (text rest own : List ℕ) → text ≡ own → IsLongest own rest → IsLongest text rest
longest_at text rest own e h = subst (λ (xs : List ℕ). IsLongest xs rest) (sym e) h

longest_by : (kind : TokenKind) (text rest : List ℕ) → IsSpelling kind text → Stops (GoesOn kind) rest →
    IsLongest text rest
longest_by Word text rest h s = longest_word text rest h s
longest_by (Number n) text rest h s = numeral_longest text rest h.0 s
longest_by LeftPar text rest h s = longest_at text rest (40 ∷ []) h (sign_longest LeftPar 40 rest refl)
longest_by RightPar text rest h s = longest_at text rest (41 ∷ []) h (sign_longest RightPar 41 rest refl)
longest_by Comma text rest h s = longest_at text rest (44 ∷ []) h (sign_longest Comma 44 rest refl)
longest_by Colon text rest h s = longest_at text rest (58 ∷ []) h (sign_longest Colon 58 rest refl)
longest_by Equals text rest h s = longest_at text rest (61 ∷ []) h (equal_longest rest s)
longest_by Bar text rest h s = longest_at text rest (124 ∷ []) h (sign_longest Bar 124 rest refl)
longest_by Arrow text rest h s = longest_at text rest (61 ∷ 62 ∷ []) h (arrow_longest rest)

pub IsUtf8-written : (ws : List Written) (tail : List ℕ) → AllSound ws → IsUtf8 tail → IsUtf8 (written ws tail)
IsUtf8-written [] tail h u = u
IsUtf8-written (w ∷ ws) tail h u = IsUtf8-append w.gap (w.text ++ written ws tail)
    (IsUtf8-from_ascii w.gap (blank_ascii w.gap h.0.0))
    (IsUtf8-append w.text (written ws tail) h.0.1 (IsUtf8-written ws tail h.2 u))

scans_written : (total n : ℕ) (ws : List Written) (tail : List ℕ) → AllSound ws → AllBlank tail →
    n + length (written ws tail) ≡ total → Scans total (chars (written ws tail)) (placed n ws) (chars tail)
scans_written total n [] tail h b e = refl
scans_written total n (w ∷ ws) tail h b e =
    let rest = written ws tail in
    let u = IsUtf8-written ws tail h.2 (IsUtf8-from_ascii tail (blank_ascii tail b)) in
    let text_size = size_is w.text h.0.1 in
    let rest_size = size_is rest u in
    let whole_size = size-append (chars w.text) (chars rest) in
    let gap_len = length-append w.gap (w.text ++ rest) in
    let text_len = length-append w.text rest in
    let first : IsFirst total (chars (written (w ∷ ws) tail))
    (record { kind = w.kind; at = n + length w.gap; len = length w.text }) (chars rest) =
    record {
      gap = w.gap;
      text = chars w.text;
      whole = chars_blanks w.gap (w.text ++ rest) h.0.0 ∙ ap (λ ys. w.gap ++ ys) (chars-append w.text rest h.0.1);
      apart = blank_gap w.gap h.0.0;
      spelled = h.0.2;
      longest = longest_by w.kind (chars w.text) (chars rest) h.0.2 (rest_stops w.kind ws tail h.1 h.2 b);
      at = omega (arith, e, text_size, rest_size, whole_size, gap_len, text_len);
      len = sym text_size;
    } in (
      chars rest,
      first,
      scans_written total (n + length w.gap + length w.text) ws tail h.2 b
          (omega (arith, e, gap_len, text_len)),
    )

-- the tokens of what is written
pub written_tokens : (ws : List Written) (tail : List ℕ) → AllSound ws → AllBlank tail →
    AreTokens (written ws tail) (placed 0 ws)
written_tokens ws tail h b =
    let a = blank_ascii tail b in
    let u = IsUtf8-written ws tail h (IsUtf8-from_ascii tail a) in
    let same = size_is (written ws tail) u in (
      u,
      (
        chars tail,
        scans_written _ 0 ws tail h b (omega (arith, same)),
        inl (subst IsGap (sym (chars-IsAscii tail a)) (blank_gap tail b)),
      ),
    )

-- sound pieces
pub word_sound : (gap name : List ℕ) → AllBlank gap → IsUtf8 name → IsName (chars name) → Sound (word_piece gap name)
word_sound gap name b u h = (b, u, h)

ascii_spelled : (kind : TokenKind) (text : List ℕ) → IsAscii text → IsSpelling kind text →
    IsUtf8 text × IsSpelling kind (chars text)
ascii_spelled kind text a h = (
  IsUtf8-from_ascii text a,
  subst (λ (cs : List ℕ). IsSpelling kind cs) (sym (chars-IsAscii text a)) h,
)

sign_spelled_text : (kind : TokenKind) → IsSignKind kind → IsSpelling kind (sign_text kind)
sign_spelled_text Word s = absurd s
sign_spelled_text (Number n) s = absurd s
sign_spelled_text LeftPar s = refl
sign_spelled_text RightPar s = refl
sign_spelled_text Comma s = refl
sign_spelled_text Colon s = refl
sign_spelled_text Equals s = refl
sign_spelled_text Bar s = refl
sign_spelled_text Arrow s = refl

one_ascii : (k : ℕ) → k < 128 → IsAscii (k ∷ [])
one_ascii k h = IsAscii-cons k [] h IsAscii-nil

sign_ascii : (kind : TokenKind) → IsAscii (sign_text kind)
sign_ascii Word = IsAscii-nil
sign_ascii (Number n) = IsAscii-nil
sign_ascii LeftPar = one_ascii 40 (lit< tt)
sign_ascii RightPar = one_ascii 41 (lit< tt)
sign_ascii Comma = one_ascii 44 (lit< tt)
sign_ascii Colon = one_ascii 58 (lit< tt)
sign_ascii Equals = one_ascii 61 (lit< tt)
sign_ascii Bar = one_ascii 124 (lit< tt)
sign_ascii Arrow = IsAscii-cons 61 (62 ∷ []) (lit< tt) (one_ascii 62 (lit< tt))

pub sign_sound : (gap : List ℕ) (kind : TokenKind) → AllBlank gap → IsSignKind kind → Sound (sign_piece gap kind)
sign_sound gap kind b s = let h = ascii_spelled kind (sign_text kind) (sign_ascii kind)
    (sign_spelled_text kind s) in (b, h.0, h.1)

pub number_sound : (gap : List ℕ) (n : ℕ) → AllBlank gap → n < 10 ^ 6 → Sound (number_piece gap n)
number_sound gap n b h =
    let wide : n < 2 ^ 64 = omega arith in
    let short = length-decimal-le 6 n (omega arith) h wide in
    let numeral = decimal_is_IsNumeral n wide in
    let h = ascii_spelled (Number n) (decimal n) (IsAscii-decimal n wide) (numeral.0, short, sym numeral.1) in
    (b, h.0, h.1)

-- pieces after pieces: between the two there is a gap, or the second is a sign
apart_all : (kind : TokenKind) (ws : List Written) → Apart Word ws → Apart kind ws
apart_all kind [] h = tt
apart_all kind (w ∷ ws) h = by kind w.gap w.kind h
  where
    by : (kind : TokenKind) (gap : List ℕ) (next : TokenKind) → PartedOr gap (IsSignKind next) →
        PartedOr gap (MayTouch kind next)
    by kind (b ∷ bs) next h = tt
    by Word [] next h = h
    by (Number n) [] next h = h
    by LeftPar [] next h = tt
    by RightPar [] next h = tt
    by Comma [] next h = tt
    by Colon [] next h = tt
    by Equals [] next h = tt
    by Bar [] next h = tt
    by Arrow [] next h = tt

pub AllSound-append : (xs ys : List Written) → AllSound xs → AllSound ys → Apart Word ys → AllSound (xs ++ ys)
AllSound-append [] ys h k a = k
AllSound-append (w ∷ []) ys h k a = (h.0, apart_all w.kind ys a, k)
AllSound-append (w ∷ (v ∷ ws)) ys h k a = (h.0, h.1, AllSound-append (v ∷ ws) ys h.2 k a)

pub written-append : (xs ys : List Written) (tail : List ℕ) → written (xs ++ ys) tail ≡ written xs (written ys tail)
written-append [] ys tail = refl
written-append (w ∷ ws) ys tail = ap (λ bs. w.gap ++ (w.text ++ bs)) (written-append ws ys tail)

pub length-written : (ws : List Written) (tail : List ℕ) →
    length (written ws tail) ≡ length (written ws []) + length tail
length-written [] tail = omega arith
length-written (w ∷ ws) tail =
    let rest = length-written ws tail in
    let gap_tail = length-append w.gap (w.text ++ written ws tail) in
    let text_tail = length-append w.text (written ws tail) in
    let gap_none = length-append w.gap (w.text ++ written ws []) in
    let text_none = length-append w.text (written ws []) in
    omega (arith, rest, gap_tail, text_tail, gap_none, text_none)

pub placed-append : (n : ℕ) (xs ys : List Written) → placed n (xs ++ ys) ≡ placed n xs
    ++ placed (n + length (written xs [])) ys
placed-append n [] ys = ap (λ k. placed k ys) (omega arith)
placed-append n (w ∷ ws) ys =
    let k = n + length w.gap + length w.text in
    let gap_len = length-append w.gap (w.text ++ written ws []) in
    let text_len = length-append w.text (written ws []) in
    let same : k + length (written ws []) ≡ n + length (w.gap ++ (w.text ++ written ws [])) = omega (
      arith,
      gap_len,
      text_len,
    ) in
    ap (λ ts. record { kind = w.kind; at = n + length w.gap; len = length w.text } ∷ ts) (placed-append k ws ys
    ∙ ap (λ j. placed k ws ++ placed j ys) same)
