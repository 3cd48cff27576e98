use Rattle.std.proofs.Common.{◌≡◌, ℕ, ◌+◌, ◌<◌, List, [], ◌∷◌, ◌++◌, true, false, None, inl, inr, refl, ap, sym, subst}
use Rattle.std.proofs.Common.{◌∙◌, arith, lit<, lit≤}
use Rattle.std.specs.Prelude.{nat_lt, ◌||◌, ◌==◌, codes}
use Rattle.std.specs.List.{list_all}
use Rattle.std.specs.Char.{is_ascii_alphabetic, is_ascii_alphanumeric}
use Rattle.std.specs.Str.{chars, IsUtf8, IsAscii, is_utf8}
use Rattle.std.proofs.lemmas.Bool.{ltb-true}
use Rattle.std.proofs.lemmas.List.{take_all}
use Rattle.std.proofs.lemmas.Str.{chars-IsAscii, IsUtf8-from_ascii, is_utf8-from_IsUtf8}
use Rattle.std.proofs.lemmas.Str.Ascii.{IsAscii-nil, IsAscii-cons, IsAscii-from_all}
use Rattle.std.proofs.lemmas.List.Sums.{AllPass-from_list_all}
use Rattle.unicode_ident.proofs.IdentLemmas.{is_xid_start-ascii, is_xid_continue-ascii}
use Rattle.spec_text.specs.Names.{starts, IsName, size}
use Rattle.spec_text.specs.Gaps.{IsLastGap, nothing, comment}
use Rattle.spec_text.specs.Lexemes.{IsSpelling}
use Rattle.spec_text.specs.Tokens.{IsFirst, Scans, AreTokens, HasFault, IsTextFault}
use Rattle.spec_text.specs.Written.{Written, word_piece, sign_piece, AllBlank, Sound}
use Rattle.spec_text.specs.Scanner.{first_token, skip_gaps}
use Rattle.spec_text.specs.Examples.{token}
use Rattle.spec_text.specs.declared.tokens.TokenKind.TheVariants.{Word, Number, LeftPar, RightPar, Colon, Equals, Arrow}
use Rattle.spec_text.specs.declared.tokens.Token.{Token}
use Rattle.spec_text.proofs.LexemeLemmas.{Stops, Continues, starts_not, true_false, word_longest, sign_longest}
use Rattle.spec_text.proofs.TokenLemmas.{one_list}
use Rattle.spec_text.proofs.ScanLemmas.{fault_here}
use Rattle.spec_text.proofs.WrittenLemmas.{written_tokens, word_sound, sign_sound}
use Rattle.spec_text.proofs.laws.worked_examples.Goals as goal

ascii : (bs : List ℕ) → list_all (λ b. nat_lt b 128) bs ≡ true → IsAscii bs
ascii bs h = IsAscii-from_all bs (λ k d lt. ltb-true _ 128 (AllPass-from_list_all (λ b. nat_lt b 128) bs h k d lt))

starts_at : (c : ℕ) → c < 128 → (is_ascii_alphabetic c || (c == 95)) ≡ true → starts c ≡ true
starts_at c h e = rw (is_xid_start-ascii c h) e

ends : (c : ℕ) → c < 128 → (is_ascii_alphanumeric c || (c == 95)) ≡ false → Continues c → ⊥
ends c h n p = true_false (sym p ∙ is_xid_continue-ascii c h ∙ n)

-- a name of one letter
letter : (c : ℕ) → c < 128 → (is_ascii_alphabetic c || (c == 95)) ≡ true → Sound (word_piece [] (c ∷ []))
letter c h e =
    let a : IsAscii (c ∷ []) = IsAscii-cons c [] h IsAscii-nil in
    word_sound [] (c ∷ []) tt (IsUtf8-from_ascii (c ∷ []) a)
    (subst (λ (cs : List ℕ). IsName cs) (sym (chars-IsAscii (c ∷ []) a)) (starts_at c h e, tt))

f : Sound (word_piece [] (codes "f"))
f = letter 102 (lit< tt) refl

x : Sound (word_piece [] (codes "x"))
x = letter 120 (lit< tt) refl

blank : AllBlank (32 ∷ [])
blank = (refl, tt)

abbrev twelve_piece : Written
twelve_piece = record { gap = 32 ∷ []; text = codes "12"; kind = Number 12 }

twelve : Sound twelve_piece
twelve =
    let a : IsAscii (codes "12") = ascii (codes "12") refl in
    let spelled : IsSpelling (Number 12) (codes "12") = ((lit< tt, (lit< tt, (lit< tt, tt))), lit≤ tt, refl) in (
      blank,
      IsUtf8-from_ascii (codes "12") a,
      subst (λ (cs : List ℕ). IsSpelling (Number 12) cs) (sym (chars-IsAscii (codes "12") a)) spelled,
    )

pieces : List Written
pieces = word_piece [] (codes "f") ∷ sign_piece [] LeftPar ∷ word_piece [] (codes "x") ∷ sign_piece []
    RightPar ∷ sign_piece (32 ∷ []) Arrow ∷ twelve_piece ∷ []

call : AreTokens (codes "f(x) => 12") (token Word 0 1 ∷ token LeftPar 1 1 ∷ token Word 2 1 ∷ token RightPar 3
    1 ∷ token Arrow 5 2 ∷ token (Number 12) 8 2 ∷ [])
unfolding pieces
call = written_tokens pieces [] (
  f,
  tt,
  (
    sign_sound [] LeftPar tt tt,
    tt,
    (x, tt, (sign_sound [] RightPar tt tt, tt, (sign_sound (32 ∷ []) Arrow blank tt, tt, (twelve, tt, tt)))),
  ),
) tt

arrow : AreTokens (codes "=>") (token Arrow 0 2 ∷ [])
arrow = written_tokens (sign_piece [] Arrow ∷ []) [] (sign_sound [] Arrow tt tt, tt, tt) tt

no_equals : (ts : List Token) → AreTokens (codes "=>") (token Equals 0 1 ∷ ts) → ⊥
no_equals ts h = let e = one_list (codes "=>") (token Arrow 0 2 ∷ []) (token Equals 0 1 ∷ ts) arrow h in by e
  where
    by : token Arrow 0 2 ∷ [] ≡ token Equals 0 1 ∷ ts → ⊥
    by e = let k : ◌≡◌ {A = Token} (token Arrow 0 2) (token Equals 0 1) = cc in
        let n : ◌≡◌ {A = ℕ} 2 1 = ap (λ (t : Token). t.len) k in omega arith

-- the name a, and what follows it in a text of this size
letter_first : (total : ℕ) (rest : List ℕ) → 1 + size rest ≡ total → Stops Continues rest →
    IsFirst total (97 ∷ rest) (token Word 0 1) rest
letter_first total rest e s = record {
  gap = [];
  text = 97 ∷ [];
  whole = refl;
  apart = nothing;
  spelled = (starts_at 97 (lit< tt) refl, tt);
  longest = word_longest 97 [] rest (starts_at 97 (lit< tt) refl) s;
  at = omega (arith, e);
  len = refl;
}

with_chars : (P : List ℕ → Type 0) (bs : List ℕ) → IsAscii bs → P bs → IsUtf8 bs × P (chars bs)
with_chars P bs a h = (IsUtf8-from_ascii bs a, subst P (sym (chars-IsAscii bs a)) h)

commented : AreTokens (codes "a#(" ++ (10 ∷ codes ":")) (token Word 0 1 ∷ token Colon 4 1 ∷ [])
commented =
    let ts : List Token = token Word 0 1 ∷ token Colon 4 1 ∷ [] in
    let rest : List ℕ = 35 ∷ 40 ∷ 10 ∷ 58 ∷ [] in
    let second : IsFirst 5 rest (token Colon 4 1) [] = record {
      gap = 35 ∷ 40 ∷ 10 ∷ [];
      text = 58 ∷ [];
      whole = refl;
      apart = comment (40 ∷ []) (λ e. absurd (omega arith), tt) nothing;
      spelled = refl;
      longest = sign_longest Colon 58 [] refl;
      at = refl;
      len = refl;
    } in
    with_chars (λ cs. (r : List ℕ) × Scans (size cs) cs ts r × IsLastGap r) (97 ∷ rest) (ascii (97 ∷ rest) refl)
    ([], (rest, letter_first 5 rest refl (ends 35 (lit< tt) refl), ([], second, refl)), inl nothing)

-- a fault after the name a and a space
behind_letter : (x : ℕ) (xs : List ℕ) → list_all (λ b. nat_lt b 128) (97 ∷ 32 ∷ x ∷ xs) ≡ true →
    skip_gaps false (x ∷ xs) ≡ x ∷ xs → first_token (x ∷ xs) ≡ None → IsTextFault (97 ∷ 32 ∷ x ∷ xs) 2
behind_letter x xs a s n =
    let cs = 97 ∷ 32 ∷ x ∷ xs in
    let rest = 32 ∷ x ∷ xs in
    inr (with_chars (λ ys. HasFault ys 2) cs (ascii cs a)
    (fault_here cs (token Word 0 1 ∷ []) rest 2 x xs (
      rest,
      letter_first (size cs) rest refl (ends 32 (lit< tt) refl),
      refl,
    ) s n (omega arith)))

strange : IsTextFault (codes "a $") 2
strange = behind_letter 36 [] refl refl (rw (starts_not 36 (lit< tt) refl) refl)

long_number : IsTextFault (codes "a 1234567") 2
long_number = behind_letter 49 (codes "234567") refl refl (rw (starts_not 49 (lit< tt) refl) refl)

no_text : is_utf8 (36 ∷ 255 ∷ []) ≡ false
unfolding is_utf8 chars lib.Utf8.encode
no_text = refl

bad_byte : IsTextFault (36 ∷ 255 ∷ []) 1
bad_byte = inl (record {
  short = lit< tt;
  front = IsUtf8-from_ascii (36 ∷ []) (ascii (36 ∷ []) refl);
  longest = λ m lt u. true_false
      (sym (is_utf8-from_IsUtf8 (36 ∷ 255 ∷ []) (subst IsUtf8 (take_all m (36 ∷ 255 ∷ []) lt) u)) ∙ no_text);
})

pub returns : goal.returns
returns c = record {
  call = call;
  no_equals = no_equals;
  commented = commented;
  strange = strange;
  long_number = long_number;
  bad_byte = bad_byte;
}
