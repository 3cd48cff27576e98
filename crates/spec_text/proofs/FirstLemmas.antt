-- The scanner finds a first token if and only if one is spelled.
use Rattle.std.proofs.Common.{◌≡◌, ◌⊎◌, inl, inr, ℕ, ◌<◌, List, [], ◌∷◌, ◌++◌, Option, Some, None, Bool, true, false}
use Rattle.std.proofs.Common.{cond, length, refl, ap, sym, subst, ◌∙◌, arith, lit<}
use Rattle.std.specs.Prelude.{◌==◌}
use Rattle.std.specs.Str.Parse.{AllDigits}
use Rattle.std.proofs.lemmas.Bool.{eqb-true, ne_eqb, ltb-true}
use Rattle.spec_text.specs.Names.{starts, IsName}
use Rattle.spec_text.specs.Gaps.{is_blank}
use Rattle.spec_text.specs.Lexemes.{IsSpelling, IsLongest, BeginsNothing, IsLongNumber}
use Rattle.spec_text.specs.Scanner.{skip_gaps, skip_name, is_digit, digits, numbered, equals, sign_of, signed}
use Rattle.spec_text.specs.Scanner.{first_token}
use Rattle.spec_text.specs.declared.tokens.TokenKind.{TokenKind}
use Rattle.spec_text.specs.declared.tokens.TokenKind.TheVariants.{Word, Number, LeftPar, RightPar, Comma, Colon}
use Rattle.spec_text.specs.declared.tokens.TokenKind.TheVariants.{Equals, Bar, Arrow}
use Rattle.spec_text.proofs.LexemeLemmas.{none_some, some_none, some_is, true_false, not_true, starts_not, digit_false}
use Rattle.spec_text.proofs.LexemeLemmas.{digit_true, digit_not, not_digit, no_digit_at, skips, all_more, digits_more}
use Rattle.spec_text.proofs.LexemeLemmas.{digits_read, digits_refused, too_long, Continues, Digit, Stops, stops_at}
use Rattle.spec_text.proofs.LexemeLemmas.{IsSign, is_sign, sign_of_is, sign_spelled, sign_longest, Spelled, Shape}
use Rattle.spec_text.proofs.LexemeLemmas.{shape, word, numeral, sign, equal, arrow, word_spelled, number_spelled}
use Rattle.spec_text.proofs.LexemeLemmas.{equals_spelled}

spelled_as : (kind j : TokenKind) (cs after rest : List ℕ) →
    ◌≡◌ {A = Option (TokenKind × List ℕ)} (Some (kind, after)) (Some (j, rest)) → Spelled kind cs after →
    Spelled j cs rest
spelled_as kind j cs after rest e h = let q : ◌≡◌ {A = TokenKind × List ℕ} (kind, after) (j, rest) = some_is
    e in subst (λ (p : TokenKind × List ℕ). Spelled p.0 cs p.1) q h

by_number : (x : Option (ℕ × List ℕ)) (c : ℕ) (cs : List ℕ) (kind : TokenKind) (after : List ℕ) →
    digits 0 0 (c ∷ cs) ≡ x → Digit c → numbered x ≡ Some (kind, after) → Spelled kind (c ∷ cs) after
by_number None c cs kind after p d e = absurd (none_some e)
by_number (Some r) c cs kind after p d e = spelled_as (Number r.0) kind (c ∷ cs) r.1 after e (number_spelled c cs r d p)

by_sign : (x : Option TokenKind) (c : ℕ) (cs : List ℕ) (kind : TokenKind) (after : List ℕ) → sign_of c ≡ x →
    signed x cs ≡ Some (kind, after) → Spelled kind (c ∷ cs) after
by_sign None c cs kind after p e = absurd (none_some e)
by_sign (Some j) c cs kind after p e = let s = is_sign c j p in
    spelled_as j kind (c ∷ cs) cs after e (c ∷ [], refl, sign_spelled j c s, sign_longest j c cs s)

spelled_by : (s d q : Bool) (c : ℕ) (cs : List ℕ) (kind : TokenKind) (after : List ℕ) → starts c ≡ s →
    is_digit c ≡ d → (c == 61) ≡ q →
    cond s (Some (Word, skip_name cs))
    (cond d (numbered (digits 0 0 (c ∷ cs))) (cond q (Some (equals cs)) (signed (sign_of c) cs))) ≡ Some (
      kind,
      after,
    ) → Spelled kind (c ∷ cs) after
spelled_by true d q c cs kind after h i j e = spelled_as Word kind (c ∷ cs) (skip_name cs) after e (word_spelled c cs h)
spelled_by false true q c cs kind after h i j e = by_number (digits 0 0 (c ∷ cs)) c cs kind after refl
    (ltb-true _ 10 i) e
spelled_by false false true c cs kind after h i j e = subst (λ k. Spelled kind (k ∷ cs) after)
    (sym (eqb-true c 61 j)) (spelled_as (equals cs).0 kind (61 ∷ cs) (equals cs).1 after e (equals_spelled cs))
spelled_by false false false c cs kind after h i j e = by_sign (sign_of c) c cs kind after refl e

-- what the scanner finds is spelled, and longest
pub first_spelled : (cs : List ℕ) (kind : TokenKind) (after : List ℕ) → first_token cs ≡ Some (kind, after) →
    Spelled kind cs after
first_spelled [] kind after e = absurd (none_some e)
first_spelled (c ∷ cs) kind after e = spelled_by (starts c) (is_digit c) (c == 61) c cs kind after refl refl refl e

-- what begins a token is neither a blank nor a comment
stays : (c : ℕ) (cs : List ℕ) → is_blank c ≡ false → (c == 35) ≡ false → skip_gaps false (c ∷ cs) ≡ c ∷ cs
stays c cs b h = rw (b, h) refl

not_code : (c k : ℕ) → starts c ≡ true → starts k ≡ false → (c == k) ≡ false
not_code c k s n = ne_eqb c k (λ e. true_false (sym s ∙ ap starts e ∙ n))

start_stays : (c : ℕ) (cs : List ℕ) → starts c ≡ true → skip_gaps false (c ∷ cs) ≡ c ∷ cs
start_stays c cs s =
    let space = not_code c 32 s (starts_not 32 (lit< tt) refl) in
    let tab = not_code c 9 s (starts_not 9 (lit< tt) refl) in
    let return = not_code c 13 s (starts_not 13 (lit< tt) refl) in
    let newline = not_code c 10 s (starts_not 10 (lit< tt) refl) in
    let hash = not_code c 35 s (starts_not 35 (lit< tt) refl) in
    stays c cs (rw (space, tab, return, newline) refl) hash

not_digit_code : (c k : ℕ) → Digit c → is_digit k ≡ false → (c == k) ≡ false
not_digit_code c k d n = ne_eqb c k (λ e. no_digit_at c k e n d)

digit_stays : (c : ℕ) (cs : List ℕ) → Digit c → skip_gaps false (c ∷ cs) ≡ c ∷ cs
digit_stays c cs d =
    let space = not_digit_code c 32 d refl in
    let tab = not_digit_code c 9 d refl in
    let return = not_digit_code c 13 d refl in
    let newline = not_digit_code c 10 d refl in
    stays c cs (rw (space, tab, return, newline) refl) (not_digit_code c 35 d refl)

digit_starts_not : (c : ℕ) → Digit c → starts c ≡ false
digit_starts_not c d = not_true (starts c) (λ s. digit_false c s d)

-- the scanner finds this token at the front, if no gap is there
abbrev pub Found : TokenKind → List ℕ → List ℕ → Type 0
Found kind cs after = (first_token cs ≡ Some (kind, after)) × (skip_gaps false cs ≡ cs)

word_found : (text after : List ℕ) → IsName text → IsLongest text after → Found Word (text ++ after) after
word_found [] after n l = absurd n
word_found (c ∷ name) after n l =
    let ends = stops_at Continues (c ∷ name) after l (λ d p. inr (Word, (n.0, all_more Continues name d n.1 p))) in
    (rw n.0 (ap (λ (xs : List ℕ). Some (Word, xs)) (skips name after n.1 ends)), start_stays c (name ++ after) n.0)

numeral_found : (c : ℕ) (cs : List ℕ) (x : Option (ℕ × List ℕ)) → Digit c → digits 0 0 (c ∷ cs) ≡ x →
    first_token (c ∷ cs) ≡ numbered x
numeral_found c cs x d e = rw (digit_starts_not c d) (rw (digit_true c d) (ap numbered (rw (digit_true c d) at e)))

number_found : (n : ℕ) (text after : List ℕ) → IsSpelling (Number n) text → IsLongest text after →
    Found (Number n) (text ++ after) after
number_found n [] after s l = absurd (let lt = s.0.0 in omega (arith, lt))
number_found n (c ∷ ds) after s l =
    let d = s.0.1.0 in
    let ends = stops_at Digit (c ∷ ds) after l (λ x p. inl (omega arith, digits_more (c ∷ ds) x s.0.1 p)) in
    let le = s.1 in
    let read = digits_read 0 0 (c ∷ ds) after s.0.1 (omega (arith, le)) ends in (
      numeral_found c (ds ++ after) _ d read ∙ ap (λ (k : ℕ). Some (Number k, after)) (sym s.2),
      digit_stays c (ds ++ after) d,
    )

sign_found : (kind : TokenKind) (k : ℕ) (text after : List ℕ) → text ≡ k ∷ [] → Found kind (k ∷ after) after →
    Found kind (text ++ after) after
sign_found kind k text after e h = subst (λ (xs : List ℕ). Found kind (xs ++ after) after) (sym e) h

equals_alone : (after : List ℕ) → Stops (λ d. d ≡ 62) after → equals after ≡ (Equals, after)
equals_alone [] s = refl
equals_alone (d ∷ after) s = rw (ne_eqb d 62 s) refl

equals_found : (after : List ℕ) → IsLongest (61 ∷ []) after → Found Equals (61 ∷ after) after
equals_found after l =
    let ends = stops_at (λ d. d ≡ 62) (61 ∷ []) after l (λ d e. inr (Arrow, ap (λ k. 61 ∷ k ∷ []) e)) in
    (rw (starts_not 61 (lit< tt) refl) (ap Some (equals_alone after ends)), refl)

-- what is spelled and longest is what the scanner finds
pub spelled_found : (kind : TokenKind) (text after : List ℕ) → IsSpelling kind text → IsLongest text after →
    Found kind (text ++ after) after
spelled_found Word text after s l = word_found text after s l
spelled_found (Number n) text after s l = number_found n text after s l
spelled_found LeftPar text after s l = sign_found LeftPar 40 text after s (rw (starts_not 40 (lit< tt) refl) refl, refl)
spelled_found RightPar text after s l = sign_found RightPar 41 text after s
    (rw (starts_not 41 (lit< tt) refl) refl, refl)
spelled_found Comma text after s l = sign_found Comma 44 text after s (rw (starts_not 44 (lit< tt) refl) refl, refl)
spelled_found Colon text after s l = sign_found Colon 58 text after s (rw (starts_not 58 (lit< tt) refl) refl, refl)
spelled_found Equals text after s l = sign_found Equals 61 text after s
    (equals_found after (subst (λ (xs : List ℕ). IsLongest xs after) s l))
spelled_found Bar text after s l = sign_found Bar 124 text after s (rw (starts_not 124 (lit< tt) refl) refl, refl)
spelled_found Arrow text after s l = subst (λ (xs : List ℕ). Found Arrow (xs ++ after) after) (sym s)
    (rw (starts_not 61 (lit< tt) refl) refl, refl)

-- if the scanner finds none
abbrev pub Faulty : ℕ → List ℕ → Type 0
Faulty c cs = BeginsNothing c ⊎ IsLongNumber (c ∷ cs)

nothing_begins : (c : ℕ) → is_blank c ≡ false → (c == 35) ≡ false → starts c ≡ false → is_digit c ≡ false →
    (c == 61) ≡ false → sign_of c ≡ None → BeginsNothing c
nothing_begins c b h s d q n =
    (λ p. true_false (sym p ∙ b), λ e. true_false (ap (λ k. k == 35) (sym e) ∙ h), λ cs l. by cs (shape c cs l))
  where
    by : (cs : List ℕ) → Shape c cs → ⊥
    by cs (word p t) = true_false (sym p ∙ s)
    by cs (numeral p t) = not_digit c d p
    by cs (sign kind p t) = some_none (sym (sign_of_is kind c p) ∙ n)
    by cs (equal p t) = true_false (ap (λ k. k == 61) (sym p) ∙ q)
    by cs (arrow p t) = true_false (ap (λ k. k == 61) (sym p) ∙ q)

no_number : (x : Option (ℕ × List ℕ)) → numbered x ≡ None → x ≡ None
no_number None e = refl
no_number (Some r) e = absurd (some_none e)

no_sign : (x : Option TokenKind) (cs : List ℕ) → signed x cs ≡ None → x ≡ None
no_sign None cs e = refl
no_sign (Some kind) cs e = absurd (some_none e)

faulty_by : (s d q : Bool) (c : ℕ) (cs : List ℕ) → is_blank c ≡ false → (c == 35) ≡ false → starts c ≡ s →
    is_digit c ≡ d → (c == 61) ≡ q →
    cond s (Some (Word, skip_name cs))
    (cond d (numbered (digits 0 0 (c ∷ cs))) (cond q (Some (equals cs)) (signed (sign_of c) cs))) ≡ None → Faulty c cs
faulty_by true d q c cs b h i j k e = absurd (some_none e)
faulty_by false true q c cs b h i j k e = let t = too_long 0 0 (c ∷ cs) (no_number (digits 0 0 (c ∷ cs)) e) in
    let lt = t.4 in inr (t.0, t.1, t.2, t.3, omega (arith, lt))
faulty_by false false true c cs b h i j k e = absurd (some_none e)
faulty_by false false false c cs b h i j k e = inl (nothing_begins c b h i j k (no_sign (sign_of c) cs e))

pub none_faulty : (c : ℕ) (cs : List ℕ) → is_blank c ≡ false → (c == 35) ≡ false → first_token (c ∷ cs) ≡ None →
    Faulty c cs
none_faulty c cs b h e = faulty_by (starts c) (is_digit c) (c == 61) c cs b h refl refl refl e

no_sign_of : (x : Option TokenKind) (c : ℕ) → sign_of c ≡ x → ((kind : TokenKind) → IsSign kind c → ⊥) →
    sign_of c ≡ None
no_sign_of None c e f = e
no_sign_of (Some kind) c e f = absurd (f kind (is_sign c kind e))

faulty_number : (c : ℕ) (cs ds rest : List ℕ) → c ∷ cs ≡ ds ++ rest → AllDigits 10 ds → 6 < length ds →
    (first_token (c ∷ cs) ≡ None) × (skip_gaps false (c ∷ cs) ≡ c ∷ cs)
faulty_number c cs [] rest e a n = absurd (omega arith)
faulty_number c cs (x ∷ ds) rest e a n =
    let same : x ≡ c = cc in
    let d : Digit c = subst Digit same a.0 in
    let refused : digits 0 0 (c ∷ cs) ≡ None = ap (digits 0 0) e
    ∙ digits_refused 0 0 (x ∷ ds) rest a (omega arith) (omega arith) in
    (numeral_found c cs None d refused, digit_stays c cs d)

pub faulty_none : (c : ℕ) (cs : List ℕ) → Faulty c cs → (first_token (c ∷ cs) ≡ None)
    × (skip_gaps false (c ∷ cs) ≡ c ∷ cs)
faulty_none c cs (inl h) =
    let s : starts c ≡ false = not_true (starts c) (λ p. h.2 [] (inr (Word, (p, tt)))) in
    let d : is_digit c ≡ false = digit_not c (λ p. h.2 [] (inl (omega arith, (p, tt)))) in
    let q : (c == 61) ≡ false = ne_eqb c 61 (λ e. h.2 [] (inr (Equals, ap (λ k. k ∷ []) e))) in
    let n : sign_of c ≡ None = no_sign_of (sign_of c) c refl (λ kind p. h.2 [] (inr (kind, sign_spelled kind c p))) in
    let b : is_blank c ≡ false = not_true (is_blank c) h.0 in
    (rw (s, d, q, n) refl, stays c cs b (ne_eqb c 35 h.1))
faulty_none c cs (inr h) = faulty_number c cs h.0 h.1 h.2 h.3 h.4
