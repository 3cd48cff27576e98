-- The scanner's first token is the longest, spelled by its kind.
use Rattle.std.proofs.Common.{◌≡◌, ◌⊎◌, inl, inr, ℕ, ◌+◌, ◌*◌, ◌<◌, ◌≤◌, List, [], ◌∷◌, ◌++◌, Option, Some, None, Bool}
use Rattle.std.proofs.Common.{true, false, cond, length, refl, ap, sym, subst, ◌∙◌, arith, lit<}
use Rattle.std.specs.Prelude.{◌==◌, ◌||◌, IsTrue, nat_le}
use Rattle.std.specs.List.{AllByRecursion}
use Rattle.std.specs.Char.{digit_value, is_ascii_alphabetic}
use Rattle.std.specs.Str.Parse.{AllDigits, IsNumeral, digits_value_after}
use Rattle.std.proofs.lemmas.Bool.{eqb-true, ltb-true, lt-ltb, leb-true}
use Rattle.std.proofs.lemmas.Str.Parse.{digit_from_value}
use Rattle.unicode_ident.specs.Ident.{is_xid_continue}
use Rattle.unicode_ident.proofs.IdentLemmas.{is_xid_start-ascii}
use Rattle.spec_text.specs.Names.{starts}
use Rattle.spec_text.specs.Lexemes.{IsSpelling, IsLexeme, IsLongest}
use Rattle.spec_text.specs.Scanner.{skip_name, is_digit, digits, equals, sign_of}
use Rattle.spec_text.specs.declared.tokens.TokenKind.{TokenKind}
use Rattle.spec_text.specs.declared.tokens.TokenKind.TheVariants.{Word, Number, LeftPar, RightPar, Comma, Colon}
use Rattle.spec_text.specs.declared.tokens.TokenKind.TheVariants.{Equals, Bar, Arrow}
use Rattle.spec_text.proofs.GapLemmas.{nil_cons, cons_nil}

pub none_some : {A : Type 0} {x : A} → ◌≡◌ {A = Option A} None (Some x) → ⊥
none_some e = cc

pub some_none : {A : Type 0} {x : A} → ◌≡◌ {A = Option A} (Some x) None → ⊥
some_none e = cc

pub some_is : {A : Type 0} {x y : A} → Some x ≡ Some y → x ≡ y
some_is e = cc

pub true_false : true ≡ false → ⊥
true_false e = cc

pub not_true : (b : Bool) → (b ≡ true → ⊥) → b ≡ false
not_true true h = absurd (h refl)
not_true false h = refl

-- where a run ends: the next character, if there is one, isn't in it
abbrev pub Stops : (ℕ → Type 0) → List ℕ → Type 0
Stops P [] = Unit {0}
Stops P (c ∷ cs) = P c → ⊥

abbrev pub Continues : ℕ → Type 0
Continues c = IsTrue (is_xid_continue c)

abbrev pub Digit : ℕ → Type 0
Digit c = digit_value c < 10

-- the character of a sign other than =
abbrev pub IsSign : TokenKind → ℕ → Type 0
IsSign Word c = ⊥
IsSign (Number n) c = ⊥
IsSign LeftPar c = c ≡ 40
IsSign RightPar c = c ≡ 41
IsSign Comma c = c ≡ 44
IsSign Colon c = c ≡ 58
IsSign Equals c = ⊥
IsSign Bar c = c ≡ 124
IsSign Arrow c = ⊥

-- what a lexeme looks like from its first character
pub data Shape (c : ℕ) (cs : List ℕ) : Type 0 where
  word : IsTrue (starts c) → AllByRecursion Continues cs → Shape c cs
  numeral : Digit c → AllDigits 10 cs → Shape c cs
  sign : (kind : TokenKind) → IsSign kind c → cs ≡ [] → Shape c cs
  equal : c ≡ 61 → cs ≡ [] → Shape c cs
  arrow : c ≡ 61 → cs ≡ 62 ∷ [] → Shape c cs

one : {c k : ℕ} {cs : List ℕ} → c ∷ cs ≡ k ∷ [] → (c ≡ k) × (cs ≡ [])
one e = (cc, cc)

two : {c k d : ℕ} {cs : List ℕ} → c ∷ cs ≡ k ∷ d ∷ [] → (c ≡ k) × (cs ≡ d ∷ [])
two e = (cc, cc)

shape_of : (kind : TokenKind) (c : ℕ) (cs : List ℕ) → IsSpelling kind (c ∷ cs) → Shape c cs
shape_of Word c cs h = word h.0 h.1
shape_of (Number n) c cs h = numeral h.0.1.0 h.0.1.1
shape_of LeftPar c cs h = sign LeftPar (one h).0 (one h).1
shape_of RightPar c cs h = sign RightPar (one h).0 (one h).1
shape_of Comma c cs h = sign Comma (one h).0 (one h).1
shape_of Colon c cs h = sign Colon (one h).0 (one h).1
shape_of Equals c cs h = equal (one h).0 (one h).1
shape_of Bar c cs h = sign Bar (one h).0 (one h).1
shape_of Arrow c cs h = arrow (two h).0 (two h).1

pub shape : (c : ℕ) (cs : List ℕ) → IsLexeme (c ∷ cs) → Shape c cs
shape c cs (inl h) = numeral h.1.0 h.1.1
shape c cs (inr h) = shape_of h.0 c cs h.1

-- the first characters of the shapes differ
pub starts_not : (k : ℕ) → k < 128 → (is_ascii_alphabetic k || (k == 95)) ≡ false → starts k ≡ false
starts_not k h e = rw (is_xid_start-ascii k h) e

pub no_start_at : (c k : ℕ) → c ≡ k → k < 128 → (is_ascii_alphabetic k || (k == 95)) ≡ false → starts c ≡ false
no_start_at c k e h n = ap starts e ∙ starts_not k h n

pub no_digit_at : (c k : ℕ) → c ≡ k → is_digit k ≡ false → Digit c → ⊥
no_digit_at c k e n d = true_false (sym (lt-ltb (digit_value c) 10 d) ∙ ap is_digit e ∙ n)

pub digit_false : (c : ℕ) → IsTrue (starts c) → Digit c → ⊥
digit_false c s d =
    let range = digit_from_value c d in
    let low = range.0 in
    let high = range.1 in
    let apart : starts c ≡ false = starts_not c (omega arith) (grind arith) in
    true_false (sym s ∙ apart)

pub sign_not_start : (kind : TokenKind) (c : ℕ) → IsSign kind c → starts c ≡ false
sign_not_start LeftPar c e = no_start_at c 40 e (lit< tt) refl
sign_not_start RightPar c e = no_start_at c 41 e (lit< tt) refl
sign_not_start Comma c e = no_start_at c 44 e (lit< tt) refl
sign_not_start Colon c e = no_start_at c 58 e (lit< tt) refl
sign_not_start Bar c e = no_start_at c 124 e (lit< tt) refl
sign_not_start Word c e = absurd e
sign_not_start (Number n) c e = absurd e
sign_not_start Equals c e = absurd e
sign_not_start Arrow c e = absurd e

pub sign_not_digit : (kind : TokenKind) (c : ℕ) → IsSign kind c → Digit c → ⊥
sign_not_digit LeftPar c e = no_digit_at c 40 e refl
sign_not_digit RightPar c e = no_digit_at c 41 e refl
sign_not_digit Comma c e = no_digit_at c 44 e refl
sign_not_digit Colon c e = no_digit_at c 58 e refl
sign_not_digit Bar c e = no_digit_at c 124 e refl
sign_not_digit Word c e = absurd e
sign_not_digit (Number n) c e = absurd e
sign_not_digit Equals c e = absurd e
sign_not_digit Arrow c e = absurd e

pub sign_not_equal : (kind : TokenKind) (c : ℕ) → IsSign kind c → c ≡ 61 → ⊥
sign_not_equal LeftPar c e f = absurd (omega arith)
sign_not_equal RightPar c e f = absurd (omega arith)
sign_not_equal Comma c e f = absurd (omega arith)
sign_not_equal Colon c e f = absurd (omega arith)
sign_not_equal Bar c e f = absurd (omega arith)
sign_not_equal Word c e f = absurd e
sign_not_equal (Number n) c e f = absurd e
sign_not_equal Equals c e f = absurd e
sign_not_equal Arrow c e f = absurd e

pub equal_not_start : (c : ℕ) → c ≡ 61 → starts c ≡ false
equal_not_start c e = no_start_at c 61 e (lit< tt) refl

-- sign_of finds the signs
pub sign_of_is : (kind : TokenKind) (c : ℕ) → IsSign kind c → sign_of c ≡ Some kind
sign_of_is LeftPar c e = rw e refl
sign_of_is RightPar c e = rw e refl
sign_of_is Comma c e = rw e refl
sign_of_is Colon c e = rw e refl
sign_of_is Bar c e = rw e refl
sign_of_is Word c e = absurd e
sign_of_is (Number n) c e = absurd e
sign_of_is Equals c e = absurd e
sign_of_is Arrow c e = absurd e

pub sign_by : (a b d e f : Bool) (c : ℕ) (kind : TokenKind) → (c == 40) ≡ a → (c == 41) ≡ b → (c == 44) ≡ d →
    (c == 58) ≡ e → (c == 124) ≡ f →
    cond a (Some LeftPar)
    (cond b (Some RightPar) (cond d (Some Comma) (cond e (Some Colon) (cond f (Some Bar) None)))) ≡ Some kind →
    IsSign kind c
sign_by true b d e f c kind p q r s t h = subst (λ k. IsSign k c) (some_is h) (eqb-true c 40 p)
sign_by false true d e f c kind p q r s t h = subst (λ k. IsSign k c) (some_is h) (eqb-true c 41 q)
sign_by false false true e f c kind p q r s t h = subst (λ k. IsSign k c) (some_is h) (eqb-true c 44 r)
sign_by false false false true f c kind p q r s t h = subst (λ k. IsSign k c) (some_is h) (eqb-true c 58 s)
sign_by false false false false true c kind p q r s t h = subst (λ k. IsSign k c) (some_is h) (eqb-true c 124 t)
sign_by false false false false false c kind p q r s t h = absurd (none_some h)

pub is_sign : (c : ℕ) (kind : TokenKind) → sign_of c ≡ Some kind → IsSign kind c
is_sign c kind h = sign_by (c == 40) (c == 41) (c == 44) (c == 58) (c == 124) c kind refl refl refl refl refl h

pub sign_spelled : (kind : TokenKind) (c : ℕ) → IsSign kind c → IsSpelling kind (c ∷ [])
sign_spelled LeftPar c e = rw e refl
sign_spelled RightPar c e = rw e refl
sign_spelled Comma c e = rw e refl
sign_spelled Colon c e = rw e refl
sign_spelled Bar c e = rw e refl
sign_spelled Word c e = absurd e
sign_spelled (Number n) c e = absurd e
sign_spelled Equals c e = absurd e
sign_spelled Arrow c e = absurd e

-- how a lexeme goes on, by its first character
word_goes_on : (c : ℕ) (cs : List ℕ) → IsTrue (starts c) → Shape c cs → AllByRecursion Continues cs
word_goes_on c cs s (word h t) = t
word_goes_on c cs s (numeral d t) = absurd (digit_false c s d)
word_goes_on c cs s (sign k e n) = absurd (true_false (sym s ∙ sign_not_start k c e))
word_goes_on c cs s (equal e n) = absurd (true_false (sym s ∙ equal_not_start c e))
word_goes_on c cs s (arrow e n) = absurd (true_false (sym s ∙ equal_not_start c e))

numeral_goes_on : (c : ℕ) (cs : List ℕ) → Digit c → Shape c cs → AllDigits 10 cs
numeral_goes_on c cs d (word s t) = absurd (digit_false c s d)
numeral_goes_on c cs d (numeral h t) = t
numeral_goes_on c cs d (sign k e n) = absurd (sign_not_digit k c e d)
numeral_goes_on c cs d (equal e n) = absurd (no_digit_at c 61 e refl d)
numeral_goes_on c cs d (arrow e n) = absurd (no_digit_at c 61 e refl d)

pub sign_goes_on : (kind : TokenKind) (c : ℕ) (cs : List ℕ) → IsSign kind c → Shape c cs → cs ≡ []
sign_goes_on k c cs e (word s t) = absurd (true_false (sym s ∙ sign_not_start k c e))
sign_goes_on k c cs e (numeral d t) = absurd (sign_not_digit k c e d)
sign_goes_on k c cs e (sign j f n) = n
sign_goes_on k c cs e (equal f n) = n
sign_goes_on k c cs e (arrow f n) = absurd (sign_not_equal k c e f)

equal_goes_on : (c : ℕ) (cs : List ℕ) → c ≡ 61 → Shape c cs → (cs ≡ []) ⊎ (cs ≡ 62 ∷ [])
equal_goes_on c cs e (word s t) = absurd (true_false (sym s ∙ equal_not_start c e))
equal_goes_on c cs e (numeral d t) = absurd (no_digit_at c 61 e refl d)
equal_goes_on c cs e (sign j f n) = inl n
equal_goes_on c cs e (equal f n) = inl n
equal_goes_on c cs e (arrow f n) = inr n

-- a text is longest if the next character may not go on with it
pub longest_run : (P : ℕ → Type 0) (text rest : List ℕ) → Stops P rest →
    ((d : ℕ) (more : List ℕ) → IsLexeme (text ++ (d ∷ more)) → P d) → IsLongest text rest
longest_run P text rest s f [] others e l = refl
longest_run P text [] s f (d ∷ more) others e l = absurd (nil_cons e)
longest_run P text (c ∷ rest) s f (d ∷ more) others e l = absurd (let same : c ≡ d = cc in
    s (subst P (sym same) (f d more l)))

pub stops_at : (P : ℕ → Type 0) (text rest : List ℕ) → IsLongest text rest →
    ((d : ℕ) → P d → IsLexeme (text ++ (d ∷ []))) → Stops P rest
stops_at P text [] l f = tt
stops_at P text (d ∷ rest) l f = λ p. cons_nil (l (d ∷ []) rest refl (f d p))

pub stops_never : (rest : List ℕ) → Stops (λ _. ⊥) rest
stops_never [] = tt
stops_never (c ∷ rest) = λ p. p

pub all_after : (P : ℕ → Type 0) (xs : List ℕ) (d : ℕ) (ys : List ℕ) → AllByRecursion P (xs ++ (d ∷ ys)) → P d
all_after P [] d ys h = h.0
all_after P (x ∷ xs) d ys h = all_after P xs d ys h.1

pub all_more : (P : ℕ → Type 0) (xs : List ℕ) (d : ℕ) → AllByRecursion P xs → P d → AllByRecursion P (xs ++ (d ∷ []))
all_more P [] d h p = (p, tt)
all_more P (x ∷ xs) d h p = (h.0, all_more P xs d h.1 p)

digits_after : (xs : List ℕ) (d : ℕ) (ys : List ℕ) → AllDigits 10 (xs ++ (d ∷ ys)) → Digit d
digits_after [] d ys h = h.0
digits_after (x ∷ xs) d ys h = digits_after xs d ys h.1

pub digits_more : (xs : List ℕ) (d : ℕ) → AllDigits 10 xs → Digit d → AllDigits 10 (xs ++ (d ∷ []))
digits_more [] d h p = (p, tt)
digits_more (x ∷ xs) d h p = (h.0, digits_more xs d h.1 p)

-- runs of names
pub skips : (cs rest : List ℕ) → AllByRecursion Continues cs → Stops Continues rest → skip_name (cs ++ rest) ≡ rest
skips [] [] h s = refl
skips [] (c ∷ rest) h s = rw (not_true (is_xid_continue c) s) refl
skips (c ∷ cs) rest h s = rw h.0 (skips cs rest h.1 s)

abbrev pub NamePart : List ℕ → List ℕ → Type 0
NamePart cs rest = (name : List ℕ) × (cs ≡ name ++ rest) × AllByRecursion Continues name × Stops Continues rest

part_step : (b : Bool) (c : ℕ) (cs : List ℕ) → is_xid_continue c ≡ b → NamePart cs (skip_name cs) →
    NamePart (c ∷ cs) (cond b (skip_name cs) (c ∷ cs))
part_step true c cs e h = (c ∷ h.0, ap (λ ys. c ∷ ys) h.1, (e, h.2), h.3)
part_step false c cs e h = ([], refl, tt, λ p. true_false (sym p ∙ e))

pub name_part : (cs : List ℕ) → NamePart cs (skip_name cs)
name_part [] = ([], refl, tt, tt)
name_part (c ∷ cs) = part_step (is_xid_continue c) c cs refl (name_part cs)

-- runs of digits
pub digit_true : (c : ℕ) → Digit c → is_digit c ≡ true
digit_true c d = lt-ltb (digit_value c) 10 d

pub digit_not : (c : ℕ) → (Digit c → ⊥) → is_digit c ≡ false
digit_not c n = not_true (is_digit c) (λ e. n (ltb-true (digit_value c) 10 e))

pub not_digit : (c : ℕ) → is_digit c ≡ false → Digit c → ⊥
not_digit c e d = true_false (sym (digit_true c d) ∙ e)

few : (k : ℕ) → k < 6 → nat_le 6 k ≡ false
few k h = not_true (nat_le 6 k) (λ e. let le = leb-true 6 k e in absurd (omega arith))

pub digits_read : (k v : ℕ) (ds rest : List ℕ) → AllDigits 10 ds → k + length ds ≤ 6 → Stops Digit rest →
    digits k v (ds ++ rest) ≡ Some (digits_value_after 10 v ds, rest)
digits_read k v [] [] h n s = refl
digits_read k v [] (c ∷ rest) h n s = rw (digit_not c s) refl
digits_read k v (d ∷ ds) rest h n s = rw (digit_true d h.0, few k (omega arith))
    (digits_read (k + 1) (v * 10 + digit_value d) ds rest h.1 (omega arith) s)

six : (k : ℕ) → nat_le 6 k ≡ false → k < 6
six k e = grind arith

refused_step : (b : Bool) (k : ℕ) (x : Option (ℕ × List ℕ)) → nat_le 6 k ≡ b → (k + 1 ≤ 6 → x ≡ None) →
    cond b None x ≡ None
refused_step true k x e f = refl
refused_step false k x e f = let lt = six k e in f (omega (arith, lt))

pub digits_refused : (k v : ℕ) (ds rest : List ℕ) → AllDigits 10 ds → 6 < k + length ds → k ≤ 6 →
    digits k v (ds ++ rest) ≡ None
digits_refused k v [] rest h n le = absurd (omega arith)
digits_refused k v (d ∷ ds) rest h n le = rw (digit_true d h.0)
    (refused_step (nat_le 6 k) k _ refl (λ q. digits_refused (k + 1) (v * 10 + digit_value d) ds rest h.1
    (omega arith) q))

abbrev Read : ℕ → ℕ → List ℕ → ℕ × List ℕ → Type 0
Read k v cs r = (ds : List ℕ) × (cs ≡ ds ++ r.1) × AllDigits 10 ds × (r.0 ≡ digits_value_after 10 v ds)
    × (k + length ds ≤ 6) × Stops Digit r.1

read_step : (b d : Bool) (k v c : ℕ) (cs : List ℕ) (x : Option (ℕ × List ℕ)) (r : ℕ × List ℕ) → is_digit c ≡ b →
    nat_le 6 k ≡ d → k ≤ 6 → (k + 1 ≤ 6 → x ≡ Some r → Read (k + 1) (v * 10 + digit_value c) cs r) →
    cond b (cond d None x) (Some (v, c ∷ cs)) ≡ Some r → Read k v (c ∷ cs) r
read_step true true k v c cs x r p q le f e = absurd (none_some e)
read_step true false k v c cs x r p q le f e =
    let lt = six k q in
    let h = f (omega (arith, lt)) e in
    let n = h.4 in
    (c ∷ h.0, ap (λ ys. c ∷ ys) h.1, (ltb-true (digit_value c) 10 p, h.2), h.3, omega (arith, n), h.5)
read_step false d k v c cs x r p q le f e =
    let same : (v, c ∷ cs) ≡ r = some_is e in
    subst (λ (y : ℕ × List ℕ). Read k v (c ∷ cs) y) same ([], refl, tt, refl, omega arith, not_digit c p)

number_read : (k v : ℕ) (cs : List ℕ) (r : ℕ × List ℕ) → k ≤ 6 → digits k v cs ≡ Some r → Read k v cs r
number_read k v [] r le e = let same : (v, []) ≡ r = some_is e in
    subst (λ (y : ℕ × List ℕ). Read k v [] y) same ([], refl, tt, refl, omega arith, tt)
number_read k v (c ∷ cs) r le e = read_step (is_digit c) (nat_le 6 k) k v c cs
    (digits (k + 1) (v * 10 + digit_value c) cs) r refl refl le
    (λ l f. number_read (k + 1) (v * 10 + digit_value c) cs r l f) e

abbrev pub TooLong : ℕ → List ℕ → Type 0
TooLong k cs = (ds : List ℕ) × (rest : List ℕ) × (cs ≡ ds ++ rest) × AllDigits 10 ds × (6 < k + length ds)

long_step : (b d : Bool) (k v c : ℕ) (cs : List ℕ) (x : Option (ℕ × List ℕ)) → is_digit c ≡ b → nat_le 6 k ≡ d →
    (x ≡ None → TooLong (k + 1) cs) → cond b (cond d None x) (Some (v, c ∷ cs)) ≡ None → TooLong k (c ∷ cs)
long_step true true k v c cs x p q f e = let le = leb-true 6 k q in
    (c ∷ [], cs, refl, (ltb-true (digit_value c) 10 p, tt), omega arith)
long_step true false k v c cs x p q f e = let h = f e in let n = h.4 in
    (c ∷ h.0, h.1, ap (λ ys. c ∷ ys) h.2, (ltb-true (digit_value c) 10 p, h.3), omega (arith, n))
long_step false d k v c cs x p q f e = absurd (some_none e)

pub too_long : (k v : ℕ) (cs : List ℕ) → digits k v cs ≡ None → TooLong k cs
too_long k v [] e = absurd (some_none e)
too_long k v (c ∷ cs) e = long_step (is_digit c) (nat_le 6 k) k v c cs
    (digits (k + 1) (v * 10 + digit_value c) cs) refl refl (λ h. too_long (k + 1) (v * 10 + digit_value c) cs h) e

-- the characters are a token's text, which nothing longer continues, and what follows
abbrev pub Spelled : TokenKind → List ℕ → List ℕ → Type 0
Spelled kind cs after = (text : List ℕ) × (cs ≡ text ++ after) × IsSpelling kind text × IsLongest text after

-- each kind of token is longest if the next character can't go on with it
pub word_longest : (c : ℕ) (name rest : List ℕ) → IsTrue (starts c) → Stops Continues rest → IsLongest (c ∷ name) rest
word_longest c name rest s ends = longest_run Continues (c ∷ name) rest ends
    (λ d more l. all_after Continues name d more
    (word_goes_on c (name ++ (d ∷ more)) s (shape c (name ++ (d ∷ more)) l)))

pub numeral_longest : (ds rest : List ℕ) → IsNumeral 10 ds → Stops Digit rest → IsLongest ds rest
numeral_longest [] rest n s = absurd (let lt = n.0 in omega (arith, lt))
numeral_longest (c ∷ ds) rest n s = longest_run Digit (c ∷ ds) rest s
    (λ d more l. digits_after ds d more (numeral_goes_on c (ds ++ (d ∷ more)) n.1.0 (shape c (ds ++ (d ∷ more)) l)))

pub word_spelled : (c : ℕ) (cs : List ℕ) → starts c ≡ true → Spelled Word (c ∷ cs) (skip_name cs)
word_spelled c cs s =
    let part = name_part cs in
    (c ∷ part.0, ap (λ ys. c ∷ ys) part.1, (s, part.2), word_longest c part.0 (skip_name cs) s part.3)

-- a run of digits that begins with a digit is a number
begins_digit : (c : ℕ) (cs ds after : List ℕ) → Digit c → c ∷ cs ≡ ds ++ after → Stops Digit after → 0 < length ds
begins_digit c cs [] [] d e s = absurd (cons_nil e)
begins_digit c cs [] (x ∷ after) d e s = absurd (let same : c ≡ x = cc in s (subst Digit same d))
begins_digit c cs (x ∷ ds) after d e s = omega arith

pub number_spelled : (c : ℕ) (cs : List ℕ) (r : ℕ × List ℕ) → Digit c → digits 0 0 (c ∷ cs) ≡ Some r →
    Spelled (Number r.0) (c ∷ cs) r.1
number_spelled c cs r d e =
    let h = number_read 0 0 (c ∷ cs) r (omega arith) e in
    let n : IsNumeral 10 h.0 = (begins_digit c cs h.0 r.1 d h.1 h.5, h.2) in
    let le = h.4 in
    (h.0, h.1, (n, omega (arith, le), h.3), numeral_longest h.0 r.1 n h.5)

pub sign_longest : (kind : TokenKind) (c : ℕ) (rest : List ℕ) → IsSign kind c → IsLongest (c ∷ []) rest
sign_longest kind c rest e = longest_run (λ _. ⊥) (c ∷ []) rest (stops_never rest)
    (λ d more l. cons_nil (sign_goes_on kind c (d ∷ more) e (shape c (d ∷ more) l)))

pub equal_longest : (rest : List ℕ) → Stops (λ d. d ≡ 62) rest → IsLongest (61 ∷ []) rest
equal_longest rest s = longest_run (λ d. d ≡ 62) (61 ∷ []) rest s
    (λ d more l. by d more (equal_goes_on 61 (d ∷ more) refl (shape 61 (d ∷ more) l)))
  where
    by : (d : ℕ) (more : List ℕ) → (d ∷ more ≡ []) ⊎ (d ∷ more ≡ 62 ∷ []) → d ≡ 62
    by d more (inl e) = absurd (cons_nil e)
    by d more (inr e) = cc

pub arrow_longest : (rest : List ℕ) → IsLongest (61 ∷ 62 ∷ []) rest
arrow_longest rest = longest_run (λ _. ⊥) (61 ∷ 62 ∷ []) rest (stops_never rest)
    (λ d more l. by d more (equal_goes_on 61 (62 ∷ d ∷ more) refl (shape 61 (62 ∷ d ∷ more) l)))
  where
    by : (d : ℕ) (more : List ℕ) → (62 ∷ d ∷ more ≡ []) ⊎ (62 ∷ d ∷ more ≡ 62 ∷ []) → ⊥
    by d more (inl e) = cons_nil e
    by d more (inr e) = let q : d ∷ more ≡ [] = cc in cons_nil q

pub equals_spelled : (cs : List ℕ) → Spelled (equals cs).0 (61 ∷ cs) (equals cs).1
equals_spelled [] = (61 ∷ [], refl, refl, equal_longest [] tt)
equals_spelled (d ∷ cs) = by (d == 62) refl
  where
    by : (b : Bool) → (d == 62) ≡ b → Spelled (cond {A = TokenKind × List ℕ} b (Arrow, cs) (Equals, d ∷ cs)).0
        (61 ∷ d ∷ cs) (cond {A = TokenKind × List ℕ} b (Arrow, cs) (Equals, d ∷ cs)).1
    by true e = (61 ∷ 62 ∷ [], ap (λ k. 61 ∷ k ∷ cs) (eqb-true d 62 e), refl, arrow_longest cs)
    by false e = (61 ∷ [], refl, refl, equal_longest (d ∷ cs) (λ f. true_false (ap (λ k. k == 62) (sym f) ∙ e)))
