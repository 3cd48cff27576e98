-- A text has one list of tokens or one first fault.
use Rattle.std.proofs.Common.{◌≡◌, inl, inr, ℕ, ◌+◌, List, [], ◌∷◌, ◌++◌, Option, Some, None, Result, Ok, Err, false}
use Rattle.std.proofs.Common.{length, refl, ap, sym, subst, ◌∙◌, arith, length-append}
use Rattle.std.specs.Prelude.{IfOk, IfErr, MatchResult, encode_utf8_all}
use Rattle.std.specs.Str.{chars, IsUtf8, IsValidUpTo}
use Rattle.std.specs.Char.{len_utf8}
use Rattle.std.proofs.lemmas.Str.{encodes-chars, length-encode, utf8_valid_len-IsValidUpTo}
use Rattle.std.proofs.Math.Seq.{take-length}
use Rattle.spec_text.specs.Names.{size}
use Rattle.spec_text.specs.Gaps.{IsLastGap}
use Rattle.spec_text.specs.Tokens.{IsFirst, Scans, AreTokens, HasFault, IsTextFault, IsTokens, IsFault, TellsFault}
use Rattle.spec_text.specs.Scanner.{skip_gaps, first_token}
use Rattle.spec_text.specs.declared.tokens.TokenKind.{TokenKind}
use Rattle.spec_text.specs.declared.tokens.Token.{Token}
use Rattle.spec_text.specs.declared.tokens.ScanError.{ScanError}
use Rattle.spec_text.specs.declared.tokens.ScanError.TheVariants as errors
use Rattle.spec_text.proofs.GapLemmas.{nil_cons, gap_skipped, behind_gap, last_gap_skipped}
use Rattle.spec_text.proofs.LexemeLemmas.{none_some, some_is}
use Rattle.spec_text.proofs.FirstLemmas.{first_spelled, spelled_found, faulty_none}

pub size_encodes : (cs : List ℕ) → length (encode_utf8_all cs) ≡ size cs
size_encodes [] = refl
size_encodes (c ∷ cs) = length-append _ (encode_utf8_all cs)
    ∙ ap (λ n. n + length (encode_utf8_all cs)) (length-encode c) ∙ ap (λ n. len_utf8 c + n) (size_encodes cs)

pub size_is : (bs : List ℕ) → IsUtf8 bs → size (chars bs) ≡ length bs
size_is bs u = sym (size_encodes (chars bs)) ∙ ap length (encodes-chars bs u)

pub size-append : (xs ys : List ℕ) → size (xs ++ ys) ≡ size xs + size ys
size-append [] ys = omega arith
size-append (x ∷ xs) ys = omega (arith, size-append xs ys)

-- the first token, as the scanner finds it
abbrev pub Step : ℕ → List ℕ → Token → List ℕ → Type 0
Step total cs t after = (first_token (skip_gaps false cs) ≡ Some (t.kind, after))
    × (t.at + size (skip_gaps false cs) ≡ total) × ((t.at + t.len) + size after ≡ total)

pub found_first : (total : ℕ) (cs : List ℕ) (t : Token) (after : List ℕ) → IsFirst total cs t after →
    Step total cs t after
found_first total cs t after f =
    let found = spelled_found t.kind f.text after f.spelled f.longest in
    let skipped : skip_gaps false cs ≡ f.text ++ after = ap (skip_gaps false) f.whole
    ∙ gap_skipped f.apart (f.text ++ after) ∙ found.1 in
    let at = f.at in
    let len = f.len in (
      ap first_token skipped ∙ found.0,
      omega (arith, ap size skipped, at),
      omega (arith, at, len, size-append f.text after),
    )

pub is_first : (total : ℕ) (cs : List ℕ) (x : ℕ) (xs : List ℕ) (t : Token) (after : List ℕ) →
    skip_gaps false cs ≡ x ∷ xs → first_token (x ∷ xs) ≡ Some (t.kind, after) → t.at + size (x ∷ xs) ≡ total →
    (t.at + t.len) + size after ≡ total → IsFirst total cs t after
is_first total cs x xs t after e f p q =
    let behind = behind_gap cs x xs e in
    let spelled = first_spelled (x ∷ xs) t.kind after f in
    let sum = size-append spelled.0 after in
    let same : size (x ∷ xs) ≡ size (spelled.0 ++ after) = ap size spelled.1 in
    record {
      gap = behind.0;
      text = spelled.0;
      whole = behind.1 ∙ ap (λ ys. behind.0 ++ ys) spelled.1;
      apart = behind.2;
      spelled = spelled.2;
      longest = spelled.3;
      at = omega (arith, p, same);
      len = omega (arith, p, q, same, sum);
    }

-- one more token
pub scans_on : (total : ℕ) (cs : List ℕ) (ts : List Token) (r : List ℕ) (t : Token) (after : List ℕ) →
    Scans total cs ts r → IsFirst total r t after → Scans total cs (ts ++ t ∷ []) after
scans_on total cs [] r t after h f = (after, subst (λ (xs : List ℕ). IsFirst total xs t after) (sym h) f, refl)
scans_on total cs (u ∷ ts) r t after h f = (h.0, h.1, scans_on total h.0 ts r t after h.2 f)

-- two readings are one
token_is : (t u : Token) → t.kind ≡ u.kind → t.at ≡ u.at → t.len ≡ u.len → t ≡ u
token_is t u a b c = λ i. record { kind = a i; at = b i; len = c i }

same_first : {a b : TokenKind} {x y : List ℕ} →
    ◌≡◌ {A = Option (TokenKind × List ℕ)} (Some (a, x)) (Some (b, y)) → (a ≡ b) × (x ≡ y)
same_first {a} {b} {x} {y} e = let q : ◌≡◌ {A = TokenKind × List ℕ} (a, x) (b, y) = some_is e in
    (ap (λ (p : TokenKind × List ℕ). p.0) q, ap (λ (p : TokenKind × List ℕ). p.1) q)

-- no token begins after these
abbrev Stuck : List ℕ → Type 0
Stuck rest = first_token (skip_gaps false rest) ≡ None

not_stuck : (total : ℕ) (cs : List ℕ) (t : Token) (after rest : List ℕ) → cs ≡ rest → Stuck rest →
    IsFirst total cs t after → ⊥
not_stuck total cs t after rest e s f = none_some (sym (ap (λ x. first_token (skip_gaps false x)) e ∙ s)
    ∙ (found_first total cs t after f).0)

one_scan : (total : ℕ) (cs : List ℕ) (ts us : List Token) (r s : List ℕ) → Scans total cs ts r →
    Scans total cs us s → Stuck r → Stuck s → (ts ≡ us) × (r ≡ s)
one_scan total cs [] [] r s h k a b = (refl, sym h ∙ k)
one_scan total cs [] (u ∷ us) r s h k a b = absurd (not_stuck total cs u k.0 r h a k.1)
one_scan total cs (t ∷ ts) [] r s h k a b = absurd (not_stuck total cs t h.0 s k b h.1)
one_scan total cs (t ∷ ts) (u ∷ us) r s h k a b =
    let p = found_first total cs t h.0 h.1 in
    let q = found_first total cs u k.0 k.1 in
    let f = same_first (sym p.0 ∙ q.0) in
    let rest = one_scan total h.0 ts us r s h.2 (subst (λ x. Scans total x us s) (sym f.1) k.2) a b in
    let at : t.at ≡ u.at = omega (arith, p.1, q.1) in
    let after : size h.0 ≡ size k.0 = ap size f.1 in
    let len : t.len ≡ u.len = omega (arith, p.2, q.2, at, after) in
    let first : t ≡ u = token_is t u f.0 at len in
    let others : ts ≡ us = rest.0 in
    (cc, rest.1)

stuck_end : (rest : List ℕ) → IsLastGap rest → Stuck rest
stuck_end rest g = rw (last_gap_skipped rest g) refl

-- what a fault leaves, without its gap
fault_skipped : (cs : List ℕ) (at : ℕ) (f : HasFault cs at) →
    skip_gaps false (f.gap ++ (f.c ∷ f.others)) ≡ f.c ∷ f.others
fault_skipped cs at f = gap_skipped f.apart (f.c ∷ f.others) ∙ (faulty_none f.c f.others f.faulty).1

stuck_fault : (cs : List ℕ) (at : ℕ) (f : HasFault cs at) → Stuck (f.gap ++ (f.c ∷ f.others))
stuck_fault cs at f = ap first_token (fault_skipped cs at f) ∙ (faulty_none f.c f.others f.faulty).0

one_place : (cs : List ℕ) (at place : ℕ) → HasFault cs at → HasFault cs place → at ≡ place
one_place cs at place f g =
    let same = one_scan (size cs) cs f.before g.before (f.gap ++ (f.c ∷ f.others)) (g.gap ++ (g.c ∷ g.others))
    f.scans g.scans (stuck_fault cs at f) (stuck_fault cs place g) in
    let left : size (f.c ∷ f.others) ≡ size (g.c ∷ g.others) = ap size (sym (fault_skipped cs at f)
    ∙ ap (skip_gaps false) same.1 ∙ fault_skipped cs place g) in
    let p = f.place in
    let q = g.place in
    omega (arith, p, q, left)

no_fault : (cs : List ℕ) (ts : List Token) (rest : List ℕ) (at : ℕ) → Scans (size cs) cs ts rest →
    IsLastGap rest → HasFault cs at → ⊥
no_fault cs ts rest at h g f =
    let same = one_scan (size cs) cs ts f.before rest (f.gap ++ (f.c ∷ f.others)) h f.scans (stuck_end rest g)
    (stuck_fault cs at f) in
    nil_cons (sym (last_gap_skipped rest g) ∙ ap (skip_gaps false) same.1 ∙ fault_skipped cs at f)

not_text : (bs : List ℕ) (n : ℕ) → IsUtf8 bs → IsValidUpTo bs n → ⊥
not_text bs n u v = v.longest (length bs) v.short (subst IsUtf8 (sym (take-length bs)) u)

-- a text has no two lists of tokens
pub one_list : (bs : List ℕ) (ts us : List Token) → AreTokens bs ts → AreTokens bs us → ts ≡ us
one_list bs ts us h k = (one_scan (size (chars bs)) (chars bs) ts us h.1.0 k.1.0 h.1.1 k.1.1
    (stuck_end h.1.0 h.1.2) (stuck_end k.1.0 k.1.2)).0

-- no two first faults
pub one_fault : (bs : List ℕ) (at place : ℕ) → IsTextFault bs at → IsTextFault bs place → at ≡ place
one_fault bs at place (inl v) (inl w) = sym (utf8_valid_len-IsValidUpTo bs at v) ∙ utf8_valid_len-IsValidUpTo bs place w
one_fault bs at place (inl v) (inr g) = absurd (not_text bs at g.0 v)
one_fault bs at place (inr f) (inl w) = absurd (not_text bs place f.0 w)
one_fault bs at place (inr f) (inr g) = one_place (chars bs) at place f.1 g.1

-- and not both
pub tokens_or_fault : (bs : List ℕ) (ts : List Token) (at : ℕ) → AreTokens bs ts → IsTextFault bs at → ⊥
tokens_or_fault bs ts at h (inl v) = not_text bs at h.0 v
tokens_or_fault bs ts at h (inr f) = no_fault (chars bs) ts h.1.0 at h.1.1 h.1.2 f.1

module _ {X : Type 0} (view : X → List Token) (bs : List ℕ) where
  abbrev pub Tells : Result X ScanError → Type 0
  Tells r = MatchResult r (λ x. AreTokens bs (view x)) (λ e. TellsFault bs e)

  pub is_found : (r : Result X ScanError) → Tells r → IfOk r (λ x. AreTokens bs (view x))
  is_found (Ok x) h = h
  is_found (Err e) h = tt

  pub is_stopped : (r : Result X ScanError) → Tells r → IfErr r (λ e. TellsFault bs e)
  is_stopped (Ok x) h = tt
  is_stopped (Err e) h = h

  pub is_only : (r : Result X ScanError) → Tells r → (ts : List Token) → AreTokens bs ts → IsTokens view ts r
  is_only (Ok x) h ts k = one_list bs (view x) ts h k
  is_only (Err errors.OutOfMemory) h ts k = tt
  is_only (Err (errors.Text at)) h ts k = tokens_or_fault bs ts at k h

  pub is_exact : (r : Result X ScanError) → Tells r → (at : ℕ) → IsTextFault bs at → IsFault at r
  is_exact (Ok x) h at k = tokens_or_fault bs (view x) at h k
  is_exact (Err errors.OutOfMemory) h at k = tt
  is_exact (Err (errors.Text place)) h at k = one_fault bs place at h k
