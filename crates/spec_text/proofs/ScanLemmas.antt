-- One step of the scan.
use Rattle.std.proofs.Common.{◌≡◌, ℕ, zero, suc, ◌+◌, ◌<◌, ◌≤◌, List, [], ◌∷◌, Some, None, Bool, true, false, cond}
use Rattle.std.proofs.Common.{length, refl, ap, subst, arith}
use Rattle.std.specs.Prelude.{◌==◌}
use Rattle.std.specs.Str.{chars, IsUtf8}
use Rattle.std.specs.Char.{len_utf8}
use Rattle.std.proofs.lemmas.Str.{len_utf8_bounds}
use Rattle.spec_text.specs.Names.{size}
use Rattle.spec_text.specs.Gaps.{is_blank}
use Rattle.spec_text.specs.Lexemes.{IsSpelling}
use Rattle.spec_text.specs.Tokens.{Scans, HasFault}
use Rattle.spec_text.specs.Scanner.{skip_gaps, first_token}
use Rattle.spec_text.specs.declared.tokens.TokenKind.{TokenKind}
use Rattle.spec_text.specs.declared.tokens.TokenKind.TheVariants.{Word, Number, LeftPar, RightPar, Comma, Colon}
use Rattle.spec_text.specs.declared.tokens.TokenKind.TheVariants.{Equals, Bar, Arrow}
use Rattle.spec_text.specs.declared.tokens.Token.{Token}
use Rattle.spec_text.proofs.GapLemmas.{nil_cons, behind_gap}
use Rattle.spec_text.proofs.LexemeLemmas.{true_false}
use Rattle.spec_text.proofs.FirstLemmas.{first_spelled, none_faulty}
use Rattle.spec_text.proofs.TokenLemmas.{size_is, size-append}

pub nonzero : (n : ℕ) → (n == 0) ≡ false → 0 < n
nonzero zero e = absurd (true_false e)
nonzero (suc n) e = omega arith

gap_le : (b : Bool) (c : ℕ) (xs ys cs : List ℕ) → size xs ≤ size cs → size ys ≤ len_utf8 c + size cs →
    size (cond b xs ys) ≤ len_utf8 c + size cs
gap_le true c xs ys cs p q = omega arith
gap_le false c xs ys cs p q = q

pub skip_gaps_le : (inside : Bool) (cs : List ℕ) → size (skip_gaps inside cs) ≤ size cs
skip_gaps_le true [] = omega arith
skip_gaps_le false [] = omega arith
skip_gaps_le true (c ∷ cs) = gap_le (c == 10) c (skip_gaps false cs) (skip_gaps true cs) cs
    (skip_gaps_le false cs) (let p = skip_gaps_le true cs in omega (arith, p))
skip_gaps_le false (c ∷ cs) = gap_le (is_blank c) c (skip_gaps false cs)
    (cond (c == 35) (skip_gaps true cs) (c ∷ cs)) cs (skip_gaps_le false cs)
    (gap_le (c == 35) c (skip_gaps true cs) (c ∷ cs) cs (skip_gaps_le true cs) (omega arith))

pub no_spelling : (kind : TokenKind) → IsSpelling kind [] → ⊥
no_spelling Word h = h
no_spelling (Number n) h = let lt = h.0.0 in absurd (omega (arith, lt))
no_spelling LeftPar h = nil_cons h
no_spelling RightPar h = nil_cons h
no_spelling Comma h = nil_cons h
no_spelling Colon h = nil_cons h
no_spelling Equals h = nil_cons h
no_spelling Bar h = nil_cons h
no_spelling Arrow h = nil_cons h

pub spelling_size : (kind : TokenKind) (text : List ℕ) → IsSpelling kind text → 1 ≤ size text
spelling_size kind [] h = absurd (no_spelling kind h)
spelling_size kind (c ∷ cs) h = omega (arith, (len_utf8_bounds c).0)

pub first_lt : (cs : List ℕ) (kind : TokenKind) (after : List ℕ) → first_token cs ≡ Some (kind, after) →
    size after < size cs
first_lt cs kind after e =
    let s = first_spelled cs kind after e in
    omega (arith, ap size s.1, size-append s.0 after, spelling_size kind s.0 s.2)

pub chars_nonempty : (bs : List ℕ) → IsUtf8 bs → 0 < length bs → (x : ℕ) × (xs : List ℕ) × (chars bs ≡ x ∷ xs)
chars_nonempty bs u h = by (chars bs) refl
  where
    by : (cs : List ℕ) → chars bs ≡ cs → (x : ℕ) × (xs : List ℕ) × (chars bs ≡ x ∷ xs)
    by [] e = absurd (omega (arith, size_is bs u, ap size e))
    by (x ∷ xs) e = (x, xs, e)

pub fault_here : (cs : List ℕ) (ts : List Token) (r : List ℕ) (at x : ℕ) (xs : List ℕ) →
    Scans (size cs) cs ts r → skip_gaps false r ≡ x ∷ xs → first_token (x ∷ xs) ≡ None →
    at + size (x ∷ xs) ≡ size cs → HasFault cs at
fault_here cs ts r at x xs h e f p =
    let behind = behind_gap r x xs e in
    record {
      before = ts;
      gap = behind.0;
      c = x;
      others = xs;
      scans = subst (λ (ys : List ℕ). Scans (size cs) cs ts ys) behind.1 h;
      apart = behind.2;
      faulty = none_faulty x xs behind.3 behind.4 f;
      place = p;
    }
