-- The tokens of a text lie in it, in order, and are spelled there.
use Rattle.std.proofs.Common.{◌≡◌, ℕ, ◌+◌, ◌≤◌, List, [], ◌∷◌, ◌++◌, Bool, true, false, ◌&&◌, length, take, drop, refl}
use Rattle.std.proofs.Common.{ap, sym, subst, ◌∙◌, append_assoc, arith}
use Rattle.std.specs.Prelude.{encode_utf8_all}
use Rattle.std.specs.Str.{chars, IsUtf8, all_scalars}
use Rattle.std.specs.List.{AllByRecursion}
use Rattle.std.proofs.Math.Seq.{drop-append_seam, take-append_seam}
use Rattle.std.proofs.lemmas.Str.{encodes-chars, encodes-append, chars-encodes, scalars-chars}
use Rattle.spec_text.specs.Names.{size}
use Rattle.spec_text.specs.Lexemes.{IsSpelling}
use Rattle.spec_text.specs.Tokens.{Scans, AreTokens}
use Rattle.spec_text.specs.Spans.{InOrder, slice_of, SpelledIn, HaveSpans}
use Rattle.spec_text.specs.declared.tokens.Token.{Token}
use Rattle.spec_text.proofs.TokenLemmas.{size_is, size_encodes, size-append}
use Rattle.spec_text.proofs.ScanLemmas.{spelling_size}

in_order : (total from : ℕ) (cs : List ℕ) (ts : List Token) (rest : List ℕ) → from + size cs ≡ total →
    Scans total cs ts rest → InOrder from total ts
in_order total from cs [] rest e h = omega arith
in_order total from cs (t ∷ ts) rest e h =
    let f = h.1 in
    let whole : size cs ≡ size (f.gap ++ (f.text ++ h.0)) = ap size f.whole in
    let sum = size-append f.gap (f.text ++ h.0) in
    let parts = size-append f.text h.0 in
    let at = f.at in
    let len = f.len in
    let one = spelling_size t.kind f.text f.spelled in (
      omega (arith, e, whole, sum, at),
      omega (arith, one, len),
      in_order total (t.at + t.len) h.0 ts rest (omega (arith, at, len, parts)) h.2,
    )

few : (from end : ℕ) (ts : List Token) → InOrder from end ts → from + length ts ≤ end
few from end [] h = omega arith
few from end (t ∷ ts) h = let rest = few (t.at + t.len) end ts h.2 in omega (arith, h.0, h.1, rest)

pub and_parts : (a b : Bool) → (a && b) ≡ true → (a ≡ true) × (b ≡ true)
and_parts true b e = (refl, e)
and_parts false b e = absurd (let q : false ≡ true = e in cc)

scalars_parts : (xs ys : List ℕ) → all_scalars (xs ++ ys) ≡ true → (all_scalars xs ≡ true) × (all_scalars ys ≡ true)
scalars_parts [] ys e = (refl, e)
scalars_parts (x ∷ xs) ys e =
    let h = and_parts _ (all_scalars (xs ++ ys)) e in
    let rest = scalars_parts xs ys h.1 in
    (rw h.0 rest.0, rest.1)

-- the bytes of a part of the characters
slice_text : (front text after : List ℕ) (at len : ℕ) → at ≡ size front → len ≡ size text →
    take len (drop at (encode_utf8_all (front ++ (text ++ after)))) ≡ encode_utf8_all text
slice_text front text after at len p q =
    let whole : encode_utf8_all (front ++ (text ++ after)) ≡ encode_utf8_all front
    ++ (encode_utf8_all text ++ encode_utf8_all after) =
    encodes-append front (text ++ after) ∙ ap (λ ys. encode_utf8_all front ++ ys) (encodes-append text after) in
    let a : at ≡ length (encode_utf8_all front) = p ∙ sym (size_encodes front) in
    let n : len ≡ length (encode_utf8_all text) = q ∙ sym (size_encodes text) in
    ap (λ ys. take len (drop at ys)) whole
    ∙ ap (λ k. take len (drop k (encode_utf8_all front ++ (encode_utf8_all text ++ encode_utf8_all after)))) a
    ∙ ap (take len) (drop-append_seam (encode_utf8_all front) (encode_utf8_all text ++ encode_utf8_all after))
    ∙ ap (λ k. take k (encode_utf8_all text ++ encode_utf8_all after)) n
    ∙ take-append_seam (encode_utf8_all text) (encode_utf8_all after)

spelled_slice : (bs text : List ℕ) (t : Token) → slice_of bs t ≡ encode_utf8_all text →
    all_scalars text ≡ true → IsSpelling t.kind text → SpelledIn bs t
spelled_slice bs text t e s h = (
  subst IsUtf8 (sym e) (text, (s, refl)),
  subst (λ (xs : List ℕ). IsSpelling t.kind xs) (sym (ap chars e ∙ chars-encodes text s)) h,
)

spelled_all : (bs front cs : List ℕ) (total : ℕ) (ts : List Token) (rest : List ℕ) →
    bs ≡ encode_utf8_all (front ++ cs) → all_scalars cs ≡ true → size front + size cs ≡ total →
    Scans total cs ts rest → AllByRecursion (SpelledIn bs) ts
spelled_all bs front cs total [] rest b s e h = tt
spelled_all bs front cs total (t ∷ ts) rest b s e h =
    let f = h.1 in
    let before = front ++ f.gap in
    let whole : front ++ cs ≡ before ++ (f.text ++ h.0) = ap (λ ys. front ++ ys) f.whole
    ∙ sym (append_assoc front f.gap (f.text ++ h.0)) in
    let gap_size = size-append front f.gap in
    let cs_size : size cs ≡ size (f.gap ++ (f.text ++ h.0)) = ap size f.whole in
    let sum = size-append f.gap (f.text ++ h.0) in
    let parts = size-append f.text h.0 in
    let at = f.at in
    let place : t.at ≡ size before = omega (arith, e, gap_size, cs_size, sum, at) in
    let slice : slice_of bs t ≡ encode_utf8_all f.text = ap (λ ys. take t.len (drop t.at ys))
    (b ∙ ap encode_utf8_all whole) ∙ slice_text before f.text h.0 t.at t.len place f.len in
    let scalars = scalars_parts f.gap (f.text ++ h.0) (subst (λ (ys : List ℕ). all_scalars ys ≡ true) f.whole s) in
    let halves = scalars_parts f.text h.0 scalars.1 in
    let next : bs ≡ encode_utf8_all ((before ++ f.text) ++ h.0) = b
    ∙ ap encode_utf8_all (whole ∙ sym (append_assoc before f.text h.0)) in
    let next_size = size-append before f.text in (
      spelled_slice bs f.text t slice halves.0 f.spelled,
      spelled_all bs (before ++ f.text) h.0 total ts rest next halves.1
          (omega (arith, at, parts, next_size, place)) h.2,
    )

-- the spans of the tokens of a text
pub spans_hold : (bs : List ℕ) (ts : List Token) → AreTokens bs ts → HaveSpans bs ts
spans_hold bs ts h =
    let cs = chars bs in
    let same = size_is bs h.0 in
    let ordered : InOrder 0 (length bs) ts = subst (λ (n : ℕ). InOrder 0 n ts) same
    (in_order (size cs) 0 cs ts h.1.0 (omega arith) h.1.1) in
    let count = few 0 (length bs) ts ordered in
    record {
      in_order = ordered;
      spelled = spelled_all bs [] cs (size cs) ts h.1.0 (sym (encodes-chars bs h.0)) (scalars-chars bs h.0)
          (omega arith) h.1.1;
      few = omega (arith, count);
    }
