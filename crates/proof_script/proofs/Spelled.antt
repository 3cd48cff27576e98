-- Bytes that are a name as a whole, and reserved words.
use Rattle.std.proofs.Common.{◌≡◌, ℕ, zero, suc, ◌+◌, ◌<◌, ◌≤◌, List, [], ◌∷◌, ◌++◌, refl, ap, sym, ◌∙◌, subst, length}
use Rattle.std.proofs.Common.{append-nil, arith}
use Rattle.std.specs.Prelude.{◌||◌, Bool, true, false, Contains}
use Rattle.std.specs.List.{list_any}
use Rattle.std.specs.Str.{bytes_eq, chars, IsUtf8}
use Rattle.std.proofs.lemmas.Slice.Eq.{bytes_eq-Decides}
use Rattle.std.proofs.lemmas.Map.Views.{Contains-from_any}
use Rattle.proof_script.specs.Names.{reserved_words, IsReportName}
use Rattle.proof_script.proofs.Runs.{true_false}
use Rattle.std.proofs.lemmas.Str.{encodes-chars, len_utf8_bounds}
use Rattle.spec_text.specs.Names.{IsName, size, NoName, LongestName}
use Rattle.spec_text.proofs.TokenLemmas.{size_encodes}

size_append : (cs ds : List ℕ) → size (cs ++ ds) ≡ size cs + size ds
size_append [] ds = omega arith
size_append (c ∷ cs) ds = omega (arith, size_append cs ds)

no_size : (cs : List ℕ) → size cs ≡ 0 → cs ≡ []
no_size [] e = refl
no_size (c ∷ cs) e = absurd (omega (arith, e, (len_utf8_bounds c).0))

pub size_chars : (bytes : List ℕ) → IsUtf8 bytes → size (chars bytes) ≡ length bytes
size_chars bytes u = sym (size_encodes (chars bytes)) ∙ ap (λ (bs : List ℕ). length bs) (encodes-chars bytes u)

-- a longest name of all bytes is the bytes
pub whole_name : (cs : List ℕ) (n : ℕ) → LongestName cs n → n ≡ size cs → IsName cs
whole_name cs n l e =
    let none : size l.rest ≡ 0 = omega (arith, size_append l.name l.rest, ap size l.whole, e, l.bytes) in
    let whole : cs ≡ l.name = l.whole ∙ ap (λ ds. l.name ++ ds) (no_size l.rest none) ∙ append-nil l.name in
    subst IsName (sym whole) l.is_name

-- and the longest name of a name is all of it
pub name_is_whole : (cs : List ℕ) (n : ℕ) → LongestName cs n → IsName cs → n ≡ size cs
name_is_whole cs n l h =
    let none : l.rest ≡ [] = l.longest l.rest [] (sym (append-nil l.rest)) (subst IsName l.whole h) in
    let whole : cs ≡ l.name = l.whole ∙ ap (λ ds. l.name ++ ds) none ∙ append-nil l.name in
    l.bytes ∙ ap size (sym whole)

pub no_name_at : (cs : List ℕ) → NoName cs → IsName cs → ⊥
no_name_at cs n h = n cs [] (sym (append-nil cs)) h

pub no_empty_name : (bytes : List ℕ) → IsUtf8 bytes → length bytes ≡ 0 → IsName (chars bytes) → ⊥
no_empty_name bytes u e h = subst IsName (no_size (chars bytes) (size_chars bytes u ∙ e)) h

pub found_name : (bytes : List ℕ) (n : ℕ) → IsUtf8 bytes → 0 < length bytes →
    (0 < n → LongestName (chars bytes) n) → n ≡ length bytes → IsName (chars bytes)
found_name bytes n u some l e = whole_name (chars bytes) n (l (omega (arith, some, e))) (e ∙ sym (size_chars bytes u))

pub found_whole : (bytes : List ℕ) (n : ℕ) → IsUtf8 bytes → (n ≡ 0 → NoName (chars bytes)) →
    (0 < n → LongestName (chars bytes) n) → IsName (chars bytes) → n ≡ length bytes
found_whole bytes zero u none l h = absurd (no_name_at (chars bytes) (none refl) h)
found_whole bytes (suc n) u none l h = name_is_whole (chars bytes) (suc n) (l (omega arith)) h ∙ size_chars bytes u

-- the test that looks for a reserved word finds one
pub found_reserved : (words : List (List ℕ)) (word : List ℕ) → list_any (bytes_eq word) words ≡ true →
    Contains words word
found_reserved words word h = Contains-from_any (λ x y e. (bytes_eq-Decides x y).0 e) word words h

pub kept_reserved : (words : List (List ℕ)) (word : List ℕ) → list_any (bytes_eq word) words ≡ false →
    Contains words word → ⊥
kept_reserved [] word e (i, lt, at) = omega (arith, lt)
kept_reserved (w ∷ words) word e (zero, lt, at) = by (bytes_eq word w) refl
  where
    by : (b : Bool) → bytes_eq word w ≡ b → ⊥
    by true q = true_false (let r : (bytes_eq word w || list_any (bytes_eq word) words) ≡ true = ap
        (λ b. b || list_any (bytes_eq word) words) q in sym r ∙ e)
    by false q = true_false (sym ((bytes_eq-Decides word w).1 (sym at)) ∙ q)
kept_reserved (w ∷ words) word e (suc i, lt, at) = by (λ k. kept_reserved words word k (
  i,
  omega (arith, lt),
  at,
)) (bytes_eq word w) refl
  where
    by : (list_any (bytes_eq word) words ≡ false → ⊥) → (b : Bool) → bytes_eq word w ≡ b → ⊥
    by next true q = true_false (let r : (bytes_eq word w || list_any (bytes_eq word) words) ≡ true = ap
        (λ b. b || list_any (bytes_eq word) words) q in sym r ∙ e)
    by next false q = next (sym (ap (λ b. b || list_any (bytes_eq word) words) q) ∙ e)

pub report_name : (bytes : List ℕ) → length bytes ≤ 64 → list_any (bytes_eq bytes) reserved_words ≡ false →
    IsUtf8 bytes × IsName (chars bytes) → IsReportName bytes
report_name bytes short free named = record {
  text = named.0;
  spelled = named.1;
  free = kept_reserved
      reserved_words bytes free;
  short = short;
}
