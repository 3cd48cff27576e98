-- A name that may appear in a report has no byte that ends a word.
use Rattle.std.proofs.Common.{◌≡◌, ◌≢◌, ℕ, ◌+◌, ◌<◌, ◌≤◌, ◌/◌, List, [], ◌∷◌, ◌++◌, Bool, true, false, cond, refl, ap}
use Rattle.std.proofs.Common.{sym, ◌∙◌, subst, codes, arith, lit<, ltb, length, length-append}
use Rattle.std.specs.Prelude.{◌==◌, ◌||◌, IsTrue}
use Rattle.std.specs.Str.{chars}
use Rattle.std.specs.List.{AllByRecursion}
use Rattle.std.specs.Char.{is_ascii_alphanumeric, is_ascii_alphabetic}
use Rattle.std.proofs.Math.Utf8.{encode, encodes, next}
use Rattle.std.proofs.lemmas.Bool.{eqb-true, ltb-true, ltb-false}
use Rattle.std.proofs.lemmas.Str.{encode_ascii, encode_same, encodes-chars, length-encode, len_utf8_bounds}
use Rattle.term_core.proofs.Items.{all_append}
use Rattle.unicode_ident.specs.Ident.{is_xid_continue}
use Rattle.unicode_ident.proofs.IdentLemmas.{is_xid_continue-ascii}
use Rattle.spec_text.specs.Names.{IsName, starts}
use Rattle.spec_text.proofs.LexemeLemmas.{no_start_at}
use Rattle.proof_script.specs.Delimiters.{Run, AllRun}
use Rattle.proof_script.specs.Names.{IsReportName}
use Rattle.proof_script.proofs.Runs.{true_false, Plain}

high_run : (c : ℕ) → 128 ≤ c → Run c
high_run c h = grind arith

high_encode : (c : ℕ) → 128 ≤ c → AllRun (encode c)
unfolding encode
high_encode c h = by (ltb c 128) (ltb c 2048) (ltb c 65536) refl
  where
    by : (x y z : Bool) → ltb c 128 ≡ x →
        AllRun (cond x (c ∷ [])
        (cond y ((192 + c / 64) ∷ next c ∷ []) (cond z ((224 + c / 4096) ∷ next (c / 64) ∷ next c ∷ [])
        ((240 + c / 262144) ∷ next (c / 4096) ∷ next (c / 64) ∷ next c ∷ []))))
    by true y z e = absurd (omega (arith, h, ltb-true c 128 e))
    by false true z e = (high_run (192 + c / 64) (omega arith), (high_run (next c) (omega arith), tt))
    by false false true e = (
      high_run (224 + c / 4096) (omega arith),
      (high_run (next (c / 64)) (omega arith), (high_run (next c) (omega arith), tt)),
    )
    by false false false e = (
      high_run (240 + c / 262144) (omega arith),
      (
        high_run (next (c / 4096)) (omega arith),
        (high_run (next (c / 64)) (omega arith), (high_run (next c) (omega arith), tt)),
      ),
    )

char_run : (c : ℕ) → Run c → AllRun (encode c)
char_run c r = by (ltb c 128) refl
  where
    by : (x : Bool) → ltb c 128 ≡ x → AllRun (encode c)
    by true e = subst AllRun (sym (encode_ascii c (ltb-true c 128 e))) (r, tt)
    by false e = high_encode c (ltb-false c 128 e)

not_delimiter : (c : ℕ) → (c ≡ 10 → ⊥) → (c ≡ 32 → ⊥) → (c ≡ 41 → ⊥) → (c ≡ 44 → ⊥) → (c ≡ 93 → ⊥) →
    (c ≡ 40 → ⊥) → (c ≡ 91 → ⊥) → Run c
not_delimiter c n0 n1 n2 n3 n4 n5 n6 = by (c == 10) (c == 32) (c == 41) (c == 44) (c == 93) (c == 40) (c == 91)
    refl refl refl refl refl refl refl
  where
    by : (b0 b1 b2 b3 b4 b5 b6 : Bool) → (c == 10) ≡ b0 → (c == 32) ≡ b1 → (c == 41) ≡ b2 → (c == 44) ≡ b3 →
        (c == 93) ≡ b4 → (c == 40) ≡ b5 → (c == 91) ≡ b6 → ((b0 || (b1 || (b2 || (b3 || b4)))) || (b5 || b6)) ≡ false
    by true b1 b2 b3 b4 b5 b6 e0 e1 e2 e3 e4 e5 e6 = absurd (n0 (eqb-true c 10 e0))
    by false true b2 b3 b4 b5 b6 e0 e1 e2 e3 e4 e5 e6 = absurd (n1 (eqb-true c 32 e1))
    by false false true b3 b4 b5 b6 e0 e1 e2 e3 e4 e5 e6 = absurd (n2 (eqb-true c 41 e2))
    by false false false true b4 b5 b6 e0 e1 e2 e3 e4 e5 e6 = absurd (n3 (eqb-true c 44 e3))
    by false false false false true b5 b6 e0 e1 e2 e3 e4 e5 e6 = absurd (n4 (eqb-true c 93 e4))
    by false false false false false true b6 e0 e1 e2 e3 e4 e5 e6 = absurd (n5 (eqb-true c 40 e5))
    by false false false false false false true e0 e1 e2 e3 e4 e5 e6 = absurd (n6 (eqb-true c 91 e6))
    by false false false false false false false e0 e1 e2 e3 e4 e5 e6 = refl

continues_run : (c : ℕ) → IsTrue (is_xid_continue c) → Run c
continues_run c h = not_delimiter c (off 10 (lit< tt) refl) (off 32 (lit< tt) refl) (off 41 (lit< tt) refl)
    (off 44 (lit< tt) refl) (off 93 (lit< tt) refl) (off 40 (lit< tt) refl) (off 91 (lit< tt) refl)
  where
    off : (k : ℕ) → k < 128 → (is_ascii_alphanumeric k || (k == 95)) ≡ false → c ≡ k → ⊥
    off k l f e = true_false (sym h ∙ ap is_xid_continue e ∙ is_xid_continue-ascii k l ∙ f)

start_off : (c : ℕ) → IsTrue (starts c) → (k : ℕ) → k < 128 → (is_ascii_alphabetic k || (k == 95)) ≡ false → c ≡ k → ⊥
start_off c h k l f e = true_false (sym h ∙ no_start_at c k e l f)

starts_run : (c : ℕ) → IsTrue (starts c) → Run c
starts_run c h = not_delimiter c (start_off c h 10 (lit< tt) refl) (start_off c h 32 (lit< tt) refl)
    (start_off c h 41 (lit< tt) refl) (start_off c h 44 (lit< tt) refl) (start_off c h 93 (lit< tt) refl)
    (start_off c h 40 (lit< tt) refl) (start_off c h 91 (lit< tt) refl)

chars_run : (cs : List ℕ) → AllByRecursion (λ d. IsTrue (is_xid_continue d)) cs → AllRun (encodes cs)
chars_run [] h = tt
chars_run (c ∷ cs) h = all_append Run (encode c) (encodes cs) (char_run c (continues_run c h.0)) (chars_run cs h.1)

-- the first byte of a character is the byte 63 only if the character is that
first_byte : (c : ℕ) (bs : List ℕ) (b : ℕ) (ds : List ℕ) → encode c ++ bs ≡ b ∷ ds → b ≡ 63 → c ≡ 63
first_byte c bs b ds e
    q = (encode_same c 63 bs ds (e ∙ ap (λ x. x ∷ ds) q ∙ ap (λ x. x ++ ds) (sym (encode_ascii 63 (lit< tt))))).0

name_by : (cs name : List ℕ) → IsName cs → encodes cs ≡ name → (name ≢ codes "_") → Plain name
name_by [] name h e n = absurd h
name_by (c ∷ cs) [] h e n = absurd (no_bytes e)
  where
    no_bytes : encode c ++ encodes cs ≡ [] → ⊥
    no_bytes q = let l : length (encode c ++ encodes cs) ≡ 0 = ap (λ x. length x) q in
        omega (arith, l, length-append (encode c) (encodes cs), length-encode c, (len_utf8_bounds c).0)
name_by (c ∷ cs) (b ∷ bs) h e n = record {
  first = b;
  others = bs;
  is = refl;
  run = subst AllRun e (all_append Run (encode c) (encodes cs) (char_run c (starts_run c h.0)) (chars_run cs h.1));
  no_mark = λ q. start_off c h.0 63 (lit< tt) refl (first_byte c (encodes cs) b bs e q);
  no_blank = n;
}

pub name_plain : (name : List ℕ) → IsReportName name → Plain name
name_plain name h = name_by (chars name) name h.spelled (encodes-chars name h.text) (λ e. h.free (10, lit< tt, sym e))
