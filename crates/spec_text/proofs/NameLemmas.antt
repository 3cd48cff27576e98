-- The longest name at the front.
use Rattle.std.proofs.Common.{◌≡◌, ℕ, ◌+◌, ◌<◌, List, [], ◌∷◌, ◌++◌, Bool, true, false, cond, refl, ap, sym, ◌∙◌, arith}
use Rattle.std.specs.Char.{len_utf8}
use Rattle.std.proofs.lemmas.Str.{len_utf8_bounds}
use Rattle.std.specs.List.{AllByRecursion}
use Rattle.unicode_ident.specs.Ident.{is_xid_continue}
use Rattle.spec_text.specs.Names.{starts, IsName, size, NoName, LongestName}
use Rattle.spec_text.specs.Scanner.{run_of, name_of}
use Rattle.spec_text.proofs.GapLemmas.{nil_cons}
use Rattle.spec_text.proofs.LexemeLemmas.{Continues, Stops, all_after, true_false}

-- the run's characters, which nothing longer continues
abbrev Run : List ℕ → ℕ → Type 0
Run cs n = (name : List ℕ) × (rest : List ℕ) × (cs ≡ name ++ rest) × AllByRecursion Continues name
    × Stops Continues rest × (n ≡ size name)

run_step : (b : Bool) (c : ℕ) (cs : List ℕ) → is_xid_continue c ≡ b → Run cs (run_of cs) →
    Run (c ∷ cs) (cond b (len_utf8 c + run_of cs) 0)
run_step true c cs e h = (c ∷ h.0, h.1, ap (λ ys. c ∷ ys) h.2, (e, h.3), h.4, ap (λ n. len_utf8 c + n) h.5)
run_step false c cs e h = ([], c ∷ cs, refl, tt, λ p. true_false (sym p ∙ e), refl)

run : (cs : List ℕ) → Run cs (run_of cs)
run [] = ([], [], refl, tt, tt, refl)
run (c ∷ cs) = run_step (is_xid_continue c) c cs refl (run cs)

name_longest : (name rest : List ℕ) → IsName name → Stops Continues rest → (more others : List ℕ) →
    rest ≡ more ++ others → IsName (name ++ more) → more ≡ []
name_longest [] rest n s more others e h = absurd n
name_longest (c ∷ name) rest n s [] others e h = refl
name_longest (c ∷ name) [] n s (d ∷ more) others e h = absurd (nil_cons e)
name_longest (c ∷ name) (x ∷ rest) n s (d ∷ more) others e h = absurd (let same : x ≡ d = cc in
    s (ap is_xid_continue same ∙ all_after Continues name d more h.1))

by_start : (b : Bool) (c : ℕ) (cs : List ℕ) → starts c ≡ b → 0 < cond b (len_utf8 c + run_of cs) 0 →
    LongestName (c ∷ cs) (cond b (len_utf8 c + run_of cs) 0)
by_start false c cs e h = absurd (omega arith)
by_start true c cs e h =
    let r = run cs in
    record {
      name = c ∷ r.0;
      rest = r.1;
      whole = ap (λ ys. c ∷ ys) r.2;
      is_name = (e, r.3);
      longest = name_longest (c ∷ r.0) r.1 (e, r.3) r.4;
      bytes = ap (λ n. len_utf8 c + n) r.5;
    }

pub longest_name : (cs : List ℕ) → 0 < name_of cs → LongestName cs (name_of cs)
longest_name [] h = absurd (omega arith)
longest_name (c ∷ cs) h = by_start (starts c) c cs refl h

none_by : (b : Bool) (c : ℕ) (cs : List ℕ) → cond b (len_utf8 c + run_of cs) 0 ≡ 0 → b ≡ false
none_by true c cs e = absurd (omega (arith, (len_utf8_bounds c).0))
none_by false c cs e = refl

pub no_name : (cs : List ℕ) → name_of cs ≡ 0 → NoName cs
no_name cs e [] rest w n = n
no_name [] e (x ∷ name) rest w n = nil_cons w
no_name (c ∷ cs) e (x ∷ name) rest w n = let same : c ≡ x = cc in
    true_false (sym n.0 ∙ ap starts (sym same) ∙ none_by (starts c) c cs e)
