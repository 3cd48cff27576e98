-- Left sides are opened from the first slot on.
use Rattle.std.proofs.Common.{◌≡◌, ℕ, zero, suc, ◌+◌, ◌<◌, ◌≤◌, List, [], ◌∷◌, ◌++◌, Some, refl, ap, sym, ◌∙◌, subst}
use Rattle.std.proofs.Common.{arith, length, drop, append_assoc}
use Rattle.std.specs.Prelude.{slice_get}
use Rattle.std.proofs.lemmas.List.{append-nil}
use Rattle.term_core.specs.Tree.{Tree, var, app, trees_of}
use Rattle.term_core.specs.Measure.{weight, list_weight, list_weight_is}
use Rattle.term_core.proofs.Items.{drop_here}
use Rattle.rule_code.specs.Matching.{Opens, opened, passed, opens, test}
use Rattle.rule_code.specs.declared.tests.Test.{Test}

-- how far the opening is: what opens the patterns from slot k on, after the tests so far, opens the first patterns
abbrev pub IsOpening : List Tree → List Tree → ℕ → List Test → Type 0
IsOpening pats now k tests = (rest : List Test) (all : List Tree) → Opens now k rest all →
    Opens pats 0 (tests ++ rest) all

pub opening_begins : (pats now : List Tree) (tests : List Test) → now ≡ [] ++ pats → tests ≡ [] →
    IsOpening pats now 0 tests
opening_begins pats now tests e t rest all o = subst (λ ts. Opens pats 0 (ts ++ rest) all) (sym t)
    (subst (λ ps. Opens ps 0 rest all) e o)

pub opening_passes : (pats now : List Tree) (k n : ℕ) (tests : List Test) (p : Tree) →
    slice_get now k ≡ Some p → var n ≡ p → IsOpening pats now k tests → IsOpening pats now (k + 1) tests
opening_passes pats now k n tests p at is h rest all o =
    let e : k + 1 ≡ suc k = omega arith in
    h rest all (passed n (at ∙ ap Some (sym is)) (subst (λ z. Opens now z rest all) e o))

pub opening_opens : (pats now next : List Tree) (k f count : ℕ) (us : List Tree) (tests more : List Test)
    (p : Tree) → slice_get now k ≡ Some p → app f (trees_of us) ≡ p → count ≡ length us → next ≡ now ++ us →
    more ≡ tests ++ test k f count ∷ [] → IsOpening pats now k tests → IsOpening pats next (k + 1) more
opening_opens pats now next k f count us tests more p at is n e m h rest all o =
    let s : k + 1 ≡ suc k = omega arith in
    let o₁ : Opens (now ++ us) (suc k) rest all = subst (λ z. Opens (now ++ us) z rest all) s
    (subst (λ ps. Opens ps (k + 1) rest all) e o) in
    let o₂ : Opens pats 0 (tests ++ (test k f (length us) ∷ rest)) all = h (test k f (length us) ∷ rest) all
    (opens f us (at ∙ ap Some (sym is)) o₁) in
    let q : more ++ rest ≡ tests ++ (test k f (length us) ∷ rest) = ap (λ ts. ts ++ rest) m
    ∙ append_assoc tests (test k f count ∷ []) rest ∙ ap (λ z. tests ++ (test k f z ∷ rest)) n in
    subst (λ ts. Opens pats 0 ts all) (sym q) o₂

pub opening_ends : (pats now : List Tree) (k : ℕ) (tests : List Test) → length now ≤ k →
    IsOpening pats now k tests → Opens pats 0 tests now
opening_ends pats now k tests le h = subst (λ ts. Opens pats 0 ts now) (append-nil tests) (h [] now (opened le))

-- what is left to open
list_weight-append : (us vs : List Tree) → list_weight (us ++ vs) ≡ list_weight us + list_weight vs
list_weight-append [] vs = omega arith
list_weight-append (u ∷ us) vs = omega (arith, list_weight-append us vs)

drop_append : (now us : List Tree) (k : ℕ) → k ≤ length now → drop k (now ++ us) ≡ drop k now ++ us
drop_append now us zero le = refl
drop_append [] us (suc k) le = absurd (omega (arith, le))
drop_append (x ∷ now) us (suc k) le = drop_append now us k (omega (arith, le))

pub passes_falls : (now : List Tree) (k : ℕ) (p : Tree) → slice_get now k ≡ Some p →
    list_weight (drop (k + 1) now) < list_weight (drop k now)
passes_falls now k p at = omega (arith, ap list_weight (drop_here now k p at))

pub opens_falls : (now next : List Tree) (k f : ℕ) (us : List Tree) (p : Tree) → k < length now →
    slice_get now k ≡ Some p → app f (trees_of us) ≡ p → next ≡ now ++ us →
    list_weight (drop (k + 1) next) < list_weight (drop k now)
opens_falls now next k f us p lt at is e =
    omega (
      arith,
      ap list_weight (drop_here now k p at),
      ap weight is,
      list_weight_is us,
      ap (λ z. list_weight (drop (k + 1) z)) e,
      ap list_weight (drop_append now us (k + 1) (omega (arith, lt))),
      list_weight-append (drop (k + 1) now) us,
    )
