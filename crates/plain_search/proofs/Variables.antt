-- The variables of terms by first occurrence: each occurs once, and there are few.
use Rattle.std.proofs.Common.{◌≡◌, ◌≢◌, ℕ, zero, suc, ◌≤◌, ◌==◌, List, [], ◌∷◌, Bool, true, false, not, cond, Some}
use Rattle.std.proofs.Common.{inl, inr, filter, length, refl, ap, sym, ◌∙◌, arith}
use Rattle.std.specs.Prelude.{slice_get}
use Rattle.std.specs.List.{AllByRecursion}
use Rattle.std.proofs.lemmas.List.{length-append}
use Rattle.std.proofs.lemmas.Bool.Decides.{eqb_tells}
use Rattle.term_core.specs.Tree.{Tree, Trees, var, app, none, some, tree_size, sizes}
use Rattle.term_core.specs.Variables.{occurrences, occurrences_all, firsts}
use Rattle.term_core.proofs.Items.{all_at}

-- no number occurs twice
abbrev pub AreApart : List ℕ → Type 0
AreApart [] = Unit {0}
AreApart (n ∷ ns) = AllByRecursion (λ m. m ≢ n) ns × AreApart ns

others : (n m : ℕ) → not (m == n) ≡ true → m ≢ n
others n m h =
    elim (eqb_tells m n) as (λ _. m ≢ n) [
      | inl p ↦ (let q : false ≡ true = sym (ap not p.0) ∙ h in absurd (cc))
      | inr p ↦ p.1
    ]

-- what holds of all holds of those that a test lets through, and so does what the test tells
keep_all : (P : ℕ → Type 0) (n : ℕ) (ns : List ℕ) (b : Bool) → P n → AllByRecursion P ns →
    AllByRecursion P (cond b (n ∷ ns) ns)
keep_all P n ns true p h = (p, h)
keep_all P n ns false p h = h

all_filtered : (P : ℕ → Type 0) (test : ℕ → Bool) (ns : List ℕ) → AllByRecursion P ns →
    AllByRecursion P (filter test ns)
all_filtered P test [] h = tt
all_filtered P test (n ∷ ns) h = keep_all P n (filter test ns) (test n) h.0 (all_filtered P test ns h.1)

pass_more : (n m : ℕ) (ns : List ℕ) (b : Bool) → not (m == n) ≡ b → AllByRecursion (λ k. k ≢ n) ns →
    AllByRecursion (λ k. k ≢ n) (cond b (m ∷ ns) ns)
pass_more n m ns true e h = (others n m e, h)
pass_more n m ns false e h = h

all_pass : (n : ℕ) (ns : List ℕ) → AllByRecursion (λ m. m ≢ n) (filter (λ m. not (m == n)) ns)
all_pass n [] = tt
all_pass n (m ∷ ns) = pass_more n m (filter (λ k. not (k == n)) ns) (not (m == n)) refl (all_pass n ns)

keep_apart : (n : ℕ) (ns : List ℕ) (b : Bool) → AllByRecursion (λ m. m ≢ n) ns → AreApart ns →
    AreApart (cond b (n ∷ ns) ns)
keep_apart n ns true a h = (a, h)
keep_apart n ns false a h = h

apart_filtered : (test : ℕ → Bool) (ns : List ℕ) → AreApart ns → AreApart (filter test ns)
apart_filtered test [] h = tt
apart_filtered test (n ∷ ns) h = keep_apart n (filter test ns) (test n) (all_filtered (λ m. m ≢ n) test ns h.0)
    (apart_filtered test ns h.1)

pub firsts_apart : (ns : List ℕ) → AreApart (firsts ns)
firsts_apart [] = tt
firsts_apart (n ∷ ns) = (all_pass n (firsts ns), apart_filtered (λ m. not (m == n)) (firsts ns) (firsts_apart ns))

-- a number has one place
pub one_place : (ns : List ℕ) → AreApart ns → (i j x : ℕ) → slice_get ns i ≡ Some x → slice_get ns j ≡ Some x → i ≡ j
one_place [] h i j x p q = absurd (cc)
one_place (n ∷ ns) h zero zero x p q = refl
one_place (n ∷ ns) h zero (suc j) x p q =
    let a : Some n ≡ Some x = p in
    let e : x ≡ n = cc in
    absurd (all_at (λ m. m ≢ n) ns h.0 j x q e)
one_place (n ∷ ns) h (suc i) zero x p q =
    let a : Some n ≡ Some x = q in
    let e : x ≡ n = cc in
    absurd (all_at (λ m. m ≢ n) ns h.0 i x p e)
one_place (n ∷ ns) h (suc i) (suc j) x p q = let e = one_place ns h.1 i j x p q in omega (arith, e)

keep_few : (n k : ℕ) (ns : List ℕ) (b : Bool) → length ns ≤ k → length (cond b (n ∷ ns) ns) ≤ suc k
keep_few n k ns true h = omega arith
keep_few n k ns false h = omega arith

filter_few : (test : ℕ → Bool) (ns : List ℕ) → length (filter test ns) ≤ length ns
filter_few test [] = omega arith
filter_few test (n ∷ ns) = keep_few n (length ns) (filter test ns) (test n) (filter_few test ns)

firsts_few : (ns : List ℕ) → length (firsts ns) ≤ length ns
firsts_few [] = omega arith
firsts_few (n ∷ ns) = omega (arith, filter_few (λ m. not (m == n)) (firsts ns), firsts_few ns)

mutual
  occurrences_few : (t : Tree) → length (occurrences t) ≤ tree_size t
  occurrences_few (var n) = omega arith
  occurrences_few (app f ts) = omega (arith, occurrences_all_few ts)

  occurrences_all_few : (ts : Trees) → length (occurrences_all ts) ≤ sizes ts
  occurrences_all_few none = omega arith
  occurrences_all_few (some t ts) = omega (
    arith,
    length-append (occurrences t) (occurrences_all ts),
    occurrences_few t,
    occurrences_all_few ts,
  )

-- terms have no more variables than symbols and occurrences of variables
pub variables_few : (ts : Trees) → length (firsts (occurrences_all ts)) ≤ sizes ts
variables_few ts = omega (arith, firsts_few (occurrences_all ts), occurrences_all_few ts)
