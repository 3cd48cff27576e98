-- Places and numbered equations are read in one way.
use Rattle.std.proofs.Common.{◌≡◌, ℕ, ◌<◌, List, [], ◌∷◌, ◌++◌, Bool, true, false, refl, codes, flat_map, arith}
use Rattle.std.specs.Fmt.{decimal}
use Rattle.std.specs.List.{AllByRecursion}
use Rattle.std.specs.Str.Parse.{AllDigits}
use Rattle.std.specs.Char.{digit_value}
use Rattle.std.proofs.lemmas.Str.Parse.{digit_from_value}
use Rattle.term_core.proofs.Items.{all_append}
use Rattle.clause_core.specs.declared.steps.Place.{Place}
use Rattle.proof_script.specs.Delimiters.{Run, AllRun, Stops}
use Rattle.proof_script.specs.Words.{equation_text, side_text, place_text}
use Rattle.proof_script.specs.Standing.{IsShort, Between, PlaceStands}
use Rattle.proof_script.proofs.Lists.{nil_cons, cons_nil, same_head, same_tail, run_one}
use Rattle.proof_script.proofs.Runs.{decimal_digits, decimal_run, decimal_same}

few_short : (low n : ℕ) → Between low 9999 n → IsShort n
few_short low n h = omega (arith, h.1)

-- a byte of a number
abbrev Digit : ℕ → Type 0
Digit c = digit_value c < 10

digit_all : (ds : List ℕ) → AllDigits 10 ds → AllByRecursion Digit ds
digit_all [] h = tt
digit_all (c ∷ ds) h = (h.0, digit_all ds h.1)

-- a dot is no digit
dot_stops : Digit 46 → ⊥
dot_stops h = let range = digit_from_value 46 h in omega (arith, range)

-- two numbers of at most nine digits, before no digit
pub number_reads : (m n : ℕ) (r s : List ℕ) → IsShort m → IsShort n → Stops Digit r → Stops Digit s →
    decimal m ++ r ≡ decimal n ++ s → (m ≡ n) × (r ≡ s)
number_reads m n r s h k x y e =
    let one = run_one Digit (decimal m) (decimal n) r s (digit_all (decimal m) (decimal_digits m h))
    (digit_all (decimal n) (decimal_digits n k)) x y e in
    (decimal_same m n h k one.text, one.rest)

differ : {c d : ℕ} {cs ds : List ℕ} → (c ≡ d → ⊥) → c ∷ cs ≡ d ∷ ds → ⊥
differ n e = n (same_head e)

pub record EquationSame (a b : Bool) (m n : ℕ) (r s : List ℕ) : Type 0 where
  pub kind : a ≡ b
  pub number : m ≡ n
  pub rest : r ≡ s

pub equation_reads : (a b : Bool) (m n : ℕ) (r s : List ℕ) → Between 1 9999 m → Between 1 9999 n →
    Stops Digit r → Stops Digit s → equation_text a m ++ r ≡ equation_text b n ++ s → EquationSame a b m n r s
equation_reads true true m n r s h k x y e = let p = number_reads m n r s (few_short 1 m h) (few_short 1 n k) x
    y (same_tail e) in record { kind = refl; number = p.0; rest = p.1 }
equation_reads false false m n r s h k x y e = let p = number_reads m n r s (few_short 1 m h) (few_short 1 n k)
    x y (same_tail e) in record { kind = refl; number = p.0; rest = p.1 }
equation_reads true false m n r s h k x y e = absurd (differ (λ q. omega (arith, q)) e)
equation_reads false true m n r s h k x y e = absurd (differ (λ q. omega (arith, q)) e)

-- the path's text
abbrev path_text : List ℕ → List ℕ
path_text path = flat_map (λ i. codes "." ++ decimal i) path

path_stops : (path : List ℕ) → Stops Digit (path_text path)
path_stops [] = tt
path_stops (i ∷ path) = dot_stops

path_reads : (p q : List ℕ) → AllByRecursion (Between 1 9) p → AllByRecursion (Between 1 9) q →
    path_text p ≡ path_text q → p ≡ q
path_reads [] [] h k e = refl
path_reads [] (j ∷ q) h k e = absurd (nil_cons e)
path_reads (i ∷ p) [] h k e = absurd (cons_nil e)
path_reads (i ∷ p) (j ∷ q) h k e =
    let one = number_reads i j (path_text p) (path_text q) (omega (arith, h.0.1)) (omega (arith, k.0.1))
    (path_stops p) (path_stops q) (same_tail e) in
    let d : i ≡ j = one.0 in
    let f : p ≡ q = path_reads p q h.1 k.1 one.1 in
    λ x. d x ∷ f x

pub record SideSame (a b : Bool) (r s : List ℕ) : Type 0 where
  pub side : a ≡ b
  pub rest : r ≡ s

pub side_reads : (a b : Bool) (r s : List ℕ) → side_text a ++ r ≡ side_text b ++ s → SideSame a b r s
side_reads true true r s e = record { side = refl; rest = same_tail e }
side_reads false false r s e = record { side = refl; rest = same_tail e }
side_reads true false r s e = absurd (differ (λ q. omega (arith, q)) e)
side_reads false true r s e = absurd (differ (λ q. omega (arith, q)) e)

pub place_same : (p q : Place) → PlaceStands p → PlaceStands q → place_text p ≡ place_text q → p ≡ q
place_same p q h k e =
    let one = equation_reads p.conclusion q.conclusion p.number q.number
    (46 ∷ (side_text p.left ++ path_text p.path)) (46 ∷ (side_text q.left ++ path_text q.path)) h.number
    k.number dot_stops dot_stops e in
    let two = side_reads p.left q.left (path_text p.path) (path_text q.path) (same_tail one.rest) in
    let way = path_reads p.path q.path h.path k.path two.rest in
    λ i. record { conclusion = one.kind i; number = one.number i; left = two.side i; path = way i }

pub equation_run : (a : Bool) (n : ℕ) → Between 1 9999 n → AllRun (equation_text a n)
equation_run true n h = (refl, decimal_run n (few_short 1 n h))
equation_run false n h = (refl, decimal_run n (few_short 1 n h))

pub side_run : (a : Bool) → AllRun (side_text a)
side_run true = (refl, tt)
side_run false = (refl, tt)

path_run : (p : List ℕ) → AllByRecursion (Between 1 9) p → AllRun (path_text p)
path_run [] h = tt
path_run (i ∷ p) h = (
  refl,
  all_append Run (decimal i) (path_text p) (decimal_run i (omega (arith, h.0.1)))
      (path_run p h.1),
)

pub place_run : (p : Place) → PlaceStands p → AllRun (place_text p)
place_run p h = all_append Run (equation_text p.conclusion p.number)
    (46 ∷ (side_text p.left ++ path_text p.path)) (equation_run p.conclusion p.number h.number) (
      refl,
      all_append Run (side_text p.left) (path_text p.path) (side_run p.left) (path_run p.path h.path),
    )
