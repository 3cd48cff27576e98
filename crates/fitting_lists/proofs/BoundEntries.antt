-- Entries of variables where the first ones, and no others, have theirs.
use Rattle.std.proofs.Common.{◌≡◌, ◌↔◌, ℕ, zero, suc, ◌<◌, List, [], ◌∷◌, Option, Some, None, true, false, map, length}
use Rattle.std.proofs.Common.{refl, ap, sym, ◌∙◌, arith}
use Rattle.std.specs.Option.{IsSome}
use Rattle.term_core.specs.Tree.{Tree}
use Rattle.substitutions.specs.Substitution.{entry}
use Rattle.matching.specs.Bindings.{present}

-- the terms as entries of the first variables
abbrev pub filled : List Tree → List (Option Tree)
filled terms = map (λ (t : Tree). Some t) terms

no_terms : (ts : List Tree) → length ts ≡ 0 → (n : ℕ) → entry (filled ts) n ≡ None
no_terms [] e n = refl
no_terms (t ∷ ts) e n = absurd (omega arith)

none_there : (o : Option Tree) → (IsSome o → ⊥) → o ≡ None
none_there None h = refl
none_there (Some t) h = absurd (h refl)

-- the variables below this number, and no others, have entries
abbrev pub AreBound : List (Option Tree) → ℕ → Type 0
AreBound entries count = (n : ℕ) → IsSome (entry entries n) ↔ (n < count)

-- the entries are as many terms
abbrev pub AreTerms : List (Option Tree) → ℕ → Type 0
AreTerms entries count =
    (length (present entries) ≡ count)
    × ((n : ℕ) → entry entries n ≡ entry (filled (present entries)) n)

one_more :
    (t : Tree) (entries : List (Option Tree)) (count : ℕ) → AreTerms entries count →
    AreTerms (Some t ∷ entries) (suc count)
one_more t entries count rest = (ap (λ k. suc k) rest.0, same)
  where
    same : (n : ℕ) → entry (Some t ∷ entries) n ≡ entry (filled (t ∷ present entries)) n
    same zero = refl
    same (suc n) = rest.1 n

no_more :
    (entries : List (Option Tree)) → AreBound (None ∷ entries) 0 → AreTerms entries 0 →
    AreTerms (None ∷ entries) 0
no_more entries h rest =
    (rest.0, λ n. none n ∙ sym (no_terms (present entries) rest.0 n))
  where
    none : (n : ℕ) → entry (None ∷ entries) n ≡ None
    none n = none_there (entry (None ∷ entries) n) (λ i. omega (arith, (h n).0 i))

pub all_there :
    (entries : List (Option Tree)) (count : ℕ) → AreBound entries count → AreTerms entries count
all_there [] zero h = (refl, λ n. refl)
all_there [] (suc count) h =
    absurd (let e : IsSome (entry [] 0) = (h 0).1 (omega arith) in let q : false ≡ true = e in cc)
all_there (Some t ∷ entries) zero h = absurd (omega (arith, (h 0).0 refl))
all_there (Some t ∷ entries) (suc count) h =
    one_more t entries count (all_there entries count (λ n.
    (λ i. omega (arith, (h (suc n)).0 i), λ lt. (h (suc n)).1 (omega arith))))
all_there (None ∷ entries) (suc count) h =
    absurd (
    let e : IsSome (entry (None ∷ entries) 0) = (h 0).1 (omega arith) in
    let q : false ≡ true = e in
    cc)
all_there (None ∷ entries) zero h =
    no_more entries h (all_there entries zero (λ n.
    (λ i. absurd (omega (arith, (h (suc n)).0 i)), λ lt. absurd (omega arith))))
