-- Numbers that increase.
use Rattle.std.proofs.Common.{◌<◌, ◌+◌, ℕ, List, [], ◌∷◌, ◌++◌, arith}
use Rattle.std.specs.Prelude.{All}
use Rattle.std.specs.List.Sorted.{IsStrictlyIncreasing}
use Rattle.std.proofs.lemmas.Grind.{common_steps}
use Rattle.std.proofs.lemmas.List.{map-append}
use Rattle.std.proofs.lemmas.List.Elements.{All-push, All-weaker}
use Rattle.term_core.specs.declared.ids.SymId.{SymId}
use Rattle.term_classes.specs.Scopes.{numbers_of}

-- a number above all others goes after them
increasing-append : (xs : List ℕ) (x : ℕ) → All (λ n. n < x) xs → IsStrictlyIncreasing xs
    → IsStrictlyIncreasing (xs ++ x ∷ [])
increasing-append xs x below ordered k h = grind (arith, common_steps, below k 0, ordered k)

-- the same of symbols
pub increasing-push : (fs : List SymId) (f : SymId) → All (λ n. n < f.0) (numbers_of fs)
    → IsStrictlyIncreasing (numbers_of fs) → IsStrictlyIncreasing (numbers_of (fs ++ f ∷ []))
increasing-push fs f below ordered =
    rw (map-append {A = SymId} {B = ℕ}) (increasing-append (numbers_of fs) f.0 below ordered)

-- all are below the next number
pub below-push : (fs : List SymId) (f : SymId) → All (λ n. n < f.0) (numbers_of fs)
    → All (λ n. n < f.0 + 1) (numbers_of (fs ++ f ∷ []))
below-push fs f below =
    let wider = All-weaker (λ n. n < f.0) (λ n. n < f.0 + 1) (λ n h. omega arith) (numbers_of fs) below in
    let last : f.0 < f.0 + 1 = omega arith in
    rw (map-append {A = SymId} {B = ℕ})
    (All-push (λ n. n < f.0 + 1) (numbers_of fs) f.0 wider last)
