-- A substitution with one variable assigned another term.
use Rattle.std.proofs.Common.{◌≡◌, ℕ, zero, suc, ◌+◌, List, [], ◌∷◌, refl, ap, arith}
use Rattle.term_core.specs.Tree.{Tree, var, instance}
use Rattle.std.specs.Prelude.{slice_index_or}

-- the entries from the variable k on, with the term at the place n from there; a place before it without an entry
-- gets its variable
abbrev pub assigned_from : ℕ → List Tree → ℕ → Tree → List Tree
assigned_from k [] zero t = t ∷ []
assigned_from k [] (suc n) t = var k ∷ assigned_from (suc k) [] n t
assigned_from k (x ∷ xs) zero t = t ∷ xs
assigned_from k (x ∷ xs) (suc n) t = x ∷ assigned_from (suc k) xs n t

abbrev pub assigned : List Tree → ℕ → Tree → List Tree
assigned xs n t = assigned_from 0 xs n t

at_place : (k : ℕ) (xs : List Tree) (n : ℕ) (t d : Tree) → slice_index_or (assigned_from k xs n t) n d ≡ t
at_place k [] zero t d = refl
at_place k [] (suc n) t d = at_place (suc k) [] n t d
at_place k (x ∷ xs) zero t d = refl
at_place k (x ∷ xs) (suc n) t d = at_place (suc k) xs n t d

other_place : (k : ℕ) (xs : List Tree) (n m : ℕ) (t : Tree) → (m ≡ n → ⊥) →
    slice_index_or (assigned_from k xs n t) m (var (k + m)) ≡ slice_index_or xs m (var (k + m))
other_place k [] zero zero t h = absurd (h refl)
other_place k [] zero (suc m) t h = refl
other_place k [] (suc n) zero t h = let e : k ≡ k + 0 = omega arith in ap (λ j. var j) e
other_place k [] (suc n) (suc m) t h =
    let e : suc k + m ≡ k + suc m = omega arith in
    rw e at (other_place (suc k) [] n m t (λ p. h (ap suc p)))
other_place k (x ∷ xs) zero zero t h = absurd (h refl)
other_place k (x ∷ xs) zero (suc m) t h = refl
other_place k (x ∷ xs) (suc n) zero t h = refl
other_place k (x ∷ xs) (suc n) (suc m) t h =
    let e : suc k + m ≡ k + suc m = omega arith in
    rw e at (other_place (suc k) xs n m t (λ p. h (ap suc p)))

pub assigned_here : (xs : List Tree) (n : ℕ) (t : Tree) → instance (assigned xs n t) (var n) ≡ t
assigned_here xs n t = at_place 0 xs n t (var n)

pub assigned_elsewhere : (xs : List Tree) (n m : ℕ) (t : Tree) → (m ≡ n → ⊥) →
    instance (assigned xs n t) (var m) ≡ instance xs (var m)
assigned_elsewhere xs n m t h = let e : 0 + m ≡ m = omega arith in rw e at (other_place 0 xs n m t h)
