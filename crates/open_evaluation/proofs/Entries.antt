-- Lists of entries that are chosen number by number.
use Rattle.std.proofs.Common.{◌≡◌, ℕ, zero, suc, ◌<◌, List, [], ◌∷◌, refl, arith, get_or}
use Rattle.std.specs.Prelude.{length}
use Rattle.std.specs.List.{AllByRecursion}
use Rattle.std.proofs.lemmas.List.Elements.{recursion_from_All}
use Rattle.term_core.specs.Tree.{Tree}

-- n entries, each of which is as P says of its number
pub record Entries (n : ℕ) (P : ℕ → Tree → Type 0) : Type 0 where
  pub items : List Tree
  pub long : length items ≡ n
  pub each : (k : ℕ) (d : Tree) → k < n → P k (get_or items k d)

-- if there is one for each number, there is a list of them
pub choose : (n : ℕ) (P : ℕ → Tree → Type 0) → ((k : ℕ) → k < n → (x : Tree) × P k x) → Entries n P
choose zero P h = record { items = []; long = refl; each = λ k d w. absurd (omega arith) }
choose (suc n) P h =
    let first = h 0 (omega arith) in
    let rest = choose n (λ k x. P (suc k) x) (λ k w. h (suc k) (omega arith)) in
    record { items = first.0 ∷ rest.items; long = omega (arith, rest.long); each = at first rest }
  where
    at : (first : (x : Tree) × P 0 x) (rest : Entries n (λ k x. P (suc k) x)) (k : ℕ) (d : Tree) → k < suc n →
        P k (get_or (first.0 ∷ rest.items) k d)
    at first rest zero d w = first.1
    at first rest (suc k) d w = rest.each k d (omega arith)

pub all_entries : (n : ℕ) (P : ℕ → Tree → Type 0) (Q : Tree → Type 0) (entries : Entries n P) →
    ((k : ℕ) (x : Tree) → P k x → Q x) → AllByRecursion Q entries.items
all_entries n P Q entries h = recursion_from_All Q entries.items
    (λ k d w. h k (get_or entries.items k d) (entries.each k d (omega (arith, entries.long))))
