-- What the test of a pair of normal forms answers.
use Rattle.std.specs.Prelude.{◌≡◌, ℕ, ◌<◌, List, Bool, true, false}
use Rattle.term_core.specs.Tree.{Tree, trees_of}
use Rattle.term_core.specs.declared.ids.SortId.{SortId}
use Rattle.spec_core.specs.declared.records.Equation.{Equation}
use Rattle.spec_core.specs.Sig.{Sig}
use Rattle.plain_proof.specs.declared.closing.Closing.{Closing}
use Rattle.plain_proof.specs.declared.closing.Closing.TheVariants.{Open, ByInstance, Closed}
use Rattle.plain_proof.specs.Closings.{Closes, ClosesAll}

-- the answer closes a case after this many uses of rules
abbrev pub Suffices : Closing → ℕ → Type 0
Suffices Closed uses = Unit {0}
Suffices ByInstance uses = 0 < uses
Suffices Open uses = ⊥

module _ (sig : Sig) (ctx : List SortId) (e : Equation) (over : List SortId) where
  -- the pair closes, and by an instance not without a stripping; or it closes by an instance alone;
  -- or it doesn't close
  abbrev pub IsClosing : Tree → Tree → Closing → Type 0
  IsClosing a b Closed = (s : ℕ) × (i : ℕ) × Closes sig ctx e over a b s i × (0 < i → 0 < s)
  IsClosing a b ByInstance =
      Closes sig ctx e over a b 0 1
      × ((s i : ℕ) → Closes sig ctx e over a b s i → (s ≡ 0) × (i ≡ 1))
  IsClosing a b Open = (s i : ℕ) → Closes sig ctx e over a b s i → ⊥

  -- all pairs close, or not
  abbrev pub AreClosing : List Tree → List Tree → Bool → Type 0
  AreClosing xs ys true =
      (s : ℕ) × (i : ℕ) × ClosesAll sig ctx e over (trees_of xs) (trees_of ys) s i
  AreClosing xs ys false =
      (s i : ℕ) → ClosesAll sig ctx e over (trees_of xs) (trees_of ys) s i → ⊥
