-- Chains of uses within limits.
use Rattle.std.specs.Prelude.{◌≡◌, ◌≤◌, ℕ, List, Option, Some, None, length}
use Rattle.term_core.specs.Tree.{Tree}
use Rattle.spec_core.specs.declared.records.Spec.{Spec}
use Rattle.normalization.specs.NormalForms.{IsNormal, RunsWithin}
use Rattle.plain_proof.specs.Limits.{AreWithin}

-- the second term is the normal form of a side by this many uses, where each term after a use is
-- within the limits beside the other side
pub record IsSide (spec : Spec) (other t v : Tree) (count : ℕ) : Type 0 where
  pub uses : List (List ℕ × ℕ)
  pub runs : RunsWithin spec (λ u. AreWithin u other) t uses v
  pub normal : IsNormal spec v
  pub count_is : length uses ≡ count

-- the normal form by at most `budget` uses, or that there is none
abbrev pub HasSide : Spec → Tree → Tree → ℕ → Option (Tree × ℕ) → Type 0
HasSide spec other t budget (Some p) = IsSide spec other t p.0 p.1 × (p.1 ≤ budget)
HasSide spec other t budget None =
    (v : Tree) (count : ℕ) → IsSide spec other t v count → count ≤ budget → ⊥
