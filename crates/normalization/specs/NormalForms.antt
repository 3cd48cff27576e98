-- Chains of leftmost-innermost uses, and normal forms.
use Rattle.std.specs.Prelude.{◌≡◌, ℕ, List, [], ◌∷◌}
use Rattle.term_core.specs.Tree.{Tree}
use Rattle.term_core.specs.Places.{IsAt}
use Rattle.spec_core.specs.declared.records.Spec.{Spec}
use Rattle.normalization.specs.Uses.{IsStuck}
use Rattle.normalization.specs.FirstUses.{IsFirstUse}

-- the left side of no unguarded rule matches at any place
abbrev pub IsNormal : Spec → Tree → Type 0
IsNormal spec t = (p : List ℕ) (s : Tree) → IsAt p t s → IsStuck spec s

-- the uses, each by its place and its rule, lead from the first term to the last, each being the leftmost-innermost one,
-- and each term after a use is allowed
abbrev pub RunsWithin : Spec → (Tree → Type 0) → Tree → List (List ℕ × ℕ) → Tree → Type 0
RunsWithin spec Allowed t [] v = v ≡ t
RunsWithin spec Allowed t (w ∷ ws) v =
    (u : Tree) × IsFirstUse spec t w.0 w.1 u × Allowed u × RunsWithin spec Allowed u ws v

abbrev pub Runs : Spec → Tree → List (List ℕ × ℕ) → Tree → Type 0
Runs spec t ws v = RunsWithin spec (λ _. Unit {0}) t ws v
