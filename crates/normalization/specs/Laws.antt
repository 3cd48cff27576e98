-- Laws of chains of uses.
use Rattle.std.specs.Prelude.{◌≡◌, ℕ, ◌≤◌, List, length}
use Rattle.term_core.specs.Tree.{Tree}
use Rattle.spec_core.specs.declared.records.Spec.{Spec}
use Rattle.spec_core.specs.WellSorted.{IsWellSorted}
use Rattle.normalization.specs.declared.normal.Normal.{Normal}
use Rattle.normalization.specs.NormalForms.{IsNormal, Runs}
use Rattle.normalization.specs.Normals.{IsNormalizing}

-- a term has one normal form at most, by one chain, and no chain is longer
abbrev pub OneNormalForm : Type 0
OneNormalForm =
    (spec : Spec) (t u v : Tree) (ws xs : List (List ℕ × ℕ)) → IsWellSorted spec
    → Runs spec t ws v → IsNormal spec v → Runs spec t xs u
    → (length xs ≤ length ws) × (IsNormal spec u → (xs ≡ ws) × (u ≡ v))

-- a term has one answer at most for a budget: in particular it isn't both Done and Spent
abbrev pub OneAnswer : Type 0
OneAnswer =
    (spec : Spec) (t : Tree) (budget : ℕ) (a b : Normal) → IsWellSorted spec
    → IsNormalizing spec t budget a → IsNormalizing spec t budget b → a ≡ b
