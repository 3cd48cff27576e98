-- What `normalize` answers.
use Rattle.std.specs.Prelude.{◌≡◌, ℕ, suc, ◌≤◌, List, length}
use Rattle.term_core.specs.Tree.{Tree}
use Rattle.spec_core.specs.declared.records.Spec.{Spec}
use Rattle.normalization.specs.declared.normal.Normal.{Normal}
use Rattle.normalization.specs.declared.normal.Normal.TheVariants.{Done, Spent}
use Rattle.normalization.specs.NormalForms.{IsNormal, Runs}

-- these uses lead to this normal form, within the budget; or there is a chain of more uses than the budget
abbrev pub IsNormalizing : Spec → Tree → ℕ → Normal → Type 0
IsNormalizing spec t budget (Done v uses) =
    Runs spec t uses v × IsNormal spec v × (length uses ≤ budget)
IsNormalizing spec t budget Spent =
    (uses : List (List ℕ × ℕ)) × (v : Tree) × Runs spec t uses v × (length uses ≡ suc budget)
