-- Laws of plain proofs.
use Rattle.std.specs.Prelude.{◌≡◌, ℕ}
use Rattle.spec_core.specs.declared.records.Goal.{Goal}
use Rattle.spec_core.specs.declared.records.Spec.{Spec}
use Rattle.spec_core.specs.WellSorted.{IsWellSorted}
use Rattle.plain_proof.specs.PlainProofs.{IsPlain}

-- all plain proofs of a goal on one variable have one length
abbrev pub OneLength : Type 0
OneLength =
    (spec : Spec) (goal : Goal) (x m n : ℕ) → IsWellSorted spec → IsPlain spec goal x m
    → IsPlain spec goal x n → m ≡ n
