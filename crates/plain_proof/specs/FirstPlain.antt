-- The first variable on which a goal has a plain proof.
use Rattle.std.specs.Prelude.{ℕ, ◌<◌, ◌≤◌, Option, Some, None}
use Rattle.term_core.specs.declared.ids.VarId.{VarId}
use Rattle.spec_core.specs.declared.records.Goal.{Goal}
use Rattle.spec_core.specs.declared.records.Spec.{Spec}
use Rattle.plain_proof.specs.PlainProofs.{IsPlain}

-- the goal has a plain proof of at most this length on its variable x
abbrev pub HasPlain : Spec → Goal → ℕ → ℕ → Type 0
HasPlain spec goal most x = (long : ℕ) × IsPlain spec goal x long × (long ≤ most)

-- x is the first variable, in the goal's own order, with such a proof; or no variable has one
abbrev pub IsFirstPlain : Spec → Goal → ℕ → Option VarId → Type 0
IsFirstPlain spec goal most (Some x) =
    HasPlain spec goal most x.0 × ((y : ℕ) → y < x.0 → HasPlain spec goal most y → ⊥)
IsFirstPlain spec goal most None = (y : ℕ) → HasPlain spec goal most y → ⊥
