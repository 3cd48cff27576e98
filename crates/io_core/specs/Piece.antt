-- What a sink holds, and what was appended to it.
use Rattle.std.specs.Prelude.{◌≡◌, ℕ, ◌≤◌, List, ◌++◌, Option, option_map, take, length}
use Rattle.io_core.specs.CallPlan.{CallPlan}

-- the bytes were appended, if the sink tells what was written
abbrev pub Appended : Option (List ℕ) → Option (List ℕ) → List ℕ → Type 0
Appended old new bytes = new ≡ option_map (λ w. w ++ bytes) old

-- some bytes from the front of the piece were appended
abbrev pub AppendedPrefix : Option (List ℕ) → Option (List ℕ) → List ℕ → Type 0
AppendedPrefix old new piece = (n : ℕ) × (n ≤ length piece) × Appended old new (take n piece)

-- what was written to a sink whose calls go by a plan
pub record PlannedBytes : Type 0 where
  pub bytes : List ℕ
  pub plan : CallPlan
