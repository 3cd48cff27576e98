-- The files that a store in memory holds.
use Rattle.std.specs.Prelude.{ℕ, List, [], Option, unwrap_or}
use Rattle.std.specs.Map.{lookup}
use Rattle.std.specs.Str.{bytes_eq}
use Rattle.io_core.specs.CallPlan.{CallPlan}

-- the bytes of the first file of the name
abbrev pub first_file : List (List ℕ × List ℕ) → List ℕ → Option (List ℕ)
first_file files name = lookup (bytes_eq name) files

-- the bytes of the first file of the name, and none if there is no such file
abbrev pub file_or_empty : List (List ℕ × List ℕ) → List ℕ → List ℕ
file_or_empty files name = unwrap_or (first_file files name) []

-- files with their names, and the names that were asked for
pub record HeldFiles : Type 0 where
  pub files : List (List ℕ × List ℕ)
  pub asked : List (List ℕ)

-- the same, if calls go by a plan
pub record PlannedFiles : Type 0 where
  pub files : List (List ℕ × List ℕ)
  pub asked : List (List ℕ)
  pub plan : CallPlan
