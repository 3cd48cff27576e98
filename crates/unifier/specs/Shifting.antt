-- Terms with their variables apart.
use Rattle.std.specs.Prelude.{ℕ, ◌+◌, ◌≤◌, ◌^◌}
use Rattle.term_core.specs.Tree.{Tree, Trees, var, app, none, some}
use Rattle.term_core.specs.Variables.{Occurs, OccursAny}

-- the term with the same number added to each variable
abbrev mutual
  pub shifted : ℕ → Tree → Tree
  shifted by (var n) = var (n + by)
  shifted by (app f ts) = app f (shifted_all by ts)

  pub shifted_all : ℕ → Trees → Trees
  shifted_all by none = none
  shifted_all by (some t ts) = some (shifted by t) (shifted_all by ts)

-- some variable's number would pass the last one of 32 bits
abbrev pub HasTooLarge : ℕ → Tree → Type 0
HasTooLarge by t = (n : ℕ) × Occurs n t × (2 ^ 32 ≤ n + by)

-- the same of one of several terms
abbrev pub HaveTooLarge : ℕ → Trees → Type 0
HaveTooLarge by ts = (n : ℕ) × OccursAny n ts × (2 ^ 32 ≤ n + by)
