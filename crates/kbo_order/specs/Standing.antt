-- How two terms stand to each other, as far as one variable is counted.
use Rattle.std.specs.Prelude.{◌≡◌, ◌⊎◌, ℕ, ◌<◌, ◌≤◌, length}
use Rattle.term_core.specs.Tree.{Tree, Trees, var, app, none, some, list_of}
use Rattle.kbo_order.specs.Counted.{IsSum, IsSumOfAll}
use Rattle.kbo_order.specs.Weights.{weight_of, times}
use Rattle.kbo_order.specs.declared.compare.Pair.{Pair}
use Rattle.kbo_order.specs.declared.compare.Standing.{Standing}
use Rattle.kbo_order.specs.declared.compare.Standing.TheVariants.{Same, Greater, Neither}

-- x isn't more often in s, and t weighs more, or both weigh the same and their roots fall
abbrev pub FallsBy : (ℕ → ℕ) → ℕ → Tree → Tree → Type 0 → Type 0
FallsBy w x t s roots =
    (times x s ≤ times x t)
    × ((weight_of w s < weight_of w t) ⊎ ((weight_of w t ≡ weight_of w s) × roots))

abbrev mutual
  -- the heads fall, or the arguments
  pub RootsFallFor : (ℕ → ℕ) → ℕ → Tree → Tree → Type 0
  RootsFallFor w x (var y) s = ⊥
  RootsFallFor w x (app f ts) (var y) = ⊥
  RootsFallFor w x (app f ts) (app g ss) = (g < f) ⊎ ((f ≡ g) × ArgumentsFallFor w x ts ss)

  -- the first argument that differs is above its counterpart
  pub ArgumentsFallFor : (ℕ → ℕ) → ℕ → Trees → Trees → Type 0
  ArgumentsFallFor w x none ss = ⊥
  ArgumentsFallFor w x (some a ts) none = ⊥
  ArgumentsFallFor w x (some a ts) (some b ss) =
      ((length (list_of ts) ≡ length (list_of ss)) × FallsBy w x a b (RootsFallFor w x a b))
      ⊎ ((a ≡ b) × ArgumentsFallFor w x ts ss)

-- the first term is above the second, where w is the weight of symbols and x alone is counted
abbrev pub AboveFor : (ℕ → ℕ) → ℕ → Tree → Tree → Type 0
AboveFor w x t s = FallsBy w x t s (RootsFallFor w x t s)

-- both are the same, or they fall, or neither
abbrev pub Stands : Type 0 → Type 0 → Standing → Type 0
Stands same falls Same = same
Stands same falls Greater = falls
Stands same falls Neither = (same → ⊥) × (falls → ⊥)

abbrev pub TermsStand : (ℕ → ℕ) → ℕ → Tree → Tree → Standing → Type 0
TermsStand w x t s = Stands (t ≡ s) (AboveFor w x t s)

abbrev pub RootsStand : (ℕ → ℕ) → ℕ → Tree → Tree → Standing → Type 0
RootsStand w x t s = Stands (t ≡ s) (RootsFallFor w x t s)

abbrev pub ArgumentsStand : (ℕ → ℕ) → ℕ → Trees → Trees → Standing → Type 0
ArgumentsStand w x ts ss = Stands (ts ≡ ss) (ArgumentsFallFor w x ts ss)

-- the sums of two terms, and how they stand
abbrev pub IsPair : (ℕ → ℕ) → ℕ → Tree → Tree → Pair → Type 0
IsPair w x t s pair = IsSum w x t pair.first × IsSum w x s pair.second × TermsStand w x t s pair.standing

-- and those of two lists of arguments
abbrev pub IsPairOfLists : (ℕ → ℕ) → ℕ → Trees → Trees → Pair → Type 0
IsPairOfLists w x ts ss pair =
    IsSumOfAll w x ts pair.first × IsSumOfAll w x ss pair.second × ArgumentsStand w x ts ss pair.standing
