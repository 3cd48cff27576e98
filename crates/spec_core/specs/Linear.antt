-- Left sides in which no variable occurs twice.
use Rattle.std.specs.Prelude.{◌≡◌, ◌⊎◌, ℕ, Some, slice_get}
use Rattle.term_core.specs.Tree.{Tree, Trees, var, app, none, some}
use Rattle.spec_core.specs.declared.records.Rule.{Rule}
use Rattle.spec_core.specs.declared.records.Spec.{Spec}
use Rattle.term_core.specs.Variables.{Occurs, OccursAny}

-- the variable occurs at two places of the term, or more
abbrev mutual
  pub OccursTwice : ℕ → Tree → Type 0
  OccursTwice n (var m) = ⊥
  OccursTwice n (app f ts) = OccurTwice n ts

  pub OccurTwice : ℕ → Trees → Type 0
  OccurTwice n none = ⊥
  OccurTwice n (some t ts) = OccursTwice n t ⊎ ((Occurs n t × OccursAny n ts) ⊎ OccurTwice n ts)

abbrev pub IsLinear : Tree → Type 0
IsLinear t = (n : ℕ) → OccursTwice n t → ⊥

abbrev pub LeftSidesAreLinear : Spec → Type 0
LeftSidesAreLinear spec =
    (k : ℕ) (rule : Rule) → slice_get spec.rules k ≡ Some rule → IsLinear rule.left
