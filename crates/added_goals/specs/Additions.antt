-- Specifications with further goals.
use Rattle.std.specs.Prelude.{◌≡◌, ◌⊎◌, List, [], ◌∷◌}
use Rattle.spec_core.specs.declared.records.Goal.{Goal}
use Rattle.spec_core.specs.declared.records.Spec.{Spec}

-- the old goals are among the new ones, each as it was and in their order: the next new goal is the next old
-- one, or it is a further goal
abbrev pub AreKept : List Goal → List Goal → Type 0
AreKept [] new = Unit {0}
AreKept (goal ∷ old) [] = ⊥
AreKept (goal ∷ old) (next ∷ new) =
    ((next ≡ goal) × AreKept old new) ⊎ AreKept (goal ∷ old) new

-- the new specification is the old one with further goals
pub record AddsGoals (old new : Spec) : Type 0 where
  pub signature : new.sig ≡ old.sig
  pub order : new.order ≡ old.order
  pub rules : new.rules ≡ old.rules
  pub goals : AreKept old.goals new.goals
