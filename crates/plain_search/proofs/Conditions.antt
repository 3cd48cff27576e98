-- Conditions of a row that makes something are met.
use Rattle.std.proofs.Common.{◌≡◌, ◌⊎◌, inl, inr, [], ◌∷◌, refl}
use Rattle.std.specs.Prelude.{Result, Ok, Err}
use Rattle.spec_core.specs.declared.records.Equation.{Equation}
use Rattle.clause_core.specs.declared.answers.Children.{Children}
use Rattle.clause_core.specs.declared.answers.Why.{Why}
use Rattle.clause_core.specs.NumberedEquations.{EquationAt}
use Rattle.clause_core.proofs.OnePlace.{equation_one}

pub is_met : {A B : Type 0} (m : Children) (why : Why) → A ⊎ (B × (◌≡◌ {A = Result Children Why} (Ok m) (Err why))) → A
is_met m why (inl p) = p
is_met m why (inr (n, e)) = absurd (let q : ◌≡◌ {A = Result Children Why} (Ok m) (Err why) = e in cc)

-- the only equation of a list
abbrev pub only_equation : (e : Equation) → EquationAt (e ∷ []) 1
only_equation e = record { before = []; equation = e; after = []; is = refl; place = refl }

pub is_only : (e : Equation) (at : EquationAt (e ∷ []) 1) → at.equation ≡ e
is_only e at = (equation_one (e ∷ []) 1 at (only_equation e)).1
