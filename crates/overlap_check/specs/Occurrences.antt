-- How often a variable occurs.
use Rattle.std.specs.Prelude.{ℕ}
use Rattle.term_core.specs.Tree.{Tree, Trees}
use Rattle.term_core.specs.Variables.{Occurs, OccursAny}
use Rattle.spec_core.specs.Linear.{OccursTwice, OccurTwice}
use Rattle.overlap_check.specs.declared.linearity.Frequency.{Frequency}
use Rattle.overlap_check.specs.declared.linearity.Frequency.TheVariants.{Never, Once, Twice}

-- how often the variable occurs in the term
abbrev pub IsTimes : ℕ → Tree → Frequency → Type 0
IsTimes n t Never = Occurs n t → ⊥
IsTimes n t Once = Occurs n t × (OccursTwice n t → ⊥)
IsTimes n t Twice = OccursTwice n t

-- and in the terms
abbrev pub AreTimes : ℕ → Trees → Frequency → Type 0
AreTimes n ts Never = OccursAny n ts → ⊥
AreTimes n ts Once = OccursAny n ts × (OccurTwice n ts → ⊥)
AreTimes n ts Twice = OccurTwice n ts
