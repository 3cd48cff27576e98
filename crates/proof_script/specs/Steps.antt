-- The line of each step.
use Rattle.std.specs.Prelude.{[], ◌∷◌, true, false, codes}
use Rattle.clause_core.specs.declared.steps.Step.{Step}
use Rattle.clause_core.specs.declared.steps.Step.TheVariants.{Trivial, Match, Absurd, Subsume, ByLemma, Rule, Case}
use Rattle.clause_core.specs.declared.steps.Step.TheVariants.{Decompose, Clash, Drop, Solve, Cover, Generalize}
use Rattle.clause_core.specs.declared.steps.Step.TheVariants.{Context, Hyp, Lemma}
use Rattle.proof_script.specs.Words.{Line, name, number, variable, equation, place, side, term, terms, patterns}

abbrev pub step_line : Step → Line
step_line (Trivial k) =
    record { head = codes "trivial"; words = equation true k ∷ [] }
step_line (Match k j) =
    record { head = codes "match"; words = equation true k ∷ equation false j ∷ [] }
step_line (Absurd j) =
    record { head = codes "absurd"; words = equation false j ∷ [] }
step_line (Subsume node ts) =
    record { head = codes "subsume"; words = number node ∷ terms ts ∷ [] }
step_line (ByLemma goal ts) =
    record { head = codes "by-lemma"; words = name goal ∷ terms ts ∷ [] }
step_line (Rule p rule) =
    record { head = codes "rule"; words = place p ∷ number rule ∷ [] }
step_line (Case p rule) =
    record { head = codes "case"; words = place p ∷ number rule ∷ [] }
step_line (Decompose conclusion n) =
    record { head = codes "decompose"; words = equation conclusion n ∷ [] }
step_line (Clash k) =
    record { head = codes "clash"; words = equation true k ∷ [] }
step_line (Drop conclusion n) =
    record { head = codes "drop"; words = equation conclusion n ∷ [] }
step_line (Solve j) =
    record { head = codes "solve"; words = equation false j ∷ [] }
step_line (Cover x ps) =
    record { head = codes "cover"; words = variable x.0 ∷ patterns ps ∷ [] }
step_line (Generalize t) =
    record { head = codes "generalize"; words = term t ∷ [] }
step_line (Context p j left) =
    record { head = codes "context"; words = place p ∷ equation false j ∷ side left ∷ [] }
step_line (Hyp node ts p left) =
    record { head = codes "hyp"; words = number node ∷ terms ts ∷ place p ∷ side left ∷ [] }
step_line (Lemma goal ts p left) =
    record { head = codes "lemma"; words = name goal ∷ terms ts ∷ place p ∷ side left ∷ [] }
