-- The headings of the cases of a split, as texts of a page.
use Rattle.std.specs.Prelude.{ℕ, ◌+◌, false, List, [], ◌∷◌, Option, Some, None, codes, drop, slice_get}
use Rattle.std.specs.Fmt.{decimal}
use Rattle.term_core.specs.Tree.{Tree}
use Rattle.spec_core.specs.declared.records.Equation.{Equation}
use Rattle.spec_core.specs.Sig.{Sig}
use Rattle.spec_core.specs.TermText.{variable_text}
use Rattle.clause_core.specs.declared.clauses.Clause.{Clause}
use Rattle.clause_core.specs.declared.steps.Step.{Step}
use Rattle.clause_core.specs.declared.steps.Step.TheVariants.{Cover}
use Rattle.page_core.specs.Events.{Event}
use Rattle.proof_words.specs.ClauseEvents.{equations_events}
use Rattle.proof_words.specs.ListEvents.{plain}
use Rattle.proof_words.specs.TermEvents.{side_events}

-- `part n` of the child at this place
abbrev pub part_events : ℕ → List Event
part_events place = plain (codes "part ") ∷ plain (decimal (place + 1)) ∷ []

-- `x = p`, where the pattern's variables have names of their own
abbrev pub pattern_events :
    Sig → List (List ℕ) → List (List ℕ) → ℕ → ℕ → Option Tree → List Event
pattern_events sig names pattern_names place n None = part_events place
pattern_events sig names pattern_names place n (Some p) =
    plain (variable_text (slice_get names n) n) ∷ plain (codes " = ")
    ∷ side_events sig pattern_names None p

-- the premises that a child has beyond those of its parent
abbrev pub premise_events : Sig → List (List ℕ) → ℕ → List Equation → List Event
premise_events sig names place [] = part_events place
premise_events sig names place (e ∷ es) = equations_events sig names None false (e ∷ es)

module _ (sig : Sig) (names pattern_names child_names : List (List ℕ)) (premises : ℕ) where
  -- the heading of the child at this place, from 0 on, of a step at a node with these names and as
  -- many premises
  abbrev pub case_events : Step → ℕ → Clause → List Event
  case_events (Cover variable patterns) place child =
      pattern_events sig names pattern_names place variable.0 (slice_get patterns place)
  case_events step place child =
      premise_events sig child_names place (drop premises child.premises)
