-- How a page shows that a goal fails under values.
use Rattle.std.specs.Prelude.{◌≡◌, ℕ, ◌+◌, Bool, true, false, List, [], ◌∷◌, ◌++◌, None, codes, flat_map, length}
use Rattle.std.specs.Fmt.{decimal}
use Rattle.term_core.specs.Tree.{Tree, instance}
use Rattle.spec_core.specs.declared.records.Equation.{Equation}
use Rattle.spec_core.specs.declared.records.Goal.{Goal}
use Rattle.spec_core.specs.declared.records.Spec.{Spec}
use Rattle.spec_core.specs.Sig.{Sig}
use Rattle.acceptance.specs.Accepting.{NamedValues, names_in, values_in}
use Rattle.ground_eval.specs.Evals.{IsEval}
use Rattle.ground_eval.specs.declared.answers.Eval.{Eval}
use Rattle.page_core.specs.Events.{Event, within}
use Rattle.page_core.specs.declared.parts.Part.TheVariants.{Value}
use Rattle.proof_words.specs.ListEvents.{plain}
use Rattle.proof_words.specs.ClauseEvents.{equation_events}
use Rattle.proof_words.specs.StepEvents.{equation_name}
use Rattle.report_pages.specs.Lists.{AreShown}
use Rattle.report_pages.specs.Values.{variable_events, IsComparison}

-- the equation as it is written, after its number
abbrev pub stated_events : Sig → NamedValues → Bool → ℕ → Equation → List Event
stated_events sig values conclusion number e =
    plain (equation_name conclusion) ∷ plain (decimal number) ∷ plain (codes ": ")
    ∷ equation_events sig (names_in values) None conclusion number e

module _ (spec : Spec) (steps : ℕ) (values : NamedValues) where
  -- the side under the values gives this within the steps, by evaluation
  abbrev pub SideIsEval : Tree → Eval → Type 0
  SideIsEval side found = IsEval spec (instance (values_in values) side) steps found

  -- these events say what the sides of the equation give under the values
  abbrev pub SidesAreCompared : Equation → List Event → Type 0
  SidesAreCompared e events =
      (left : Eval) × (right : Eval) × SideIsEval e.left left × SideIsEval e.right right
      × IsComparison spec.sig steps left right events

  -- a line with the equation of this number, and one with what its sides give
  abbrev pub IsEquationShown : Bool → ℕ → Equation → List Event → Type 0
  IsEquationShown conclusion number e events =
      (compared : List Event) × SidesAreCompared e compared
      × (events ≡ within Value (stated_events spec.sig values conclusion number e) ++ within Value compared)

  -- the equations are shown, numbered from 1
  abbrev pub AreEquationsShown : Bool → List Equation → List Event → Type 0
  AreEquationsShown conclusion es events =
      AreShown (λ before e shown. IsEquationShown conclusion (length before + 1) e shown) [] es events

  -- the values of the variables, then the premises, then the conclusions
  abbrev pub IsRefutationShown : Goal → List Event → Type 0
  IsRefutationShown goal events =
      (premises : List Event) × (conclusions : List Event) × AreEquationsShown false goal.premises premises
      × AreEquationsShown true goal.conclusions conclusions
      × (events ≡ flat_map (variable_events spec.sig) values ++ (premises ++ conclusions))
