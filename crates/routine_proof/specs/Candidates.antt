-- Candidates for the step of a node: a step, or a step for each list of terms that answers a
-- question, with what is asked of the relations.
use Rattle.std.specs.Prelude.{◌≡◌, ◌⊎◌, List, [], ◌∷◌, flat_map}
use Rattle.std.specs.List.{AllByRecursion}
use Rattle.term_core.specs.Tree.{Tree}
use Rattle.clause_core.specs.declared.answers.Child.{Child}
use Rattle.clause_core.specs.declared.answers.Children.{Children}
use Rattle.clause_core.specs.declared.answers.Reference.{Reference}
use Rattle.clause_core.specs.declared.clauses.Relation.TheVariants.{Less, Same}
use Rattle.clause_core.specs.declared.steps.Step.{Step}
use Rattle.fitting_lists.specs.Questions.{Question, Answers}
use Rattle.routine_proof.specs.declared.moves.Move.{Move}

-- what is asked of the relations beyond the table of steps
pub data Asks : Type 0 where
  nothing : Asks
  reference_not_neither : Asks
  all_less : Asks

abbrev pub Meets : Asks → Children → Type 0
Meets nothing made = Unit {0}
Meets reference_not_neither made =
    AllByRecursion (λ (r : Reference). (r.relation ≡ Less) ⊎ (r.relation ≡ Same)) made.refs
Meets all_less made =
    AllByRecursion (λ (d : Child). d.relation ≡ Less) made.clauses
    × AllByRecursion (λ (r : Reference). r.relation ≡ Less) made.refs

-- a step for each list that answers
pub record Candidate : Type 0 where
  pub question : Question
  pub step : List Tree → Step
  pub asks : Asks

-- one step, of which nothing is asked
abbrev pub certain : Step → List Candidate
certain step =
    record {
      question = record { variables = 0; patterns = []; terms = [] };
      step = λ list. step;
      asks = nothing;
    }
    ∷ []

-- the candidates of the first item, then those of the second, and so on
unfoldable pub each : {A B : Type 0} → List A → (A → List B) → List B
each xs f = flat_map f xs

-- at a node where the table says this of steps, the move is the candidate's step for a list that
-- answers, with what the table defines, and its relations are those that are asked for
pub record Gives (says : Step → Children → Type 0) (candidate : Candidate) (move : Move) :
    Type 0 where
  pub list : List Tree
  pub answers : Answers candidate.question list
  pub step : move.step ≡ candidate.step list
  pub defined : says move.step move.made
  pub meets : Meets candidate.asks move.made
