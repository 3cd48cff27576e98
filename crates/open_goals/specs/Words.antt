-- What is shown of goals, as texts of a page.
use Rattle.std.specs.Prelude.{ℕ, ◌==◌, List, [], ◌∷◌, ◌++◌, Bool, true, false, Option, Some, None, codes, slice_get}
use Rattle.std.specs.Prelude.{if◌then◌else◌}
use Rattle.std.specs.Fmt.{decimal}
use Rattle.std.specs.List.{flat_map}
use Rattle.term_core.specs.Tree.{Tree}
use Rattle.term_core.specs.declared.ids.VarId.{VarId}
use Rattle.spec_core.specs.declared.records.Equation.{Equation}
use Rattle.spec_core.specs.declared.records.Goal.{Goal}
use Rattle.spec_core.specs.declared.records.Spec.{Spec}
use Rattle.spec_core.specs.Sig.{Sig}
use Rattle.spec_core.specs.TermText.{variable_text}
use Rattle.clause_core.specs.declared.clauses.Clause.{Clause}
use Rattle.clause_core.specs.declared.reports.Budget.{Budget}
use Rattle.page_core.specs.Events.{Event, within}
use Rattle.page_core.specs.declared.parts.Part.TheVariants.{Case, GoalHeading, GoalLine, Note, Step}
use Rattle.proof_words.specs.ClauseEvents.{clause_events}
use Rattle.proof_words.specs.GoalEvents.{goal_events, goal_names}
use Rattle.proof_words.specs.ListEvents.{plain}
use Rattle.proof_words.specs.TermEvents.{side_events}
use Rattle.proof_search.specs.declared.stuck.Cause.{Cause}
use Rattle.proof_search.specs.declared.stuck.Cause.TheVariants.{NoStep, Covers}
use Rattle.open_goals.specs.declared.gaps.Gap.{Gap}
use Rattle.open_goals.specs.declared.gaps.Gap.TheVariants.{Says, Lacks, NotBelow, TooLarge}
use Rattle.open_goals.specs.declared.near.Near.{Near}
use Rattle.open_goals.specs.declared.near.Source.{Source}
use Rattle.open_goals.specs.declared.near.Source.TheVariants.{Hypothesis, Lemma}
use Rattle.open_goals.specs.declared.stops.OpenStart.{OpenStart}
use Rattle.open_goals.specs.declared.stops.Stop.{Stop}

-- the name of the goal with a number, and nothing for a number that no goal has
abbrev pub name_of : Option Goal → List ℕ
name_of None = []
name_of (Some goal) = goal.name

abbrev pub lemma_events : List Goal → ℕ → List Event
lemma_events goals number =
    plain (codes "lemma ") ∷ plain (name_of (slice_get goals number)) ∷ []

abbrev pub source_events : List Goal → Source → List Event
source_events goals Hypothesis = plain (codes "the goal as hypothesis") ∷ []
source_events goals (Lemma number) = lemma_events goals number

module _ (sig : Sig) (names : List (List ℕ)) where
  abbrev pub term_events : Tree → List Event
  term_events t = side_events sig names None t

  abbrev pub equation_events : Equation → List Event
  equation_events e = term_events e.left ++ plain (codes " = ") ∷ term_events e.right

  abbrev pub variable_events : VarId → List Event
  variable_events v = plain (variable_text (slice_get names v.0) v.0) ∷ []

  -- that a premise is missing
  abbrev pub premise_events : Equation → List Event
  premise_events e =
      plain (codes ", but its premise ")
      ∷ (equation_events e ++ plain (codes " isn't among the premises here") ∷ [])

  -- where a side fits, and the other one, with texts between and behind
  abbrev pub fit_events : Tree → List ℕ → Tree → List ℕ → List Event
  fit_events term between other behind =
      plain (codes " fits at ")
      ∷ (term_events term ++ plain between ∷ (term_events other ++ plain behind ∷ []))

  abbrev pub says_events : Equation → List Event
  says_events premise = plain (codes " says the conclusion") ∷ premise_events premise

  abbrev pub lacks_events : Tree → Equation → List Event
  lacks_events term premise =
      plain (codes " fits at ") ∷ (term_events term ++ premise_events premise)

  abbrev pub gap_events : Gap → List Event
  gap_events (Says premise) = says_events premise
  gap_events (Lacks term premise) = lacks_events term premise
  gap_events (NotBelow term other) =
      fit_events term (codes ", but ") other (codes " isn't below it in the order")
  gap_events (TooLarge term other) =
      fit_events term (codes ", but its other side, ") other (codes ", is too large beside this clause")

  -- that no entry gives a step, or that the first one that does splits this variable
  abbrev pub cause_events : Cause → Option VarId → List Event
  cause_events NoStep next = plain (codes "no step is possible") ∷ []
  cause_events Covers None = plain (codes "the next step would be a further split") ∷ []
  cause_events Covers (Some v) =
      plain (codes "the next step would be a further split, of ") ∷ variable_events v

  -- that the variable is split first
  abbrev pub first_events : VarId → List Event
  first_events v = plain (codes "split ") ∷ (variable_events v ++ plain (codes " first: ") ∷ [])

  abbrev pub split_events : Option VarId → List Event
  split_events None = plain (codes "no split first: ") ∷ []
  split_events (Some v) = first_events v

-- `1 node`, or `n nodes`
abbrev pub node_word : ℕ → List ℕ
node_word n = if n == 1 then codes " node" else codes " nodes"

abbrev pub cut_events : Bool → List Event
cut_events true = plain (codes "; a greater --nodes has more") ∷ []
cut_events false = []

-- what is near at a node, whose variables have these names
abbrev pub near_events : List Goal → Sig → List (List ℕ) → Near → List Event
near_events goals sig names near =
    within Step (source_events goals near.source ++ gap_events sig names near.gap)

abbrev pub place_events : Sig → List (List ℕ) → Clause → List Event
place_events sig names clause =
    within Note (plain (codes "stops at ") ∷ clause_events sig names None clause)

-- a node: its clause, and why the strategy stops there
abbrev pub node_events : Sig → List (List ℕ) → Stop → List Event
node_events sig names stop =
    place_events sig names stop.stuck.clause
    ++ within Step (cause_events sig names stop.stuck.cause stop.next)

module _ (spec : Spec) where
  abbrev pub stop_events : Stop → List Event
  stop_events stop =
      within Case
      (node_events spec.sig stop.names.items stop
      ++ flat_map (near_events spec.goals spec.sig stop.names.items) stop.nears.items)

  -- a start of a goal whose variables have these names: how it begins, how many nodes it has, and some of
  -- those at which it stops
  abbrev pub start_events : List (List ℕ) → OpenStart → List Event
  start_events names start =
      within Case
      (within Note
      (split_events spec.sig names start.split
      ++ plain (decimal start.nodes) ∷ plain (node_word start.nodes) ∷ cut_events start.cut)
      ++ flat_map stop_events start.stops.items)

  abbrev pub starts_events : Goal → List OpenStart → List Event
  starts_events goal starts = flat_map (start_events (goal_names goal)) starts

-- `goal NAME` and how its claim ends
abbrev pub line_events : Goal → List ℕ → List Event
line_events goal ending = within GoalLine (plain (codes "goal ") ∷ plain goal.name ∷ plain ending ∷ [])

-- `goal NAME : CLAUSE`
abbrev pub heading_events : Sig → Goal → List Event
heading_events sig goal =
    within GoalHeading (plain (codes "goal ") ∷ plain goal.name ∷ plain (codes " : ") ∷ goal_events sig goal)

-- which further substitutions there are
abbrev pub further : Bool → List ℕ
further true = codes "; a greater --tries has more"
further false = codes "; a greater --depth has more"

-- how far the goal was tried
abbrev pub tried_events : Budget → List Event
tried_events budget =
    plain (codes "open after ") ∷ plain (decimal budget.tried)
    ∷ plain (codes " substitutions up to depth ") ∷ plain (decimal budget.depth) ∷ []

abbrev pub open_note : Budget → List Event
open_note budget = within Note (tried_events budget ++ plain (further budget.cut) ∷ [])

-- an open goal: its clause, how far it was tried, and its starts
abbrev pub open_events : Spec → Goal → Budget → List OpenStart → List Event
open_events spec goal budget starts =
    heading_events spec.sig goal ++ (open_note budget ++ starts_events spec goal starts)
