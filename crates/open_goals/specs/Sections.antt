-- What is shown of a goal, by what is claimed of it.
use Rattle.std.specs.Prelude.{◌≡◌, ℕ, List, codes}
use Rattle.term_core.specs.Tree.{Tree}
use Rattle.spec_core.specs.declared.records.Goal.{Goal}
use Rattle.spec_core.specs.declared.records.Spec.{Spec}
use Rattle.clause_core.specs.declared.reports.Outcome.{Outcome}
use Rattle.clause_core.specs.declared.reports.Outcome.TheVariants.{Proved, Refuted, Open}
use Rattle.page_core.specs.Events.{Event}
use Rattle.page_core.specs.Pages.{PageValue, after}
use Rattle.open_goals.specs.declared.stops.OpenStart.{OpenStart}
use Rattle.open_goals.specs.Stops.{AreOpenStarts}
use Rattle.open_goals.specs.Words.{line_events, open_events}

-- what comes to a page are events of which this holds
abbrev pub Draws : PageValue → PageValue → (List Event → Type 0) → Type 0
Draws old new P = (events : List Event) × P events × (new ≡ after old events)

-- over these goals as lemmas
module _ (above : Tree → Tree → Type 0) (spec : Spec) (lemmas : List ℕ) (goal : Goal) where
  -- A line for a goal that is proved or refuted. One that is left open has starts, of which each is shown
  -- with nodes at which the routine strategy stops.
  abbrev pub IsGoalShown : Outcome → List Event → Type 0
  IsGoalShown (Proved block) events = events ≡ line_events goal (codes ": proved")
  IsGoalShown (Refuted index values) events = events ≡ line_events goal (codes ": refuted")
  IsGoalShown (Open budget) events =
      (starts : List OpenStart) × AreOpenStarts above spec lemmas goal starts
      × (events ≡ open_events spec goal budget starts)
