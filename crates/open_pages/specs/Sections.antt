-- What is shown of the goals that claims leave open.
use Rattle.std.specs.Prelude.{◌≡◌, ℕ, ◌&&◌, Bool, true, false, List, [], ◌++◌, Option}
use Rattle.term_core.specs.Tree.{Tree}
use Rattle.spec_core.specs.declared.records.Goal.{Goal}
use Rattle.spec_core.specs.declared.records.Spec.{Spec}
use Rattle.clause_core.specs.declared.reports.Claim.{Claim}
use Rattle.clause_core.specs.declared.reports.Outcome.{Outcome}
use Rattle.clause_core.specs.declared.reports.Outcome.TheVariants.{Proved, Refuted, Open}
use Rattle.claimed_goals.specs.Tracking.{AreProved}
use Rattle.command_line.specs.declared.bounds.SearchBounds.{SearchBounds}
use Rattle.page_core.specs.Events.{Event}
use Rattle.open_goals.specs.Sections.{IsGoalShown}
use Rattle.report_pages.specs.Claims.{IsGoalOf}
use Rattle.report_pages.specs.Lists.{AreShown, Where}
use Rattle.report_pages.specs.ReportPages.{is_asked}
use Rattle.open_pages.specs.Deeper.{IsDeeperShown}
use Rattle.open_pages.specs.Freer.{IsFreerShown}

abbrev pub is_open : Outcome → Bool
is_open (Proved block) = false
is_open (Refuted index values) = false
is_open (Open budget) = true

-- the claim leaves a goal open that is asked for
abbrev pub is_shown : Option (List ℕ) → Claim → Bool
is_shown asked claim = is_asked asked claim && is_open claim.outcome

module _ (above : Tree → Tree → Type 0) (spec : Spec) (search : SearchBounds) where
  -- what is shown of the goal of this number, with the goals as lemmas that the claims before it prove, and
  -- what a deeper search for counterexamples and a freer search for proofs find
  abbrev pub IsSectionOf : List Claim → ℕ → Goal → Outcome → List Event → Type 0
  IsSectionOf before number goal outcome events =
      (lemmas : List ℕ) × (shown : List Event) × (deeper : List Event) × (freer : List Event)
      × AreProved spec before lemmas × IsGoalShown above spec lemmas goal outcome shown
      × IsDeeperShown search spec goal deeper × IsFreerShown above spec lemmas goal freer
      × (events ≡ (shown ++ deeper) ++ freer)

  -- the section of the claim's goal
  abbrev pub IsSection : List Claim → Claim → List Event → Type 0
  IsSection before claim events =
      (number : ℕ) × (goal : Goal) × IsGoalOf spec claim number goal
      × IsSectionOf before number goal claim.outcome events

  -- a section for each claim that leaves a goal open that is asked for, and for no other one
  abbrev pub AreSections : Option (List ℕ) → List Claim → List Event → Type 0
  AreSections asked claims events =
      AreShown (λ before claim shown. Where (is_shown asked claim) (IsSection before claim) shown) [] claims events
