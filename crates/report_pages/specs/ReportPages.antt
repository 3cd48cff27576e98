-- The page of an accepted report.
use Rattle.std.specs.Prelude.{◌≡◌, ℕ, Bool, true, false, List, [], ◌∷◌, ◌++◌, Option, Some, None}
use Rattle.std.specs.List.{list_any}
use Rattle.std.specs.Str.{bytes_eq}
use Rattle.term_core.specs.Tree.{Tree}
use Rattle.spec_core.specs.declared.records.Spec.{Spec}
use Rattle.spec_order.specs.Orders.{above_of}
use Rattle.clause_core.specs.declared.reports.Claim.{Claim}
use Rattle.clause_core.specs.declared.reports.Report.{Report}
use Rattle.page_core.specs.Events.{Event, within}
use Rattle.page_core.specs.Pages.{after, blank}
use Rattle.page_core.specs.declared.parts.Format.{Format}
use Rattle.page_core.specs.declared.parts.Part.TheVariants.{Document, Heading, Goals}
use Rattle.proof_words.specs.ListEvents.{plain}
use Rattle.report_pages.specs.Claims.{IsClaimShown, IsLineShown}
use Rattle.report_pages.specs.Lists.{AreShown, Where}

-- all goals are asked for, or the one of this name
abbrev pub is_asked : Option (List ℕ) → Claim → Bool
is_asked None claim = true
is_asked (Some name) claim = bytes_eq claim.goal name

-- a list of no goals isn't shown
abbrev pub goal_list : Bool → List Event → List Event
goal_list true lines = within Goals lines
goal_list false lines = []

module _ (asked : Option (List ℕ)) where
  abbrev pub AreLinesShown : Spec → List Claim → List Event → Type 0
  AreLinesShown spec claims events =
      AreShown (λ before claim shown. Where (is_asked asked claim) (IsLineShown spec claim) shown) [] claims events

  abbrev pub AreClaimsShown : (Tree → Tree → Type 0) → Spec → ℕ → List Claim → List Event → Type 0
  AreClaimsShown above spec steps claims events =
      AreShown (λ before claim shown. Where (is_asked asked claim) (IsClaimShown above spec steps before claim) shown)
      [] claims events

  -- the list of the goals that claims are on
  abbrev pub IsGoalListShown : Spec → List Claim → List Event → Type 0
  IsGoalListShown spec claims events =
      (lines : List Event) × AreLinesShown spec claims lines
      × (events ≡ goal_list (list_any (is_asked asked) claims) lines)

abbrev pub title_events : List ℕ → List Event
title_events title = within Heading (plain title ∷ [])

-- the title, the list of goals, and a section for each claim
abbrev pub IsPageShown : (Tree → Tree → Type 0) → Spec → List ℕ → Option (List ℕ) → Report → List Event → Type 0
IsPageShown above spec title asked report events =
    (goals : List Event) × (sections : List Event) × IsGoalListShown asked spec report.claims goals
    × AreClaimsShown asked above spec report.steps report.claims sections
    × (events ≡ within Document (title_events title ++ (goals ++ sections)))

-- the report's page, by the order of the specification
abbrev pub IsReportPage : Spec → List ℕ → Option (List ℕ) → Report → Format → List ℕ → Type 0
IsReportPage spec title asked report format text =
    (events : List Event) × IsPageShown (above_of spec) spec title asked report events
    × (text ≡ (after (blank format) events).text)
