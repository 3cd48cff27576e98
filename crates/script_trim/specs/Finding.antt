-- What looking for the first cut of a block answers.
use Rattle.std.specs.Prelude.{◌≡◌, ℕ, List, ◌∷◌, ◌++◌, Option, Some, None}
use Rattle.std.specs.List.{AllByRecursion}
use Rattle.term_core.specs.Tree.{Tree}
use Rattle.spec_core.specs.declared.records.Spec.{Spec}
use Rattle.clause_core.specs.declared.reports.Report.{Report}
use Rattle.clause_core.specs.declared.steps.Step.{Step}
use Rattle.script_trim.specs.declared.blocks.Fit.{Fit}
use Rattle.script_trim.specs.declared.blocks.KeptBlock.{KeptBlock}
use Rattle.script_trim.specs.declared.blocks.NodeCut.{NodeCut}
use Rattle.script_trim.specs.Cutting.{ClosesAt, FitsAt}
use Rattle.script_trim.specs.Kept.{kept_report, IsKept}
use Rattle.script_trim.specs.OneClaim.{IsFirstClosing, IsFirstStep}
use Rattle.script_trim.specs.Trimmed.{CouldBeClosed, HasChildren}

module _
    (above : Tree → Tree → Type 0) (spec : Spec) (report : Report) (number : ℕ) (block : KeptBlock) where
  -- the cut is at this node, by the first of the fits that could close it; or none of them could
  abbrev pub FindsAmong : ℕ → List Fit → Option NodeCut → Type 0
  FindsAmong i fits None =
      (k : IsKept above spec report number block) →
      AllByRecursion
      (λ (fit : Fit). (others : List Step) → ClosesAt above spec report number block k i fit.step others → ⊥) fits
  FindsAmong i fits (Some cut) =
      (k : IsKept above spec report number block) →
      (seen : List Fit) × (later : List Fit) × (fits ≡ seen ++ cut.fit ∷ later) × (cut.node ≡ i)
      × AllByRecursion
      (λ (fit : Fit). (others : List Step) → ClosesAt above spec report number block k i fit.step others → ⊥) seen
      × ClosesAt above spec report number block k i cut.fit.step cut.rest.items

  -- the cut is at this node, by the first closing step that could close it; or there is none
  abbrev pub FindsCutAt : ℕ → Option NodeCut → Type 0
  FindsCutAt i None =
      (k : IsKept above spec report number block) (step : Step) (rest : List Step) →
      ClosesAt above spec report number block k i step rest → ⊥
  FindsCutAt i (Some cut) =
      (k : IsKept above spec report number block) →
      (cut.node ≡ i) × FitsAt above spec report number block k i cut.fit
      × IsFirstStep above spec number (kept_report above spec report number k.name block) i
      cut.fit.step cut.rest.items

  -- the cut is at this node, which has children; or the node could not be closed, or has none
  abbrev pub FindsCutBelow : ℕ → Option NodeCut → Type 0
  FindsCutBelow i None =
      (k : IsKept above spec report number block) →
      CouldBeClosed above spec (kept_report above spec report number k.name block) number i → ⊥
  FindsCutBelow i (Some cut) =
      (k : IsKept above spec report number block) →
      (cut.node ≡ i) × FitsAt above spec report number block k i cut.fit
      × HasChildren above spec (kept_report above spec report number k.name block) number i
      × IsFirstStep above spec number (kept_report above spec report number k.name block) i
      cut.fit.step cut.rest.items

  -- the cut is the first one of the claim; or no node could be closed
  abbrev pub FindsFirstCut : Option NodeCut → Type 0
  FindsFirstCut None =
      (k : IsKept above spec report number block) (i : ℕ) →
      CouldBeClosed above spec (kept_report above spec report number k.name block) number i → ⊥
  FindsFirstCut (Some cut) =
      (k : IsKept above spec report number block) →
      FitsAt above spec report number block k cut.node cut.fit
      × IsFirstClosing above spec number (kept_report above spec report number k.name block)
      cut.node cut.fit.step cut.rest.items
