-- No step by the node itself closes it, so a node that only itself fits isn't closed.
use Rattle.std.proofs.Common.{◌≡◌, ℕ, List, Some, take, sym, ◌∙◌, subst}
use Rattle.std.specs.Prelude.{Contains}
use Rattle.term_core.specs.Tree.{Tree}
use Rattle.term_core.proofs.Items.{all_at_or}
use Rattle.spec_core.specs.declared.records.Spec.{Spec}
use Rattle.spec_core.specs.WellSorted.{IsWellSorted}
use Rattle.clause_core.specs.declared.clauses.Clause.{Clause}
use Rattle.clause_core.specs.declared.reports.Report.{Report}
use Rattle.clause_core.specs.declared.steps.Step.{Step}
use Rattle.clause_core.specs.ClauseLaws.{OneRelation}
use Rattle.acceptance.specs.Claims.{ProvedBefore}
use Rattle.acceptance.specs.Strict.{first_child}
use Rattle.inference_rules.specs.Answers.{clauses_of}
use Rattle.script_trim.specs.declared.blocks.Fit.{Fit}
use Rattle.script_trim.specs.declared.blocks.KeptBlock.{KeptBlock}
use Rattle.script_trim.specs.Closing.{closing_steps}
use Rattle.script_trim.specs.Cutting.{ClosesAt, FitsAt}
use Rattle.script_trim.specs.Fitting.{IsByItself, OnlyItselfFits}
use Rattle.script_trim.specs.Kept.{IsKept}
use Rattle.script_trim.proofs.BlockRests.{not_itself}
use Rattle.script_trim.proofs.KeptClaims.{closing_makes, closing_there, node_there}
use Rattle.script_trim.proofs.KeptCuts.{closes_within}

module _ (above : Tree → Tree → Type 0) (one : OneRelation above) (spec : Spec) (fine : IsWellSorted spec) where
  module _
      (report : Report) (number : ℕ) (block : KeptBlock) (kept : IsKept above spec report number block) (i : ℕ) where
    abbrev nodes : List Clause
    nodes = clauses_of block.nodes.items

    abbrev ByItself : Step → Type 0
    ByItself step =
        IsByItself above spec (ProvedBefore spec (take number report.claims))
        (take (first_child kept.claim.made i) nodes) i step

    pub itself_isnt_closing :
        (step : Step) → ByItself step → (rest : List Step) →
        ClosesAt above spec report number block kept i step rest → ⊥
    itself_isnt_closing step by rest c =
        let at = node_there above one spec fine report number block kept i step rest c in
        let member = closing_there above one spec fine report number block kept i step rest c in
        let made = closing_makes above one spec fine report number block kept i step rest c in
        let fit : Fit = record { step = step; made = made.0 } in
        let fits : FitsAt above spec report number block kept i fit = λ d there. (
          let q : Some c.node ≡ Some d = sym at ∙ there in
              let e : c.node ≡ d = cc in
              subst (λ (x : Clause). Contains (closing_steps spec nodes x) step) e member,
          made.1,
        ) in
        not_itself above one spec fine report number block kept i
        (closes_within above one spec fine report number block kept i step rest c) fit fits rest c (by made.0 made.1)

    pub isnt_closed :
        OnlyItselfFits above spec (ProvedBefore spec (take number report.claims)) (clauses_of block.nodes.items)
        (first_child kept.claim.made i) i → (step : Step) (rest : List Step) →
        ClosesAt above spec report number block kept i step rest → ⊥
    isnt_closed only step rest c =
        let at = node_there above one spec fine report number block kept i step rest c in
        let member = closing_there above one spec fine report number block kept i step rest c in
        let by : ByItself step = subst ByItself member.2
        (all_at_or ByItself (closing_steps spec nodes c.node) member.0 step (only c.node at) member.1) in
        itself_isnt_closing step by rest c
