-- The first cut at a node, by its own equations or by another clause.
use Rattle.std.proofs.Common.{◌≡◌, ℕ, List, ◌++◌, Some, take, sym, ◌∙◌, ap, subst}
use Rattle.std.specs.Prelude.{Option, None, slice_get}
use Rattle.std.specs.List.{AllByRecursion}
use Rattle.std.proofs.lemmas.List.{append-nil}
use Rattle.term_core.specs.Tree.{Tree}
use Rattle.term_core.proofs.Items.{all_append}
use Rattle.spec_core.specs.declared.records.Spec.{Spec}
use Rattle.spec_core.specs.WellSorted.{IsWellSorted}
use Rattle.clause_core.specs.declared.clauses.Clause.{Clause}
use Rattle.clause_core.specs.declared.reports.Report.{Report}
use Rattle.clause_core.specs.declared.steps.Step.{Step}
use Rattle.clause_core.specs.ClauseLaws.{OneRelation}
use Rattle.acceptance.specs.Claims.{ProvedBefore}
use Rattle.acceptance.specs.Strict.{first_child}
use Rattle.inference_rules.specs.Answers.{clauses_of}
use Rattle.script_trim.specs.declared.blocks.Fit.{Fit}
use Rattle.script_trim.specs.declared.blocks.KeptBlock.{KeptBlock}
use Rattle.script_trim.specs.declared.blocks.NodeCut.{NodeCut}
use Rattle.script_trim.specs.Closing.{closing_steps}
use Rattle.script_trim.specs.Cutting.{FitsAt}
use Rattle.script_trim.specs.Finding.{FindsAmong, FindsCutAt}
use Rattle.script_trim.specs.Fitting.{own_steps, other_steps, AreFitting}
use Rattle.script_trim.specs.Kept.{IsKept}
use Rattle.script_trim.proofs.FirstFits.{NotBy, all_fit, first_fit, fits_at, no_steps, none_closes, none_of}
use Rattle.script_trim.proofs.FirstFits.{own_and_others}

module _ (above : Tree → Tree → Type 0) (one : OneRelation above) (spec : Spec) (fine : IsWellSorted spec)
    (report : Report) (number : ℕ) (block : KeptBlock) (i : ℕ) where
  abbrev nodes : List Clause
  nodes = clauses_of block.nodes.items

  -- these are the fits, by the goals that the claims before prove
  abbrev pub AreFitsAt :
      IsKept above spec report number block → (Spec → List Clause → Clause → List Step) → List Fit → Type 0
  AreFitsAt k steps fits =
      AreFitting above spec (ProvedBefore spec (take number report.claims)) steps nodes (first_child k.claim.made i) i
      fits

  parted :
      (c : Clause) → closing_steps spec nodes c ≡ own_steps spec nodes c ++
      (other_steps spec nodes c ++ no_steps spec nodes c)
  parted c =
      own_and_others spec nodes c ∙ ap (λ ss. own_steps spec nodes c ++ ss)
      (sym (append-nil (other_steps spec nodes c)))

  pub own_fit :
      (own : List Fit) (k : IsKept above spec report number block) → AreFitsAt k own_steps own →
      AllByRecursion (FitsAt above spec report number block k i) own
  own_fit own k are =
      all_fit above one spec fine report number block k i no_steps own_steps other_steps (own_and_others spec nodes)
      own are

  pub others_fit :
      (others : List Fit) (k : IsKept above spec report number block) → AreFitsAt k other_steps others →
      AllByRecursion (FitsAt above spec report number block k i) others
  others_fit others k are =
      all_fit above one spec fine report number block k i own_steps other_steps no_steps parted others are

  module _ (own : List Fit) (are : (k : IsKept above spec report number block) → AreFitsAt k own_steps own) where
    pub own_found :
        (cut : NodeCut) → FindsAmong above spec report number block i own (Some cut) →
        FindsCutAt above spec report number block i (Some cut)
    own_found cut found k =
        let p = found k in (
          p.3,
          fits_at above one spec fine report number block k i no_steps own_steps other_steps
              (own_and_others spec nodes) own (are k) p.0 p.1 cut.fit p.2,
          first_fit above one spec fine report number block k i no_steps own_steps other_steps
              (own_and_others spec nodes) own (are k) p.0 p.1 cut.fit p.2 (λ c at. tt) p.4 cut.rest.items p.5,
        )

    module _ (others : List Fit) (are_others :
        (k : IsKept above spec report number block) → AreFitsAt k other_steps others)
        (not_own : FindsAmong above spec report number block i own None) where
      no_own :
          (k : IsKept above spec report number block) (c : Clause) → slice_get nodes i ≡ Some c →
          AllByRecursion (NotBy above spec report number block k i) (own_steps spec nodes c)
      no_own k = none_of above one spec fine report number block k i own_steps own (are k) (not_own k)

      pub others_found :
          (found : Option NodeCut) → FindsAmong above spec report number block i others found →
          FindsCutAt above spec report number block i found
      others_found None h = λ k step rest c.
          let Not = NotBy above spec report number block k i in
          none_closes above one spec fine report number block k i (λ d at.
          subst (λ ss. AllByRecursion Not ss) (sym (own_and_others spec nodes d))
          (all_append Not (own_steps spec nodes d) (other_steps spec nodes d) (no_own k d at)
          (none_of above one spec fine report number block k i other_steps others (are_others k) (h k) d at)))
          step rest c
      others_found (Some cut) h = λ k.
          let p = h k in (
            p.3,
            fits_at above one spec fine report number block k i own_steps other_steps no_steps parted others
                (are_others k) p.0 p.1 cut.fit p.2,
            first_fit above one spec fine report number block k i own_steps other_steps no_steps parted others
                (are_others k) p.0 p.1 cut.fit p.2 (no_own k) p.4 cut.rest.items p.5,
          )
