-- A closing step that is given, at a node of a kept block.
use Rattle.std.proofs.Common.{◌≡◌, ◌↔◌, ◌<◌, ◌∙◌, ℕ, List, [], ◌∷◌, Some, sym, ap, subst, arith, length, take}
use Rattle.std.specs.Prelude.{Contains, slice_get, slice_set}
use Rattle.std.proofs.lemmas.List.{take-map}
use Rattle.term_core.specs.Tree.{Tree}
use Rattle.spec_core.specs.declared.records.Spec.{Spec}
use Rattle.spec_core.specs.WellSorted.{IsWellSorted}
use Rattle.clause_core.specs.declared.answers.Children.{Children}
use Rattle.clause_core.specs.declared.clauses.Clause.{Clause}
use Rattle.clause_core.specs.declared.reports.Claim.{Claim}
use Rattle.clause_core.specs.declared.reports.Report.{Report}
use Rattle.clause_core.specs.declared.steps.Step.{Step}
use Rattle.clause_core.specs.ClauseLaws.{OneRelation}
use Rattle.acceptance.specs.Blocks.{StepMakes}
use Rattle.acceptance.specs.Claims.{ProvedBefore}
use Rattle.acceptance.specs.Strict.{first_child}
use Rattle.claimed_goals.specs.Tracking.{AreProved}
use Rattle.claimed_goals.proofs.UsableGoals.{makes_same}
use Rattle.inference_rules.specs.declared.nodes.Node.{Node}
use Rattle.inference_rules.specs.Answers.{clauses_of}
use Rattle.script_trim.specs.declared.blocks.Fit.{Fit}
use Rattle.script_trim.specs.declared.blocks.KeptBlock.{KeptBlock}
use Rattle.script_trim.specs.declared.fitting.Spot.{Spot}
use Rattle.script_trim.specs.Closing.{closing_steps}
use Rattle.script_trim.specs.Cutting.{ClosesAt, FitsAt}
use Rattle.script_trim.specs.Kept.{kept_report, IsKept}
use Rattle.script_trim.specs.Trimmed.{proves}
use Rattle.script_trim.specs.Trying.{MakesThere}
use Rattle.script_trim.proofs.ClaimByClaim.{set_there}
use Rattle.script_trim.proofs.KeptClaims.{closing_makes, closing_there, first_is, node_there}

-- what a step makes at a spot over the first nodes of a block
pub made_there :
    (above : Tree → Tree → Type 0) (spot : Spot) (spec : Spec) (numbers : List ℕ) (nodes : List Node) (before i : ℕ)
    (step : Step) (m : Children) →
    spot.spec.now ≡ spec → spot.proved.now ≡ numbers → spot.nodes.now ≡ take before nodes → spot.number ≡ i →
    MakesThere above spot step m
    ↔ StepMakes above spec (Contains numbers) (take before (clauses_of nodes)) i step m
made_there above spot spec numbers nodes before i step m spec_is proved_is nodes_are number_is =
    let T : Type 0 = MakesThere above spot step m in
    let own : List Clause = clauses_of spot.nodes.now in
    let taken : own ≡ take before (clauses_of nodes) = ap (λ ns. clauses_of ns) nodes_are
    ∙ sym (take-map (λ (n : Node). n.clause) before nodes) in
    subst (λ n. T ↔ StepMakes above spec (Contains numbers) (take before (clauses_of nodes)) n step m) number_is
    (subst (λ cs. T ↔ StepMakes above spec (Contains numbers) cs spot.number step m) taken
    (subst (λ ns. T ↔ StepMakes above spec (Contains ns) own spot.number step m) proved_is
    (subst (λ (s : Spec). T ↔ StepMakes above s (Contains spot.proved.now) own spot.number step m) spec_is
    (λ p. p, λ p. p))))

module _ (above : Tree → Tree → Type 0) (spec : Spec) (report : Report) (number : ℕ) (block : KeptBlock)
    (k : IsKept above spec report number block) where
  -- the report is the given one if the block has the steps that are in it
  pub same_report :
      (name : List ℕ) (steps : List Step) → slice_get report.claims number ≡ Some (proves name steps) →
      block.steps.items ≡ steps → kept_report above spec report number k.name block ≡ report
  same_report name steps at e =
      let q : Some (proves name steps) ≡ Some (proves k.name k.old) = sym at ∙ k.there in
      let n : proves name steps ≡ proves k.name k.old = cc in
      let name_is : name ≡ k.name = ap (λ (c : Claim). c.goal) n in
      let there : slice_get report.claims number ≡ Some (proves k.name block.steps.items) =
      at ∙ ap (λ x. Some (proves x steps)) name_is ∙ ap (λ ss. Some (proves k.name ss)) (sym e) in
      let f : List Claim → Report = λ cs. record { steps = report.steps; claims = cs } in
      ap f (set_there report.claims number (proves k.name block.steps.items) there)

module _
    (above : Tree → Tree → Type 0) (one : OneRelation above) (spec : Spec) (fine : IsWellSorted spec)
    (report : Report) (number : ℕ) (block : KeptBlock) (k : IsKept above spec report number block) where
  abbrev nodes : List Clause
  nodes = clauses_of block.nodes.items

  abbrev usable : ℕ → Type 0
  usable = ProvedBefore spec (take number report.claims)

  module _ (i : ℕ) (here : Clause) (at : slice_get nodes i ≡ Some here) (step : Step) where
    -- only a closing step closes a node
    pub not_closing :
        (Contains (closing_steps spec nodes here) step → ⊥) → (others : List Step) →
        ClosesAt above spec report number block k i step others → ⊥
    not_closing not others c =
        let q : Some here ≡ Some c.node =
        sym at ∙ node_there above one spec fine report number block k i step others c in
        let e : here ≡ c.node = cc in
        not (subst (λ x. Contains (closing_steps spec nodes x) step) (sym e)
        (closing_there above one spec fine report number block k i step others c))

    module _ (lt : i < length block.links.items) (numbers : List ℕ)
        (proved : AreProved spec (take number report.claims) numbers) (before : ℕ)
        (is : before ≡ first_child block.links.items i) where
      first : before ≡ first_child k.claim.made i
      first = is ∙ first_is above one spec fine report number block k i lt

      -- and it is defined there
      pub not_defined :
          ((m : Children) → StepMakes above spec (Contains numbers) (take before nodes) i step m → ⊥) →
          (others : List Step) → ClosesAt above spec report number block k i step others → ⊥
      not_defined not others c =
          let m = closing_makes above one spec fine report number block k i step others c in
          let p = (makes_same above spec usable (Contains numbers) (λ j. ((proved j).1, (proved j).0))
          (take (first_child k.claim.made i) nodes) i (step ∷ []) (m.0 ∷ []) (m.1, tt)).0 in
          not m.0 (subst (λ n. StepMakes above spec (Contains numbers) (take n nodes) i step m.0) (sym first) p)

      -- if it is, with what it makes, it fits
      pub given_fits :
          Contains (closing_steps spec nodes here) step → (fit : Fit) → fit.step ≡ step →
          StepMakes above spec (Contains numbers) (take before nodes) i step fit.made →
          FitsAt above spec report number block k i fit
      given_fits closing fit e makes c there =
          let q : Some here ≡ Some c = sym at ∙ there in
          let same : here ≡ c = cc in
          let p = (makes_same above spec (Contains numbers) usable proved (take before nodes) i (step ∷ [])
          (fit.made ∷ []) (makes, tt)).0 in
          subst (λ s. Contains (closing_steps spec nodes c) s
          × StepMakes above spec usable (take (first_child k.claim.made i) nodes) i s fit.made) (sym e) (
            subst (λ x. Contains (closing_steps spec nodes x) step) same closing,
            subst (λ n. StepMakes above spec usable (take n nodes) i step fit.made) first p,
          )
