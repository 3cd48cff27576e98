-- The block that a cut leaves is kept.
use Rattle.std.proofs.Common.{◌≡◌, ◌↔◌, ℕ, zero, suc, ◌+◌, ◌<◌, ◌≤◌, List, [], ◌∷◌, Bool, true, false, Some}
use Rattle.std.proofs.Common.{take}
use Rattle.std.proofs.Common.{refl, sym, ◌∙◌, ap, subst, arith, length, map, Ok, Err}
use Rattle.std.specs.Prelude.{IfOk, Result, slice_get, slice_set}
use Rattle.std.specs.List.{AllByRecursion}
use Rattle.std.proofs.lemmas.List.{length-map}
use Rattle.std.proofs.lemmas.Option.{slice_get_within}
use Rattle.term_core.specs.Tree.{Tree}
use Rattle.spec_core.specs.declared.records.Goal.{Goal}
use Rattle.spec_core.specs.declared.records.Spec.{Spec}
use Rattle.spec_core.specs.WellSorted.{IsWellSorted}
use Rattle.clause_core.specs.declared.answers.Children.{Children}
use Rattle.clause_core.specs.declared.clauses.Clause.{Clause}
use Rattle.clause_core.specs.declared.reports.Report.{Report}
use Rattle.clause_core.specs.declared.steps.Step.{Step}
use Rattle.clause_core.specs.ClauseLaws.{OneRelation}
use Rattle.clause_core.specs.Tidied.{goal_clause}
use Rattle.acceptance.specs.Accepting.{IsAccepted}
use Rattle.acceptance.specs.Blocks.{nodes_of, StepsMake}
use Rattle.acceptance.specs.Claims.{ProvedBefore}
use Rattle.acceptance.specs.Strict.{first_child}
use Rattle.acceptance.proofs.WholeBlocks.{as_many}
use Rattle.block_links.specs.Links.{links_of}
use Rattle.inference_rules.specs.declared.nodes.Node.{Node}
use Rattle.inference_rules.specs.Answers.{clauses_of}
use Rattle.proof_script.specs.Claims.{claim_text}
use Rattle.proof_script.specs.Steps.{step_line}
use Rattle.proof_script.specs.Words.{line_text}
use Rattle.script_trim.specs.declared.blocks.Fit.{Fit}
use Rattle.script_trim.specs.declared.blocks.KeptBlock.{KeptBlock}
use Rattle.script_trim.specs.Closing.{closing_steps}
use Rattle.script_trim.specs.Cut.{new_number, renumbered, staying, IsCut, RefersToStaying}
use Rattle.script_trim.specs.Cutting.{ClosesAt, FitsAt, IsLeft}
use Rattle.script_trim.specs.Fitting.{IsByItself, OnlyItselfFits}
use Rattle.script_trim.specs.Flags.{flag_of, TellStaying}
use Rattle.script_trim.specs.Kept.{kept_report, IsKept}
use Rattle.script_trim.specs.Keys.{key_of}
use Rattle.script_trim.specs.Made.{cut_made}
use Rattle.script_trim.specs.Trimmed.{proves, with_steps, ProvedClaim, Closes}
use Rattle.script_trim.proofs.BlockRests.{all_finished, few_clauses, left_length, left_nodes as cut_nodes_are}
use Rattle.script_trim.proofs.BlockRests.{long_nodes, long_steps, must_be, must_refer, named, new_links}
use Rattle.script_trim.proofs.BlockRests.{new_makes}
use Rattle.script_trim.proofs.BlockRests.{none, same_claims, which, within_claim}
use Rattle.block_steps.proofs.ChildNumbers.{all_children, counted_clauses}
use Rattle.script_trim.proofs.CutLinks.{first_anew}
use Rattle.script_trim.proofs.FewerFits.{none_left}
use Rattle.script_trim.proofs.OneCut.{goal_same, steps_same}
use Rattle.script_trim.proofs.Places.{set_same, take_set, take_staying, taken_length}
use Rattle.script_trim.proofs.QuickTests.{finished}
use Rattle.script_trim.proofs.Staying.{from_staying, staying_at, staying_length}
use Rattle.script_trim.proofs.StayingChildren.{stays_before, there}
use Rattle.script_trim.proofs.StayingItems.{staying_map}
use Rattle.script_trim.proofs.TextBound.{cut_text}

set_twice : {A : Type 0} (xs : List A) (i : ℕ) (x y : A) → slice_set (slice_set xs i x) i y ≡ slice_set xs i y
set_twice [] i x y = refl
set_twice (z ∷ zs) zero x y = refl
set_twice (z ∷ zs) (suc i) x y = ap (λ ws. z ∷ ws) (set_twice zs i x y)

-- the lists that are left, if there is memory for them
pub left_lists :
    {E : Type 0} (block : KeptBlock) (i : ℕ) (closed : Children) (rest : List Step) (flags : List Bool) →
    (bytes : ℕ) → TellStaying block.links.items i flags → (links : List Children) →
    links ≡ map links_of (cut_made (flag_of flags) block.links.items i closed) → (r : Result KeptBlock E) →
    IfOk r (λ made. made.steps.items ≡ rest) → IfOk r (λ made. made.links.items ≡ links) →
    IfOk r (λ made. made.nodes.items ≡ staying (flag_of flags) 0 block.nodes.items) →
    IfOk r (λ made. made.keys.items ≡ staying (flag_of flags) 0 block.keys.items) →
    IfOk r (λ made. made.hopeful.items ≡ staying (flag_of flags) 0 block.hopeful.items) →
    IfOk r (λ made. made.bytes ≡ bytes) → IfOk r (IsLeft block i closed rest bytes)
left_lists block i closed rest flags bytes told links is (Ok made) steps same nodes keys hopeful long = record {
  flags = flags;
  told = told;
  steps = steps;
  nodes = nodes;
  keys = keys;
  links = same ∙ is;
  hopeful = hopeful;
  bytes_are = long;
}
left_lists block i closed rest flags bytes told links is (Err e) steps same nodes keys hopeful long = tt

-- a node that is closed is among those of the block
pub closes_within :
    (above : Tree → Tree → Type 0) (one : OneRelation above) (spec : Spec) (fine : IsWellSorted spec)
    (report : Report) (number : ℕ) (block : KeptBlock) (kept : IsKept above spec report number block) (i : ℕ)
    (step : Step) (rest : List Step) → ClosesAt above spec report number block kept i step rest →
    i < length block.steps.items
closes_within above one spec fine report number block kept i step rest c =
    let whole = kept_report above spec report number kept.name block in
    let s : length c.claim.steps ≡ length kept.claim.steps =
    ap (λ ss. length ss) (steps_same above one spec fine whole number number refl c.claim kept.claim) in
    omega (
      arith,
      slice_get_within (nodes_of (goal_clause c.claim.goal) c.claim.made) i c.node c.node_is,
      finished above one spec fine whole kept.accepted number c.claim,
      s,
      ap (λ ss. length ss) kept.steps,
    )

module _
    (above : Tree → Tree → Type 0) (one : OneRelation above) (spec : Spec) (fine : IsWellSorted spec)
    (report : Report) (number : ℕ) (block : KeptBlock) (kept : IsKept above spec report number block)
    (i :
    ℕ) (within : i < length block.steps.items) (fit : Fit)
    (fits : FitsAt above spec report number block kept i fit)
    (rest : List Step) (c : ClosesAt above spec report number block kept i fit.step rest)
    (bytes : ℕ) (grown : block.bytes + length (line_text spec.sig (step_line fit.step)) ≤ bytes)
    (new : KeptBlock) (left : IsLeft block i fit.made rest bytes new) where
  abbrev flags : List Bool
  flags = left.flags

  abbrev told : TellStaying block.links.items i left.flags
  told = left.told

  abbrev whole : Report
  whole = kept_report above spec report number kept.name block

  abbrev made : List Children
  made = kept.claim.made

  abbrev start : Clause
  start = goal_clause kept.claim.goal

  abbrev stays : ℕ → Bool
  stays = flag_of left.flags

  abbrev olds : List Clause
  olds = clauses_of block.nodes.items

  abbrev made_new : List Children
  made_new = cut_made (flag_of left.flags) kept.claim.made i fit.made

  refer : AllByRecursion (RefersToStaying stays) (staying stays 0 (slice_set block.steps.items i fit.step))
  refer = must_refer above one spec fine report number block kept i within fit fits flags told rest c

  abbrev others : List Step
  others = map (renumbered stays) (staying stays 0 (slice_set block.steps.items i fit.step))

  steps_are : new.steps.items ≡ others
  steps_are = left.steps ∙ must_be above one spec fine report number block kept i within fit fits flags told rest c

  -- the claim with the steps that are left
  new_accepted : IsAccepted above spec (kept_report above spec report number kept.name new)
  new_accepted =
      let g : c.claim.goal ≡ kept.claim.goal = goal_same above one spec fine whole number number refl c.claim
      kept.claim in
      let n : c.claim.goal.name ≡ kept.name = ap (λ (x : Goal). x.name) g ∙ named above one spec fine report number
      block kept in
      let e : slice_set whole.claims number (proves kept.name rest) ≡ slice_set report.claims number
      (proves kept.name new.steps.items) =
      set_twice report.claims number (proves kept.name block.steps.items) (proves kept.name rest)
      ∙ ap (λ ss. slice_set report.claims number (proves kept.name ss)) (sym left.steps) in
      subst (λ cs. IsAccepted above spec (record { steps = report.steps; claims = cs })) e
      (subst (λ x. IsAccepted above spec (with_steps whole number x rest)) n c.accepted)

  new_claim : ProvedClaim above spec (kept_report above spec report number kept.name new) number
  new_claim = record {
    goal = kept.claim.goal;
    named = kept.claim.named;
    steps = new.steps.items;
    is =
        set_same report.claims number (proves kept.name new.steps.items)
        (slice_get_within report.claims number _ kept.there)
        ∙ ap (λ x. Some (proves x new.steps.items)) (sym (named above one spec fine report number block kept));
    made = made_new;
    makes =
        subst (λ cs. StepsMake above spec (ProvedBefore spec cs) (start ∷ []) 0 new.steps.items made_new)
        (same_claims above one spec fine report number block kept ∙ sym
        (take_set report.claims number (proves kept.name new.steps.items)))
        (subst (λ ss. StepsMake above spec (ProvedBefore spec (take number whole.claims)) (start ∷ []) 0 ss made_new)
        (sym steps_are)
        (new_makes above one spec fine report number block kept i within fit fits flags told refer));
  }

  left_nodes : clauses_of new.nodes.items ≡ staying stays 0 olds
  left_nodes =
      ap (λ ns. clauses_of ns) left.nodes ∙ sym (staying_map stays (λ (n : Node). n.clause) 0 block.nodes.items)

  new_nodes : clauses_of new.nodes.items ≡ nodes_of start made_new
  new_nodes =
      left_nodes
      ∙ ap (λ ns. staying stays 0 ns) kept.nodes
      ∙ sym (cut_nodes_are above one spec fine report number block kept i within fit fits flags told refer)

  new_keys : new.keys.items ≡ map key_of (clauses_of new.nodes.items)
  new_keys =
      left.keys
      ∙ ap (λ ks. staying stays 0 ks) kept.keys
      ∙ staying_map stays key_of 0 olds
      ∙ ap (λ ns. map key_of ns) (sym left_nodes)

  links_are : new.links.items ≡ map links_of made_new
  links_are =
      left.links ∙ sym (new_links above one spec fine report number block kept i within fit fits flags told refer)

  new_flags : length new.hopeful.items ≡ length new.steps.items
  new_flags =
      let a : length new.hopeful.items ≡ length (staying stays 0 block.hopeful.items) =
      ap (λ bs. length bs) left.hopeful in
      let b = staying_length stays block.hopeful.items in
      let d : new_number stays (length block.hopeful.items) ≡ new_number stays (length kept.claim.steps) =
      ap (λ n. new_number stays n) (kept.flags ∙ sym (long_steps above one spec fine report number block kept)) in
      let e : length others ≡ new_number stays (length kept.claim.steps) =
      left_length above one spec fine report number block kept i within fit fits flags told refer in
      let g : length new.steps.items ≡ length others = ap (λ ss. length ss) steps_are in
      omega (arith, a, b, d, e, g)

  -- if a flag says that no closing step fits a node that stays but by the node itself, none does
  -- after the cut
  module _ (j : ℕ) (at : slice_get new.hopeful.items j ≡ Some false) where
    from :
        (k : ℕ) × (slice_get block.hopeful.items k ≡ Some false) × (stays (0 + k) ≡ true) ×
        (j + new_number stays 0 ≡ new_number stays (0 + k))
    from = from_staying stays 0 j block.hopeful.items false (ap (λ bs. slice_get bs j) (sym left.hopeful) ∙ at)

    zero_more : 0 + from.0 ≡ from.0
    zero_more = omega arith

    k_stays : stays from.0 ≡ true
    k_stays = ap stays (sym zero_more) ∙ from.2

    j_is : new_number stays from.0 ≡ j
    j_is =
        let w : new_number stays (0 + from.0) ≡ new_number stays from.0 = ap (λ a. new_number stays a) zero_more in
        omega (arith, w, from.3)

    k_within : from.0 < length block.steps.items
    k_within = omega (arith, slice_get_within block.hopeful.items from.0 false from.1, kept.flags)

    k_made : from.0 < length made
    k_made =
        omega (
          arith,
          k_within,
          long_steps above one spec fine report number block kept,
          as_many above spec (ProvedBefore spec (take number whole.claims)) (start ∷ []) 0 kept.claim.steps made
              kept.claim.makes,
        )

    abbrev before : ℕ
    before = first_child kept.claim.made from.0

    before_within : before ≤ length olds
    before_within =
        let m = there made from.0 k_made in
        omega (
          arith,
          all_children made from.0 m.0 m.1,
          counted_clauses made,
          all_finished above one spec fine report number block kept,
          long_steps above one spec fine report number block kept,
          long_nodes above one spec fine report number block kept,
        )

    olds_few : length (take before olds) ≤ 10000
    olds_few =
        omega (
          arith,
          few_clauses above one spec fine report number block kept,
          taken_length olds before before_within,
          before_within,
          long_nodes above one spec fine report number block kept,
        )

    next_first : first_child made_new j ≡ new_number stays before
    next_first =
        ap (λ a. first_child made_new a) (sym j_is)
        ∙ first_anew stays i above spec (ProvedBefore spec (take number whole.claims)) start kept.claim.steps made
        kept.claim.makes (all_finished above one spec fine report number block kept)
        (which above one spec fine report number block kept i within fit fits flags told)
        (stays_before stays i above spec (ProvedBefore spec (take number whole.claims)) start kept.claim.steps made
        kept.claim.makes (all_finished above one spec fine report number block kept)
        (which above one spec fine report number block kept i within fit fits flags told)
        (within_claim above one spec fine report number block kept i within fit fits) 0 (omega arith))
        fit.made (none above one spec fine report number block kept i within fit fits) from.0 (omega (arith, k_made))

    news_before : take (first_child made_new j) (clauses_of new.nodes.items) ≡ staying stays 0 (take before olds)
    news_before =
        ap (λ n. take n (clauses_of new.nodes.items)) next_first
        ∙ ap (λ ns. take (new_number stays before) ns) left_nodes
        ∙ take_staying stays olds before before_within

    pub new_hopeless :
        OnlyItselfFits above spec (ProvedBefore spec (take number report.claims)) (clauses_of new.nodes.items)
        (first_child made_new j) j
    new_hopeless d is =
        let x = there olds from.0 (omega (arith, k_within, long_nodes above one spec fine report number block kept)) in
        let y : slice_get (staying stays 0 olds) (new_number stays from.0) ≡ Some x.0 =
        staying_at stays from.0 olds x.0 x.1 k_stays in
        let z : Some x.0 ≡ Some d = sym y ∙ ap (λ a. slice_get (staying stays 0 olds) a) j_is ∙ ap
        (λ ns. slice_get ns j) (sym left_nodes) ∙ is in
        let e : x.0 ≡ d = cc in
        let old : slice_get olds from.0 ≡ Some d = x.1 ∙ ap (λ (a : Clause). Some a) e in
        let none_old = kept.hopeless from.0 from.1 d old in
        let usable : ℕ → Type 0 = ProvedBefore spec (take number report.claims) in
        let none_new = none_left above spec usable stays olds before olds_few from.0 k_stays d none_old in
        subst (λ ns. AllByRecursion (IsByItself above spec usable
        (take (first_child made_new j) (clauses_of new.nodes.items)) j) (closing_steps spec ns d)) (sym left_nodes)
        (subst (λ ns. AllByRecursion (IsByItself above spec usable ns j) (closing_steps spec (staying stays 0 olds) d))
        (sym news_before)
        (subst (λ a. AllByRecursion (IsByItself above spec usable (staying stays 0 (take before olds)) a)
        (closing_steps spec (staying stays 0 olds) d)) j_is none_new))

  new_text : length (claim_text spec.sig (proves kept.name new.steps.items)) ≤ new.bytes
  new_text =
      let s : c.claim.steps ≡ block.steps.items =
      steps_same above one spec fine whole number number refl c.claim kept.claim ∙ kept.steps in
      let cut : IsCut block.steps.items c.claim.made i fit.step rest =
      subst (λ ss. IsCut ss c.claim.made i fit.step rest) s c.cut in
      let t = cut_text spec.sig kept.name block.steps.items c.claim.made i fit.step rest cut in
      let e : length (claim_text spec.sig (proves kept.name new.steps.items))
      ≡ length (claim_text spec.sig (proves kept.name rest)) =
      ap (λ ss. length (claim_text spec.sig (proves kept.name ss))) left.steps in
      omega (arith, t, e, kept.text, grown, left.bytes_are)

  pub still_kept : IsKept above spec report number new
  unfolding new_claim
  still_kept = record {
    name = kept.name;
    old = kept.old;
    there = kept.there;
    accepted = new_accepted;
    claim = new_claim;
    steps = refl;
    nodes = new_nodes;
    keys = new_keys;
    links = links_are;
    flags = new_flags;
    hopeless = new_hopeless;
    text = new_text;
  }
