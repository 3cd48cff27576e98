use Rattle.std.proofs.Common.{◌≡◌, Some, [], ◌∷◌, refl, sym, ◌∙◌, ap, subst, length, map}
use Rattle.std.proofs.lemmas.Option.{slice_get_within}
use Rattle.proof_script.specs.Claims.{claim_text}
use Rattle.proof_script.specs.Ranges.{ClaimIsInRange}
use Rattle.script_trim.proofs.TextBound.{at_most}
use Rattle.script_trim.specs.Trimmed.{proves}
use Rattle.std.specs.Prelude.{Contains}
use Rattle.spec_core.specs.WellSorted.{IsWellSorted}
use Rattle.clause_core.specs.ClauseLaws.{OneRelation}
use Rattle.clause_core.specs.Tidied.{goal_clause}
use Rattle.descent.specs.SortedChildren.{IsNode}
use Rattle.acceptance.specs.Blocks.{StepsMake}
use Rattle.acceptance.specs.Claims.{IsGoalNamed}
use Rattle.inference_rules.specs.Answers.{clauses_of}
use Rattle.script_trim.specs.Keys.{key_of}
use Rattle.block_steps.specs.Taken.{AreTaken}
use Rattle.script_trim.proofs.KeptBlocks.{all_defined, all_within, before_first, block_kept, claim_range}
use Rattle.script_trim.proofs.KeptBlocks.{start_node}
use Rattle.script_trim.proofs.kept_blocks.kept_block.Goals as goal

pub take_steps-requires-clause-start : goal.take_steps-requires-clause-start
take_steps-requires-clause-start g c =
    let above = g.O.TermOrder.above c.args.admitted.now.order in
    let spec = c.args.admitted.now.spec in
    let fine : IsWellSorted c.args.admitted.now.spec = rw (← c.admitted.view_is) c.admitted.invariant.0 in
    let one : OneRelation (g.O.TermOrder.above c.args.admitted.now.order) =
    rw (← c.admitted.view_is) c.one_relation.ensures in
    let report = c.args.place.now.report.now in
    let number = c.args.place.now.number in
    let numbers = c.args.place.now.lemmas.now.numbers.items in
    let named : IsGoalNamed c.args.admitted.now.spec c.args.goal.now.name c.args.goal.now =
    (c.requires.goal.0, c.requires.goal.1, refl) in
    subst (λ s. IsNode c.args.admitted.now.spec.sig s) (sym c.in_ok-start.ensures)
    (start_node above one spec fine report c.requires.placed.accepted number c.args.goal.now named
    c.args.steps.now c.requires.there numbers c.requires.placed.proved c.tidying_laws.ensures)

pub take_steps-requires-clause-defined : goal.take_steps-requires-clause-defined
take_steps-requires-clause-defined g c =
    let above = g.O.TermOrder.above c.args.admitted.now.order in
    let spec = c.args.admitted.now.spec in
    let fine : IsWellSorted c.args.admitted.now.spec = rw (← c.admitted.view_is) c.admitted.invariant.0 in
    let one : OneRelation (g.O.TermOrder.above c.args.admitted.now.order) =
    rw (← c.admitted.view_is) c.one_relation.ensures in
    let report = c.args.place.now.report.now in
    let number = c.args.place.now.number in
    let numbers = c.args.place.now.lemmas.now.numbers.items in
    let named : IsGoalNamed c.args.admitted.now.spec c.args.goal.now.name c.args.goal.now =
    (c.requires.goal.0, c.requires.goal.1, refl) in
    let d = all_defined above one spec fine report c.requires.placed.accepted number c.args.goal.now named
    c.args.steps.now c.requires.there numbers c.requires.placed.proved in (
      d.0,
      subst (λ s. StepsMake (g.O.TermOrder.above c.args.admitted.now.order) c.args.admitted.now.spec
          (Contains c.as_slice-proved.result.now) (s ∷ []) 0 c.args.steps.now d.0) (sym c.in_ok-start.ensures)
          (subst (λ ns. StepsMake (g.O.TermOrder.above c.args.admitted.now.order) c.args.admitted.now.spec
          (Contains ns) (goal_clause c.args.goal.now ∷ []) 0 c.args.steps.now d.0)
          (sym c.as_slice-proved.ensures.value) d.1),
    )

pub hopeful_nodes-requires-clause-nodes : goal.hopeful_nodes-requires-clause-nodes
hopeful_nodes-requires-clause-nodes g c = c.in_ok-taken.ensures.few.nodes

pub hopeful_nodes-requires-clause-after : goal.hopeful_nodes-requires-clause-after
hopeful_nodes-requires-clause-after g c =
    let above = g.O.TermOrder.above c.args.admitted.now.order in
    let spec = c.args.admitted.now.spec in
    let fine : IsWellSorted c.args.admitted.now.spec = rw (← c.admitted.view_is) c.admitted.invariant.0 in
    let one : OneRelation (g.O.TermOrder.above c.args.admitted.now.order) =
    rw (← c.admitted.view_is) c.one_relation.ensures in
    let report = c.args.place.now.report.now in
    let number = c.args.place.now.number in
    let numbers = c.args.place.now.lemmas.now.numbers.items in
    let named : IsGoalNamed c.args.admitted.now.spec c.args.goal.now.name c.args.goal.now =
    (c.requires.goal.0, c.requires.goal.1, refl) in
    let t : AreTaken (g.O.TermOrder.above c.args.admitted.now.order) c.args.admitted.now.spec
    (Contains c.args.place.now.lemmas.now.numbers.items) (goal_clause c.args.goal.now) c.args.steps.now
    c.in_ok-taken.taken =
    subst (λ ns. AreTaken (g.O.TermOrder.above c.args.admitted.now.order) c.args.admitted.now.spec (Contains ns)
    (goal_clause c.args.goal.now) c.args.steps.now c.in_ok-taken.taken) c.as_slice-proved.ensures.value
    (subst (λ s. AreTaken (g.O.TermOrder.above c.args.admitted.now.order) c.args.admitted.now.spec
    (Contains c.as_slice-proved.result.now) s c.args.steps.now c.in_ok-taken.taken) c.in_ok-start.ensures
    c.in_ok-taken.ensures) in
    before_first above one spec fine report c.requires.placed.accepted number c.args.goal.now named c.args.steps.now
    c.requires.there numbers c.requires.placed.proved c.in_ok-taken.taken t

pub hopeful_nodes-requires-clause-within : goal.hopeful_nodes-requires-clause-within
hopeful_nodes-requires-clause-within g c =
    let above = g.O.TermOrder.above c.args.admitted.now.order in
    let spec = c.args.admitted.now.spec in
    let fine : IsWellSorted c.args.admitted.now.spec = rw (← c.admitted.view_is) c.admitted.invariant.0 in
    let one : OneRelation (g.O.TermOrder.above c.args.admitted.now.order) =
    rw (← c.admitted.view_is) c.one_relation.ensures in
    let report = c.args.place.now.report.now in
    let number = c.args.place.now.number in
    let numbers = c.args.place.now.lemmas.now.numbers.items in
    let named : IsGoalNamed c.args.admitted.now.spec c.args.goal.now.name c.args.goal.now =
    (c.requires.goal.0, c.requires.goal.1, refl) in
    let t : AreTaken (g.O.TermOrder.above c.args.admitted.now.order) c.args.admitted.now.spec
    (Contains c.args.place.now.lemmas.now.numbers.items) (goal_clause c.args.goal.now) c.args.steps.now
    c.in_ok-taken.taken =
    subst (λ ns. AreTaken (g.O.TermOrder.above c.args.admitted.now.order) c.args.admitted.now.spec (Contains ns)
    (goal_clause c.args.goal.now) c.args.steps.now c.in_ok-taken.taken) c.as_slice-proved.ensures.value
    (subst (λ s. AreTaken (g.O.TermOrder.above c.args.admitted.now.order) c.args.admitted.now.spec
    (Contains c.as_slice-proved.result.now) s c.args.steps.now c.in_ok-taken.taken) c.in_ok-start.ensures
    c.in_ok-taken.ensures) in
    all_within above one spec fine report c.requires.placed.accepted number c.args.goal.now named c.args.steps.now
    c.requires.there numbers c.requires.placed.proved c.in_ok-taken.taken t

pub returns-clause-kept : goal.returns-clause-kept
returns-clause-kept g c =
    let above = g.O.TermOrder.above c.args.admitted.now.order in
    let spec = c.args.admitted.now.spec in
    let fine : IsWellSorted c.args.admitted.now.spec = rw (← c.admitted.view_is) c.admitted.invariant.0 in
    let one : OneRelation (g.O.TermOrder.above c.args.admitted.now.order) =
    rw (← c.admitted.view_is) c.one_relation.ensures in
    let report = c.args.place.now.report.now in
    let number = c.args.place.now.number in
    let numbers = c.args.place.now.lemmas.now.numbers.items in
    let named : IsGoalNamed c.args.admitted.now.spec c.args.goal.now.name c.args.goal.now =
    (c.requires.goal.0, c.requires.goal.1, refl) in
    let t : AreTaken (g.O.TermOrder.above c.args.admitted.now.order) c.args.admitted.now.spec
    (Contains c.args.place.now.lemmas.now.numbers.items) (goal_clause c.args.goal.now) c.args.steps.now
    c.in_ok-taken.taken =
    subst (λ ns. AreTaken (g.O.TermOrder.above c.args.admitted.now.order) c.args.admitted.now.spec (Contains ns)
    (goal_clause c.args.goal.now) c.args.steps.now c.in_ok-taken.taken) c.as_slice-proved.ensures.value
    (subst (λ s. AreTaken (g.O.TermOrder.above c.args.admitted.now.order) c.args.admitted.now.spec
    (Contains c.as_slice-proved.result.now) s c.args.steps.now c.in_ok-taken.taken) c.in_ok-start.ensures
    c.in_ok-taken.ensures) in
    let sig_is : c.admitted.inside.spec.sig ≡ c.args.admitted.now.spec.sig = rw (← c.admitted.view_is) refl in
    let text = subst (λ s. c.in_ok-bytes.bytes ≡ length (claim_text s (proves c.args.goal.now.name c.args.steps.now)))
    sig_is (c.in_ok-bytes.ensures _ c.requires.there) in
    block_kept above one spec fine report c.requires.placed.accepted number c.args.goal.now named c.args.steps.now
    c.requires.there numbers c.requires.placed.proved c.in_ok-taken.taken t _ c.in_ok-steps.ensures refl
    (c.in_ok-keys.ensures ∙ ap (λ ns. map key_of (clauses_of ns)) c.as_slice-clauses.ensures.value) refl
    c.in_ok-hopeful.ensures.long c.in_ok-hopeful.ensures.hopeless
    (at_most _ _ text)

pub text_length-requires-clause-there : goal.text_length-requires-clause-there
text_length-requires-clause-there g c =
    slice_get_within c.args.place.now.report.now.claims c.args.place.now.number _ c.requires.there

pub text_length-requires-clause-range : goal.text_length-requires-clause-range
text_length-requires-clause-range g c = λ claim at.
    let above = g.O.TermOrder.above c.args.admitted.now.order in
    let spec = c.args.admitted.now.spec in
    let fine : IsWellSorted c.args.admitted.now.spec = rw (← c.admitted.view_is) c.admitted.invariant.0 in
    let one : OneRelation (g.O.TermOrder.above c.args.admitted.now.order) =
    rw (← c.admitted.view_is) c.one_relation.ensures in
    let report = c.args.place.now.report.now in
    let number = c.args.place.now.number in
    let numbers = c.args.place.now.lemmas.now.numbers.items in
    let named : IsGoalNamed c.args.admitted.now.spec c.args.goal.now.name c.args.goal.now =
    (c.requires.goal.0, c.requires.goal.1, refl) in
    let range = claim_range above one spec fine report c.requires.placed.accepted number c.args.goal.now named
    c.args.steps.now c.requires.there numbers c.requires.placed.proved in
    let q : Some (proves c.args.goal.now.name c.args.steps.now) ≡ Some claim = sym c.requires.there ∙ at in
    let same : proves c.args.goal.now.name c.args.steps.now ≡ claim = cc in
    let sig_is : c.admitted.inside.spec.sig ≡ c.args.admitted.now.spec.sig = rw (← c.admitted.view_is) refl in
    subst (λ s. ClaimIsInRange s claim) (sym sig_is) (subst (ClaimIsInRange c.args.admitted.now.spec.sig) same range)
