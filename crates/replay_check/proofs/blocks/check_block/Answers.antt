use Rattle.std.proofs.Common.{◌≤◌, ◌<◌, ap, arith, length, sym, subst}
use Rattle.std.specs.Prelude.{Contains, Err}
use Rattle.std.proofs.lemmas.Result.{err_from_is_err_and}
use Rattle.spec_core.specs.WellSorted.{IsWellSorted}
use Rattle.clause_core.specs.ClauseLaws.{OneRelation}
use Rattle.clause_core.specs.Limits.{IsWithin}
use Rattle.clause_core.specs.Tidied.{goal_clause}
use Rattle.descent.specs.SortedChildren.{IsNode}
use Rattle.acceptance.specs.AllowedAnswers.{IsWholeBlock, TellsAllowed}
use Rattle.acceptance.specs.declared.answers.Allowed.TheVariants.{All, Not}
use Rattle.acceptance.specs.Blocks.{Proves}
use Rattle.acceptance.specs.Claims.{ProvedBefore}
use Rattle.replay_check.specs.Taken.{AreTaken, FindsSteps}
use Rattle.replay_check.proofs.TestedBlocks.{goal_node, block_stops, more_nodes, whole, all_allowed, not_allowed}
use Rattle.replay_check.proofs.blocks.check_block.Goals as goal

pub take_steps-requires : goal.take_steps-requires
take_steps-requires g c =
    let fine : IsWellSorted c.args.admitted.now.spec = rw (← c.admitted.view_is) c.admitted.invariant.0 in
    let within : IsWithin (goal_clause c.args.goal.now) = subst IsWithin c.in_ok-start.ensures
    (c.within.ensures.0 c.if-not-within.false) in
    subst (λ s. IsNode c.args.admitted.now.spec.sig s) (sym c.in_ok-start.ensures)
    (goal_node c.tidying_laws.ensures c.args.admitted.now.spec fine c.args.goal.now c.requires.0
    c.requires.1 within)

pub returns-in_err-taken : goal.returns-in_err-taken
returns-in_err-taken g c = λ before proved.
    let fine : IsWellSorted c.args.admitted.now.spec = rw (← c.admitted.view_is) c.admitted.invariant.0 in
    let one : OneRelation (g.O.TermOrder.above c.args.admitted.now.order) = rw (← c.admitted.view_is)
    c.one_relation.ensures in
    let within : IsWithin (goal_clause c.args.goal.now) = subst IsWithin c.in_ok-start.ensures
    (c.within.ensures.0 c.if-not-within.false) in
    let p = err_from_is_err_and c.from_residual-in_err-taken.result c.from_residual-in_err-taken.ensures.1 in
    rw (p.1, p.2)
    (block_stops (g.O.TermOrder.above c.args.admitted.now.order) one c.args.admitted.now.spec fine before
    c.args.line c.args.goal.now c.requires.0 c.requires.1 c.args.steps.now c.args.proved.now proved within
    (λ done. Proves (g.O.TermOrder.above c.args.admitted.now.order) c.args.admitted.now.spec
    (ProvedBefore c.args.admitted.now.spec before) (goal_clause c.args.goal.now) c.args.steps.now)
    c.in_err-taken.field-0.0
    (subst (λ s. FindsSteps (g.O.TermOrder.above c.args.admitted.now.order) c.args.admitted.now.spec
    (Contains c.args.proved.now) s c.args.steps.now c.args.line (Err c.in_err-taken.field-0.0))
    c.in_ok-start.ensures c.in_err-taken.ensures))

pub returns-then-nodes-steps : goal.returns-then-nodes-steps
returns-then-nodes-steps g c = λ before proved.
    let fine : IsWellSorted c.args.admitted.now.spec = rw (← c.admitted.view_is) c.admitted.invariant.0 in
    let one : OneRelation (g.O.TermOrder.above c.args.admitted.now.order) = rw (← c.admitted.view_is)
    c.one_relation.ensures in
    let within : IsWithin (goal_clause c.args.goal.now) = subst IsWithin c.in_ok-start.ensures
    (c.within.ensures.0 c.if-not-within.false) in
    let taken = subst (λ s. AreTaken (g.O.TermOrder.above c.args.admitted.now.order) c.args.admitted.now.spec
    (Contains c.args.proved.now) s c.args.steps.now (length c.args.steps.now) c.in_ok-taken.taken)
    c.in_ok-start.ensures c.in_ok-taken.ensures in
    let lt : length c.args.steps.now < length c.in_ok-taken.taken.nodes.items = omega (
      arith,
      c.if-nodes-steps.true,
      ap length c.as_slice-nodes.ensures.value,
    ) in
    more_nodes (g.O.TermOrder.above c.args.admitted.now.order) one c.args.admitted.now.spec fine before
    c.args.line c.args.goal.now c.requires.0 c.requires.1 c.args.steps.now c.args.proved.now proved within
    c.in_ok-taken.taken taken lt

pub allowed-requires : goal.allowed-requires
allowed-requires g c =
    let taken = subst (λ s. AreTaken (g.O.TermOrder.above c.args.admitted.now.order) c.args.admitted.now.spec
    (Contains c.args.proved.now) s c.args.steps.now (length c.args.steps.now) c.in_ok-taken.taken)
    c.in_ok-start.ensures c.in_ok-taken.ensures in
    let no_more : length c.in_ok-taken.taken.nodes.items ≤ length c.args.steps.now = omega (
      arith,
      c.if-nodes-steps.false,
      ap length c.as_slice-nodes.ensures.value,
    ) in
    subst IsWholeBlock (sym c.as_slice-links.ensures.value)
    (whole (g.O.TermOrder.above c.args.admitted.now.order) c.args.admitted.now.spec c.args.proved.now
    c.args.goal.now c.args.steps.now c.in_ok-taken.taken taken no_more)

pub returns-in-All : goal.returns-in-All
returns-in-All g c = λ before proved.
    let fine : IsWellSorted c.args.admitted.now.spec = rw (← c.admitted.view_is) c.admitted.invariant.0 in
    let one : OneRelation (g.O.TermOrder.above c.args.admitted.now.order) = rw (← c.admitted.view_is)
    c.one_relation.ensures in
    let within : IsWithin (goal_clause c.args.goal.now) = subst IsWithin c.in_ok-start.ensures
    (c.within.ensures.0 c.if-not-within.false) in
    let taken = subst (λ s. AreTaken (g.O.TermOrder.above c.args.admitted.now.order) c.args.admitted.now.spec
    (Contains c.args.proved.now) s c.args.steps.now (length c.args.steps.now) c.in_ok-taken.taken)
    c.in_ok-start.ensures c.in_ok-taken.ensures in
    let no_more : length c.in_ok-taken.taken.nodes.items ≤ length c.args.steps.now = omega (
      arith,
      c.if-nodes-steps.false,
      ap length c.as_slice-nodes.ensures.value,
    ) in
    let tells = subst (λ ls. TellsAllowed ls All) c.as_slice-links.ensures.value
    (subst (λ a. TellsAllowed c.as_slice-links.result.now a) c.in-All.is c.in_ok-allowed.ensures) in
    all_allowed (g.O.TermOrder.above c.args.admitted.now.order) one c.args.admitted.now.spec fine before
    c.args.line c.args.goal.now c.requires.0 c.requires.1 c.args.steps.now c.args.proved.now proved within
    c.in_ok-taken.taken taken no_more tells

pub returns : goal.returns
returns g c = λ before proved.
    let fine : IsWellSorted c.args.admitted.now.spec = rw (← c.admitted.view_is) c.admitted.invariant.0 in
    let one : OneRelation (g.O.TermOrder.above c.args.admitted.now.order) = rw (← c.admitted.view_is)
    c.one_relation.ensures in
    let within : IsWithin (goal_clause c.args.goal.now) = subst IsWithin c.in_ok-start.ensures
    (c.within.ensures.0 c.if-not-within.false) in
    let taken = subst (λ s. AreTaken (g.O.TermOrder.above c.args.admitted.now.order) c.args.admitted.now.spec
    (Contains c.args.proved.now) s c.args.steps.now (length c.args.steps.now) c.in_ok-taken.taken)
    c.in_ok-start.ensures c.in_ok-taken.ensures in
    let no_more : length c.in_ok-taken.taken.nodes.items ≤ length c.args.steps.now = omega (
      arith,
      c.if-nodes-steps.false,
      ap length c.as_slice-nodes.ensures.value,
    ) in
    let tells = subst (λ ls. TellsAllowed ls (Not c.in-Not.node)) c.as_slice-links.ensures.value
    (subst (λ a. TellsAllowed c.as_slice-links.result.now a) c.in-Not.is c.in_ok-allowed.ensures) in
    not_allowed (g.O.TermOrder.above c.args.admitted.now.order) one c.args.admitted.now.spec fine before
    c.args.line c.args.goal.now c.requires.0 c.requires.1 c.args.steps.now c.args.proved.now proved within
    c.in_ok-taken.taken taken no_more c.in-Not.node c.in_ok-line_behind-in-Not.field-0
    c.in_ok-line_behind-in-Not.ensures tells
