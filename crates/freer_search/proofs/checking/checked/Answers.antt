use Rattle.std.proofs.Common.{◌≤◌, List, Option, arith, length, sym, subst}
use Rattle.std.specs.Prelude.{Contains, IfOk, IfSome}
use Rattle.spec_core.specs.WellSorted.{IsWellSorted}
use Rattle.clause_core.specs.declared.clauses.Clause.{Clause}
use Rattle.clause_core.specs.Limits.{IsWithin}
use Rattle.clause_core.specs.Tidied.{goal_clause}
use Rattle.descent.specs.SortedChildren.{IsNode}
use Rattle.acceptance.specs.AllowedAnswers.{IsWholeBlock, TellsAllowed}
use Rattle.acceptance.specs.declared.answers.Allowed.TheVariants.{All}
use Rattle.clause_core.specs.declared.steps.Step.{Step}
use Rattle.block_steps.specs.declared.taken_steps.TakenSteps.{TakenSteps}
use Rattle.block_steps.specs.Taken.{AreTaken}
use Rattle.spec_admit.specs.Admission.{Admission}
use Rattle.proof_script.specs.Ranges.{ClaimIsInRange}
use Rattle.proof_search.specs.Guided.{proved_by}
use Rattle.freer_search.specs.Found.{IsShort}
use Rattle.block_steps.proofs.GoalNodes.{goal_node}
use Rattle.freer_search.proofs.Checked.{in_range, whole, found_if_ok}
use Rattle.freer_search.proofs.checking.checked.Goals as goal

pub all_taken-requires : goal.all_taken-requires
all_taken-requires g c =
    let fine : IsWellSorted c.args.admitted.now.spec =
    rw (← c.admitted.view_is) c.admitted.invariant.0 in
    let within : IsWithin (goal_clause c.args.goal.now) =
    subst IsWithin c.in_ok-start.ensures (c.within.ensures.0 c.if-not-within.false) in
    subst (IsNode c.args.admitted.now.spec.sig) (sym c.in_ok-start.ensures)
    (goal_node c.args.admitted.now.spec fine c.tidying_laws.ensures c.requires.0 c.args.goal.now
    c.requires.1 within)

pub allowed-requires : goal.allowed-requires
allowed-requires g c =
    let above = g.O.TermOrder.above c.args.admitted.now.order in
    let spec = c.args.admitted.now.spec in
    let lemmas = c.args.lemmas.now in
    let taken : AreTaken above spec (Contains lemmas) (goal_clause c.args.goal.now)
    c.args.steps.items c.in-Some.taken =
    subst
    (λ (p : Clause × Option TakenSteps × List Step). IfSome p.1 (AreTaken above spec (Contains lemmas) p.0 p.2))
    (λ i. (c.in_ok-start.ensures i, c.in-Some.is i, c.as_slice.ensures.value i)) c.in_ok-taken.ensures in
    let no_more : length c.in-Some.taken.nodes.items ≤ length c.args.steps.items =
    omega (arith, c.if-len.false, c.len-2.ensures, c.len-3.ensures) in
    subst IsWholeBlock (sym c.as_slice-2.ensures.value)
    (whole above spec lemmas c.args.goal.now c.args.steps.items c.in-Some.taken taken no_more)

pub short-requires : goal.short-requires
short-requires g c =
    let above = g.O.TermOrder.above c.args.admitted.now.order in
    let spec = c.args.admitted.now.spec in
    let lemmas = c.args.lemmas.now in
    let taken : AreTaken above spec (Contains lemmas) (goal_clause c.args.goal.now)
    c.args.steps.items c.in-Some.taken =
    subst
    (λ (p : Clause × Option TakenSteps × List Step). IfSome p.1 (AreTaken above spec (Contains lemmas) p.0 p.2))
    (λ i. (c.in_ok-start.ensures i, c.in-Some.is i, c.as_slice.ensures.value i)) c.in_ok-taken.ensures in
    subst
    (λ (a : Admission _). ClaimIsInRange a.spec.sig
    (proved_by c.args.goal.now (record { steps = c.args.steps.items })))
    (sym c.admitted.view_is)
    (in_range above spec lemmas c.args.goal.now c.args.steps.items c.in-Some.taken taken)

pub returns-in-All : goal.returns-in-All
returns-in-All g c =
    let above = g.O.TermOrder.above c.args.admitted.now.order in
    let spec = c.args.admitted.now.spec in
    let lemmas = c.args.lemmas.now in
    let taken : AreTaken above spec (Contains lemmas) (goal_clause c.args.goal.now)
    c.args.steps.items c.in-Some.taken =
    subst
    (λ (p : Clause × Option TakenSteps × List Step). IfSome p.1 (AreTaken above spec (Contains lemmas) p.0 p.2))
    (λ i. (c.in_ok-start.ensures i, c.in-Some.is i, c.as_slice.ensures.value i)) c.in_ok-taken.ensures in
    let no_more : length c.in-Some.taken.nodes.items ≤ length c.args.steps.items =
    omega (arith, c.if-len.false, c.len-2.ensures, c.len-3.ensures) in
    let within : IsWithin (goal_clause c.args.goal.now) =
    subst IsWithin c.in_ok-start.ensures (c.within.ensures.0 c.if-not-within.false) in
    let tells : TellsAllowed c.in-Some.taken.links.items All =
    subst (λ ls. TellsAllowed ls All) c.as_slice-2.ensures.value
    (subst (λ a. TellsAllowed c.as_slice-2.result.now a) c.in-All.is c.in_ok-allowed.ensures) in
    let few : length c.args.steps.items ≤ c.args.most =
    omega (arith, c.if-len-most.false, c.len.ensures) in
    found_if_ok above spec lemmas c.args.goal.now c.args.steps.items c.in-Some.taken taken no_more
    within tells c.args.most few c.short.result
    (subst
    (λ (a : Admission _). IfOk c.short.result (IsShort a.spec c.args.goal.now c.args.steps.items))
    c.admitted.view_is c.short.ensures)
