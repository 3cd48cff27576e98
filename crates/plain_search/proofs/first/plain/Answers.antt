use Rattle.std.proofs.Common.{◌≤◌, Option, subst, arith}
use Rattle.term_core.specs.declared.ids.VarId.{VarId}
use Rattle.plain_proof.specs.FirstPlain.{IsFirstPlain}
use Rattle.plain_search.proofs.FirstBlocks.{first_block}
use Rattle.plain_search.proofs.first.plain.Goals as goal

pub first_plain-requires-clause-sorted : goal.first_plain-requires-clause-sorted
first_plain-requires-clause-sorted g c =
    let listed = rw (← c.admitted.view_is) at c.requires.listed in
    c.admitted.invariant.0.goals listed.0 c.args.goal.now listed.1

pub block_on-requires-clause-sorted : goal.block_on-requires-clause-sorted
block_on-requires-clause-sorted g c =
    let listed = rw (← c.admitted.view_is) at c.requires.listed in
    c.admitted.invariant.0.goals listed.0 c.args.goal.now listed.1

pub block_on-requires-clause-plain : goal.block_on-requires-clause-plain
block_on-requires-clause-plain g c =
    let first =
    subst (λ (o : Option VarId). IsFirstPlain c.admitted.inside.spec c.args.goal.now c.args.length o)
    c.in-Some.is c.in_ok-first_plain.ensures in
    let le : first.0.0 ≤ c.args.length = first.0.2 in
    (first.0.0, first.0.1, omega (arith, c.requires.short))

pub returns-in-None : goal.returns-in-None
returns-in-None g c =
    rw (← c.admitted.view_is)
    (subst (λ (o : Option VarId). IsFirstPlain c.admitted.inside.spec c.args.goal.now c.args.length o)
    c.in-None.is c.in_ok-first_plain.ensures)

pub returns-in_ok-block_on-in-Some : goal.returns-in_ok-block_on-in-Some
returns-in_ok-block_on-in-Some g c =
    let listed = rw (← c.admitted.view_is) at c.requires.listed in
    let fine = c.admitted.invariant.0 in
    let sorted = fine.goals listed.0 c.args.goal.now listed.1 in
    let first =
    subst (λ (o : Option VarId). IsFirstPlain c.admitted.inside.spec c.args.goal.now c.args.length o)
    c.in-Some.is c.in_ok-first_plain.ensures in
    rw (← c.admitted.view_is)
    (first_block (g.O.TermOrder.above c.admitted.inside.order) c.admitted.inside.spec c.args.goal.now
    c.args.length c.in-Some.var c.plain_blocks.ensures
    (c.one_block.ensures c.admitted.inside.order) fine sorted
    c.requires.short first c.in_ok-block_on-in-Some.field-0 c.in_ok-block_on-in-Some.ensures)
