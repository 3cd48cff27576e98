use Rattle.std.proofs.Common.{◌<◌, ◌≤◌, List, [], ◌∷◌, length, length-append, ap, sym, ◌∙◌, subst, arith}
use Rattle.std.specs.Prelude.{slice_get}
use Rattle.std.proofs.lemmas.Option.{same_Some}
use Rattle.clause_core.specs.declared.clauses.Clause.{Clause}
use Rattle.proof_search.specs.Bounding.{IsNextWithin}
use Rattle.proof_search.specs.FallingSides.{AreFalling}
use Rattle.proof_search.specs.Starting.{start_of}
use Rattle.routine_proof.proofs.OneProofs.{chosen_one}
use Rattle.proof_search.proofs.BuiltBlocks.{part_begins, part_takes, part_ends}
use Rattle.proof_search.proofs.bounding.bounded_block.Goals as goal

pub loop-alloc-init : goal.loop-alloc-init
loop-alloc-init g c = record {
  part =
      part_begins (g.O.TermOrder.above c.args.order.now) c.args.setting.now.spec.now
      c.args.setting.now.lemmas.now (start_of c.args.start) c.args.clause c.args.limits.nodes
      c.in_ok-building.building c.requires.node c.in_ok-building.ensures.begins;
  sides = c.in_ok-building.ensures.sides;
}

pub bounded_move-requires-clause-sides : goal.bounded_move-requires-clause-sides
bounded_move-requires-clause-sides g c =
    let all = c.loop-alloc.invariant in
    record {
      lemmas = c.requires.sides;
      first = λ d at.
          subst
          (λ (x : Clause).
          AreFalling (g.O.TermOrder.above c.args.order.now) x c.loop-alloc.building.sides)
          (same_Some c.args.clause d
          (ap (λ (cs : List Clause). slice_get cs 0) (sym all.part.are) ∙ at))
          all.sides;
    }

pub loop-alloc-preserved : goal.loop-alloc-preserved
loop-alloc-preserved g c =
    let lt : length c.loop-alloc.building.steps.items < length c.loop-alloc.building.block.nodes.items =
    omega (
      arith,
      c.loop-alloc-test.true,
      c.len.ensures,
      c.len-in-loop-alloc.ensures,
      c.loop-alloc.building.steps.ok.0,
      c.loop-alloc.building.block.nodes.ok.0,
    ) in
    let next =
    subst
    (λ o. IsNextWithin (g.O.TermOrder.above c.args.order.now) c.args.setting.now.spec.now
    c.args.setting.now.lemmas.now (start_of c.args.start) c.args.limits.nodes c.loop-alloc.building o)
    c.in-Some.is c.in_ok-bounded_move.ensures in
    record {
      part =
          part_takes (g.O.TermOrder.above c.args.order.now) c.args.setting.now.spec.now
          c.args.setting.now.lemmas.now (start_of c.args.start) c.args.clause c.args.limits.nodes
          c.loop-alloc.building c.loop-alloc.invariant.part lt
          c.children_are_sorted.ensures c.requires.setting.fine
          (chosen_one (g.O.TermOrder.above c.args.order.now) c.one_answer.ensures
          c.args.setting.now.spec.now c.requires.setting.fine c.args.setting.now.lemmas.now
          (start_of c.args.start))
          next.0 c.take.new.self c.in-Some.next next.1 c.in_ok-take-in-Some.ensures;
      sides =
          subst (AreFalling (g.O.TermOrder.above c.args.order.now) c.args.clause)
          (sym c.in_ok-take-in-Some.ensures.sides) c.loop-alloc.invariant.sides;
    }

pub loop-alloc-smaller : goal.loop-alloc-smaller
loop-alloc-smaller g c =
    let few = (loop-alloc-preserved g c).part.few in
    let steps =
    ap length c.in_ok-take-in-Some.ensures.steps
    ∙ length-append c.loop-alloc.building.steps.items (c.in-Some.next.step ∷ []) in
    omega (arith, few, steps)

pub returns : goal.returns
returns g c =
    let le : length c.loop-alloc.building.block.nodes.items ≤ length c.loop-alloc.building.steps.items =
    omega (
      arith,
      c.loop-alloc-test.false,
      c.len.ensures,
      c.len-in-loop-alloc.ensures,
      c.loop-alloc.building.steps.ok.0,
      c.loop-alloc.building.block.nodes.ok.0,
    ) in
    part_ends (g.O.TermOrder.above c.args.order.now) c.args.setting.now.spec.now
    c.args.setting.now.lemmas.now (start_of c.args.start) c.args.clause c.args.limits.nodes
    c.loop-alloc.building c.loop-alloc.invariant.part le
