use Rattle.std.proofs.Common.{◌<◌, List, [], ◌∷◌, Option, Vec, length, length-append, ap, sym, ◌∙◌}
use Rattle.std.proofs.Common.{subst, arith}
use Rattle.std.specs.Global.{Global}
use Rattle.routine_proof.specs.declared.moves.Move.{Move}
use Rattle.proof_search.specs.declared.building.Building.{Building}
use Rattle.proof_search.specs.declared.stuck.Cause.TheVariants.{Covers}
use Rattle.proof_search.specs.declared.stuck.Stuck.{Stuck}
use Rattle.proof_search.specs.Starting.{start_of, IsNext}
use Rattle.proof_search.specs.Walks.{IsNextClause}
use Rattle.proof_search.proofs.ListedNodes.{clause_listed}
use Rattle.proof_search.proofs.Walks.{IsWalk, walk_begins, walk_sides, walk_lists, walk_passes, walk_takes}
use Rattle.proof_search.proofs.passing.walk.Goals as goal
use Rattle.proof_search.proofs.passing.walk.Goals.{in-Pass+in_ok-push-in-Pass, in-Take+in_ok-take-in-Take}
use Rattle.proof_search.proofs.passing.walk.Goals.{in-Cover+in_ok-clause-in-Cover+in_ok-push-in-Cover+in_ok-take-in-Cover}

pub loop-turns-init : goal.loop-turns-init
loop-turns-init g c =
    let begun = c.in_ok-building.ensures.begins in
    let none = ap length begun.steps in
    record {
      walk =
          walk_begins (g.O.TermOrder.above c.args.order.now) c.args.setting.now.spec.now
          c.args.setting.now.lemmas.now (start_of c.args.start) c.args.clause
          c.in_ok-building.building c.new-stuck.result.items c.requires.node begun
          c.in_ok-building.ensures.sides c.new-stuck.ensures.items;
      few = omega (arith, none);
    }

pub next_move-requires-clause-sides : goal.next_move-requires-clause-sides
next_move-requires-clause-sides g c =
    walk_sides (g.O.TermOrder.above c.args.order.now) c.args.setting.now.spec.now
    c.args.setting.now.lemmas.now (start_of c.args.start) c.args.clause
    c.loop-turns.building c.loop-turns.stuck.items c.loop-turns.invariant.walk
    c.args.setting.now c.requires.sides

pub loop-turns-preserved : goal.loop-turns-preserved
loop-turns-preserved g c =
    let b = c.loop-turns.building in
    let all = c.loop-turns.invariant in
    let lt : length b.steps.items < length b.block.nodes.items = c.goes_on.ensures c.if-not-goes_on.false in
    let Walks = λ (p : Building × List Stuck).
    IsWalk (g.O.TermOrder.above c.args.order.now) c.args.setting.now.spec.now
    c.args.setting.now.lemmas.now (start_of c.args.start) c.args.clause p.0 p.1 in
    let items = λ (v : Vec Stuck Global). v.items in
    let count = λ (h : Building). length h.steps.items in
    elim c.match-turn_at.branch [
      | in-Pass+in_ok-push-in-Pass w ↦
          let passed = w.pass-clause.ensures in
          let turn = w.in-Pass.ensures in
          let its : IsNextClause b w.pass-clause.result =
          clause_listed b.block.nodes.items (length b.steps.items)
          (record { clause = w.pass-clause.result }) passed.is in
          let listed =
          walk_lists (g.O.TermOrder.above c.args.order.now) c.args.setting.now.spec.now
          c.args.setting.now.lemmas.now (start_of c.args.start) c.args.clause b
          c.loop-turns.stuck.items all.walk lt w.pass-clause.result its c.in_ok-next.next
          c.in_ok-next.ensures turn.0 w.in-Pass.cause turn.1 w.push.new.self.items
          w.in_ok-push-in-Pass.ensures.items in
          let steps = ap length passed.steps in
          let same = ap count w.building-is in
          record {
            walk =
                subst Walks (λ i. (sym w.building-is i, sym (ap items w.stuck-is) i))
                (walk_passes (g.O.TermOrder.above c.args.order.now) c.args.setting.now.spec.now
                c.args.setting.now.lemmas.now (start_of c.args.start) c.args.clause b
                w.push.new.self.items listed lt w.pass-clause.result w.pass-clause.new.self passed
                turn.0);
            few = omega (arith, steps, same, all.few);
          }
      | in-Take+in_ok-take-in-Take w ↦
          let taken = w.in_ok-take-in-Take.ensures in
          let chosen =
          subst
          (λ (o : Option Move). IsNext (g.O.TermOrder.above c.args.order.now)
          c.args.setting.now.spec.now c.args.setting.now.lemmas.now (start_of c.args.start) b o)
          w.in-Take.ensures c.in_ok-next.ensures in
          let steps = ap length taken.steps ∙ length-append b.steps.items (w.in-Take.next.step ∷ []) in
          let same = ap count w.building-is in
          record {
            walk =
                subst Walks (λ i. (sym w.building-is i, sym (ap items w.stuck-is) i))
                (walk_takes (g.O.TermOrder.above c.args.order.now) c.args.setting.now.spec.now
                c.args.setting.now.lemmas.now (start_of c.args.start) c.args.clause b
                c.loop-turns.stuck.items all.walk lt c.children_are_sorted.ensures
                c.requires.setting.fine w.take.new.self w.in-Take.next chosen taken);
            few = omega (arith, steps, same, all.few);
          }
      | in-Cover+in_ok-clause-in-Cover+in_ok-push-in-Cover+in_ok-take-in-Cover w ↦
          let turn = w.in-Cover.ensures in
          let taken = w.in_ok-take-in-Cover.ensures in
          let chosen =
          subst
          (λ (o : Option Move). IsNext (g.O.TermOrder.above c.args.order.now)
          c.args.setting.now.spec.now c.args.setting.now.lemmas.now (start_of c.args.start) b o)
          turn.1 c.in_ok-next.ensures in
          let steps = ap length taken.steps ∙ length-append b.steps.items (w.in-Cover.next.step ∷ []) in
          let same = ap count w.building-is in
          let listed =
          walk_lists (g.O.TermOrder.above c.args.order.now) c.args.setting.now.spec.now
          c.args.setting.now.lemmas.now (start_of c.args.start) c.args.clause b
          c.loop-turns.stuck.items all.walk lt w.in_ok-clause-in-Cover.clause
          w.in_ok-clause-in-Cover.ensures c.in_ok-next.next c.in_ok-next.ensures turn.0 Covers
          (w.in-Cover.next, turn.1, turn.2) w.push-in-Cover.new.self.items
          w.in_ok-push-in-Cover.ensures.items in
          record {
            walk =
                subst Walks (λ i. (sym w.building-is i, sym (ap items w.stuck-is) i))
                (walk_takes (g.O.TermOrder.above c.args.order.now) c.args.setting.now.spec.now
                c.args.setting.now.lemmas.now (start_of c.args.start) c.args.clause b
                w.push-in-Cover.new.self.items listed lt c.children_are_sorted.ensures
                c.requires.setting.fine w.take-in-Cover.new.self w.in-Cover.next chosen taken);
            few = omega (arith, steps, same, all.few);
          }
    ]
