use Rattle.std.proofs.Common.{[], ◌∷◌, sym, subst}
use Rattle.std.specs.List.{AllByRecursion}
use Rattle.term_core.proofs.Items.{all_append}
use Rattle.clause_core.specs.Tidied.{goal_clause}
use Rattle.proof_search.specs.Stuck.{IsStuckFrom, start_at}
use Rattle.open_goals.specs.Stops.{IsStopFrom}
use Rattle.open_goals.proofs.Taken.{taken_left, taken_out}
use Rattle.open_goals.proofs.stops.open_start.Goals as goal

pub loop-preserved : goal.loop-preserved
loop-preserved g c =
    let above = g.O.TermOrder.above c.args.order.now in
    let spec = c.args.spec.now in
    let lemmas = c.args.lemmas.now in
    let goal = c.args.goal.now in
    let start = start_at c.args.start.split in
    let all = c.loop.invariant in
    let node = c.in-Some.node in
    let Stops = IsStuckFrom above spec lemmas start (goal_clause goal) in
    let is = taken_out Stops c.loop.stuck.items c.take_smallest.new.stuck.items node c.in-Some.ensures all.left in
    record {
      left = taken_left Stops c.loop.stuck.items c.take_smallest.new.stuck.items node c.in-Some.ensures all.left;
      made =
          subst (AllByRecursion (IsStopFrom above spec lemmas goal start)) (sym c.in_ok-push.ensures.items)
          (all_append (IsStopFrom above spec lemmas goal start) c.loop.stops.items (c.in_ok-stop_at.field-0 ∷ [])
          all.made ((node, is, c.in_ok-stop_at.ensures), tt));
    }

pub loop-preserved-then-is_shown : goal.loop-preserved-then-is_shown
loop-preserved-then-is_shown g c =
    let above = g.O.TermOrder.above c.args.order.now in
    let start = start_at c.args.start.split in
    let all = c.loop.invariant in
    record {
      left =
          taken_left (IsStuckFrom above c.args.spec.now c.args.lemmas.now start (goal_clause c.args.goal.now))
          c.loop.stuck.items c.take_smallest.new.stuck.items c.in-Some.node c.in-Some.ensures all.left;
      made = all.made;
    }
