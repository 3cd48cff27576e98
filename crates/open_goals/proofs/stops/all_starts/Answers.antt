use Rattle.std.proofs.Common.{[], ◌∷◌, sym, subst}
use Rattle.term_core.proofs.Items.{all_append}
use Rattle.proof_search.specs.Stuck.{IsStuckStart}
use Rattle.open_goals.specs.Stops.{AreOpenStarts, IsOpenStart}
use Rattle.open_goals.proofs.Taken.{taken_left, taken_out}
use Rattle.open_goals.proofs.stops.all_starts.Goals as goal

pub loop-init : goal.loop-init
loop-init g c = record {
  left = c.requires;
  made =
      subst (AreOpenStarts (g.O.TermOrder.above c.args.order.now) c.args.spec.now c.args.lemmas.now c.args.goal.now)
      (sym c.new-made.ensures.items) tt;
}

pub open_start-requires : goal.open_start-requires
open_start-requires g c =
    taken_out (IsStuckStart (g.O.TermOrder.above c.args.order.now) c.args.spec.now c.args.lemmas.now c.args.goal.now)
    c.loop.starts.items c.take_first.new.starts.items c.in-Some.start c.in-Some.ensures
    c.loop.invariant.left

pub loop-preserved : goal.loop-preserved
loop-preserved g c =
    let above = g.O.TermOrder.above c.args.order.now in
    let spec = c.args.spec.now in
    let lemmas = c.args.lemmas.now in
    let goal = c.args.goal.now in
    record {
      left =
          taken_left (IsStuckStart above spec lemmas goal) c.loop.starts.items c.take_first.new.starts.items
          c.in-Some.start c.in-Some.ensures c.loop.invariant.left;
      made =
          subst (AreOpenStarts above spec lemmas goal) (sym c.in_ok-push.ensures.items)
          (all_append (IsOpenStart above spec lemmas goal) c.loop.made.items (c.in_ok-open_start.field-0 ∷ [])
          c.loop.invariant.made (c.in_ok-open_start.ensures, tt));
    }
