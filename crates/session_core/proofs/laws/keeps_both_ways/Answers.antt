use Rattle.std.proofs.Common.{[], refl}
use Rattle.session_core.proofs.Undoing.{goal_begins, goal_undone, step_kept, step_undone}
use Rattle.session_core.proofs.laws.keeps_both_ways.Goals as goal

pub returns : goal.returns
returns g c =
    let above = g.O.TermOrder.above c.args.order.now in
    let one = c.one_relation.ensures in
    record {
      starts = λ spec. record { finished = []; last = []; is = refl; claims = tt; work = tt };
      goal_begins = λ spec old new name t goals k. goal_begins above spec old new name t goals k;
      goal_undone = λ spec old new name t goals k. goal_undone above spec old new name t goals k;
      step_taken = λ spec old new step t front kept fine sound others k. step_kept above spec one fine old new step
          sound t front kept others k;
      step_undone = λ spec old new step t goals fine sound k. (let u = step_undone above spec one fine old new step
          sound t goals k in (u.front, u.k, u.is, u.nodes, u.links, u.lengths, u.keeps));
    }
