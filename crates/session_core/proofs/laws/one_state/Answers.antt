use Rattle.session_core.specs.States.{start}
use Rattle.session_core.proofs.OneState.{lead_more, lead_last, lead_one}
use Rattle.session_core.proofs.laws.one_state.Goals as goal

pub returns : goal.returns
returns g c =
    let above = g.O.TermOrder.above c.args.order.now in
    let one = c.one_relation.ensures in
    record {
      one = λ spec commands state other fine p q. lead_one above spec one fine start commands state other p q;
      one_more = λ spec commands command old new p a. lead_more above spec start commands old new command p a;
      undone = λ spec commands command old new state fine p a q. (
        lead_one above spec one fine start _ state new q
            (lead_more above spec start commands old new command p a),
        λ before r. lead_one above spec one fine start
            commands before old r p,
      );
      before = λ spec commands command new p. lead_last above spec start commands new command p;
    }
