use Rattle.std.proofs.Common.{Option, ap, ◌∙◌}
use Rattle.std.specs.Prelude.{option_map, option_to_list}
use Rattle.term_core.specs.declared.ids.VarId.{VarId}
use Rattle.routine_proof.specs.declared.moves.Move.{Move}
use Rattle.routine_proof.specs.Entries.{cover, demanded_covers}
use Rattle.proof_search.specs.Taking.{SaysAt, IsFound}
use Rattle.proof_search.proofs.CoverSteps.{demanded_none, demanded_found}
use Rattle.term_core.proofs.Items.{if_ok_map}
use Rattle.proof_search.proofs.covering.demanded_cover.Goals as goal

pub returns-in-None : goal.returns-in-None
returns-in-None g c = demanded_none (SaysAt (g.O.TermOrder.above c.args.order.now) c.args.at.now)
    c.args.at.now.setting.now.spec.now c.args.at.now.here.now
    (c.in_ok-asked.ensures ∙ ap (λ (o : Option VarId). option_to_list
    (option_map (λ (v : VarId). v.0) o)) c.in-None.is)

pub returns-in-Some : goal.returns-in-Some
returns-in-Some g c =
    let at = c.args.at.now in
    let above = g.O.TermOrder.above c.args.order.now in
    let spec = at.setting.now.spec.now in
    if_ok_map c.cover_of.result (IsFound above at (cover spec at.here.now c.in-Some.variable.0))
    (IsFound above at (demanded_covers spec at.here.now))
    (λ (found : Option Move) first. demanded_found
    (SaysAt above at) spec at.here.now c.in-Some.variable.0 found
    (c.in_ok-asked.ensures ∙ ap (λ (o : Option VarId). option_to_list
    (option_map (λ (v : VarId). v.0) o)) c.in-Some.is) first)
    c.cover_of.ensures
