use Rattle.std.proofs.Common.{List, ℕ, subst}
use Rattle.spec_order.specs.Orders.{order_of}
use Rattle.accepted_spec.specs.Refusals.{IsRefusalOf}
use Rattle.accepted_spec.specs.Tellings.{Tells}
use Rattle.accepted_spec.specs.declared.refusals.Refusal.{Refusal}
use Rattle.explorations.proofs.RefusedTexts.{no_refusal}
use Rattle.explorations.proofs.texts.accepted_text.Goals as goal

pub returns-in-Err-Line : goal.returns-in-Err-Line
returns-in-Err-Line c = λ raw spec t.
    let refusal = subst (λ (r : Refusal). Tells (λ (line : List ℕ). IsRefusalOf c.args.text.now line) r)
    c.in-Err-Line.field-0-is c.in-Err-Line.ensures.refused in
    no_refusal c.one_reading.ensures c.one_specification.ensures c.one_fault.ensures
    c.faulty_stands_for_none.ensures (λ s. c.no_fault_where_admitted.ensures (order_of s)) c.args.text.now
    c.in-Err-Line.field-0-0.items raw spec t.accepted refusal
