use Rattle.spec_order.specs.Orders.{order_of}
use Rattle.spike_cli.proofs.OneEnding.{one_specification, no_refusal, one_refusal, one_term_text, no_term_refusal}
use Rattle.spike_cli.proofs.OneEnding.{one_term_refusal}
use Rattle.spike_cli.proofs.laws.one_ending.Goals as goal

pub returns : goal.returns
returns c = record {
  one_specification = one_specification;
  no_refusal = no_refusal (λ spec. c.no_fault_where_admitted.ensures (order_of spec));
  one_refusal = one_refusal (λ spec. c.one_fault.ensures (order_of spec));
  terms = record { one_term = one_term_text; no_refusal = no_term_refusal; one_refusal = one_term_refusal };
}
