use Rattle.spec_core.specs.declared.records.Spec.{Spec}
use Rattle.spec_order.specs.Orders.{order_of}
use Rattle.spike_cli.specs.Trims.{IsTrimmedText}
use Rattle.spike_cli.proofs.OneReplay.{one_reply, one_trimmed}
use Rattle.spike_cli.proofs.laws.one_trim.Goals as goal

pub returns : goal.returns
returns c =
    one_reply IsTrimmedText one_trimmed c.one_report.ensures c.one_fault.ensures
    (λ (spec : Spec). c.one_verdict.ensures (order_of spec))
