use Rattle.spec_core.specs.declared.records.Spec.{Spec}
use Rattle.spec_order.specs.Orders.{order_of}
use Rattle.spike_cli.specs.Replays.{IsYesLine}
use Rattle.spike_cli.proofs.OneReplay.{one_line, one_reply}
use Rattle.spike_cli.proofs.laws.one_replay.Goals as goal

pub returns : goal.returns
returns c =
    one_reply IsYesLine one_line c.one_report.ensures c.one_fault.ensures
    (λ (spec : Spec). c.one_verdict.ensures (order_of spec))
