use Rattle.spec_order.specs.Orders.{order_of}
use Rattle.spike_cli.proofs.OneReport.{one_right_report}
use Rattle.spike_cli.proofs.laws.one_right_report.Goals as goal

pub returns : goal.returns
returns c =
    one_right_report (λ spec. c.one_block.ensures (order_of spec))
    (λ spec. c.one_proof.ensures (order_of spec))
