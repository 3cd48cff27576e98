use Rattle.spec_printing.proofs.Again.{printed_reads_back}
use Rattle.spec_printing.proofs.laws.printed_reads_back.Goals as goal

pub returns : goal.returns
returns c = printed_reads_back c.one_reading.ensures
