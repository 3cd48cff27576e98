use Rattle.spec_printing.proofs.Upgrades.{upgrade_reads_back}
use Rattle.spec_printing.proofs.laws.upgrade_reads_back.Goals as goal

pub returns : goal.returns
returns c = upgrade_reads_back c.one_reading.ensures
