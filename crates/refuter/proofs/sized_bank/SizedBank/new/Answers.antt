use Rattle.refuter.proofs.Sizing.{sizes_none}
use Rattle.refuter.proofs.sized_bank.SizedBank.new.Goals as goal

pub invariant_of-result : goal.invariant_of-result
invariant_of-result c = sizes_none c.in_ok-bank.bank c.new-2.result.items c.new-2.ensures.items
