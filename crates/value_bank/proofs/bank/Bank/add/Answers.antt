use Rattle.value_bank.proofs.Terms.{bank_added}
use Rattle.value_bank.proofs.bank.Bank.add.Goals as goal

pub invariant_of-self : goal.invariant_of-self
invariant_of-self c =
    bank_added c.self.inside.cells c.add-added.new.self c.args.self.now c.args.sym c.args.args.now c.self.view_is
    c.self.invariant.0 c.requires c.add-added.ensures.added c.shared_law.ensures
