use Rattle.refuter.proofs.Sizing.{sizes_kept}
use Rattle.refuter.proofs.sized_bank.SizedBank.place.Goals as goal

pub invariant_of-self : goal.invariant_of-self
invariant_of-self c = sizes_kept c.self.inside.bank c.place_terms.new.bank c.self.inside.sizes.items
    c.place_terms.ensures.adds c.self.invariant
