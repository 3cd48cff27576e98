use Rattle.std.proofs.Common.{sym, subst}
use Rattle.refuter.specs.Sizes.{AreSizes}
use Rattle.refuter.proofs.Sizing.{sizes_kept, sizes_noted, made_size}
use Rattle.refuter.proofs.sized_bank.SizedBank.add.Goals as goal

pub invariant_of-self : goal.invariant_of-self
invariant_of-self c = sizes_kept c.self.inside.bank c.add.new.self c.self.inside.sizes.items c.add.ensures.adds
    c.self.invariant

pub invariant_of-self-in_err-note : goal.invariant_of-self-in_err-note
invariant_of-self-in_err-note c =
    sizes_noted c.self.inside.bank c.add.new.self c.self.inside.sizes.items c.note.new.sizes.items
    c.in_ok-place.place c.size_by-size.result c.add.ensures.adds c.self.invariant c.note.ensures (λ lt.
    made_size c.self.inside.bank c.add.new.self c.deref.result.now c.args.args.now c.size_by-size.result
    c.in_ok-place.place c.args.sym c.size_by-size.ensures
    (subst (λ kept. AreSizes c.self.inside.bank kept) (sym c.deref.ensures.value) c.self.invariant)
    c.add.ensures.adds c.in_ok-place.ensures.found lt)

pub invariant_of-self-2 : goal.invariant_of-self-2
invariant_of-self-2 c =
    sizes_noted c.self.inside.bank c.add.new.self c.self.inside.sizes.items c.note.new.sizes.items
    c.in_ok-place.place c.size_by-size.result c.add.ensures.adds c.self.invariant c.note.ensures (λ lt.
    made_size c.self.inside.bank c.add.new.self c.deref.result.now c.args.args.now c.size_by-size.result
    c.in_ok-place.place c.args.sym c.size_by-size.ensures
    (subst (λ kept. AreSizes c.self.inside.bank kept) (sym c.deref.ensures.value) c.self.invariant)
    c.add.ensures.adds c.in_ok-place.ensures.found lt)
