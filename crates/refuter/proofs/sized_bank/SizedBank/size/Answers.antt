use Rattle.std.proofs.Common.{sym, subst}
use Rattle.value_bank.specs.Cells.{IsTerm}
use Rattle.value_bank.proofs.Placed.{adds_nothing, term_within}
use Rattle.refuter.specs.Sizes.{AreSizes}
use Rattle.refuter.proofs.Sizing.{sizes_noted, size_known, size_is}
use Rattle.refuter.proofs.sized_bank.SizedBank.size.Goals as goal

pub returns-then-known-gt0-clause-size : goal.returns-then-known-gt0-clause-size
returns-then-known-gt0-clause-size c t h =
    size_is c.self.inside.bank c.args.place c.known_size-known.result c.args.bound c.min.result
    (size_known c.self.inside.bank c.deref.result.now c.args.place c.known_size-known.result
    (subst (λ kept. AreSizes c.self.inside.bank kept) (sym c.deref.ensures.value) c.self.invariant)
    (c.known_size-known.ensures c.if-known-gt0.true) c.if-known-gt0.true) c.requires.few c.min.ensures t
    (subst (λ cells. IsTerm cells c.args.place t) (sym c.self.view_is) h)

pub count_symbols-requires : goal.count_symbols-requires
count_symbols-requires c = term_within c.self.inside.bank c.args.place c.requires.there.0
    (subst (λ cells. IsTerm cells c.args.place c.requires.there.0) (sym c.self.view_is) c.requires.there.1)

pub invariant_of-self : goal.invariant_of-self
invariant_of-self c = sizes_noted c.self.inside.bank c.self.inside.bank c.self.inside.sizes.items
    c.note.new.sizes.items c.args.place c.in_ok-counted.counted (adds_nothing c.self.inside.bank)
    c.self.invariant c.note.ensures (λ lt. c.in_ok-counted.ensures)

pub invariant_of-self-2 : goal.invariant_of-self-2
invariant_of-self-2 c = sizes_noted c.self.inside.bank c.self.inside.bank c.self.inside.sizes.items
    c.note.new.sizes.items c.args.place c.in_ok-counted.counted (adds_nothing c.self.inside.bank)
    c.self.invariant c.note.ensures (λ lt. c.in_ok-counted.ensures)

pub returns-clause-size : goal.returns-clause-size
returns-clause-size c t h =
    size_is c.self.inside.bank c.args.place c.in_ok-counted.counted c.args.bound c.min-2.result
    c.in_ok-counted.ensures c.requires.few c.min-2.ensures t
    (subst (λ cells. IsTerm cells c.args.place t) (sym c.self.view_is) h)
