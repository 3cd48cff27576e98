use Rattle.std.proofs.Common.{◌<◌, [], ◌∷◌, ◌++◌, ap, subst, sym, ◌∙◌, length, arith}
use Rattle.term_core.specs.Tree.{Tree, tree_size}
use Rattle.bank_core.proofs.Ends.{nothing_left}
use Rattle.value_bank.specs.Cells.{IsTerm}
use Rattle.value_bank.specs.Preorders.{IsOrder}
use Rattle.value_bank.proofs.Orders.{walk_begins, walk_next, walk_ends, walk_large, walk_low}
use Rattle.value_bank.proofs.bank.Bank.order.Goals as goal

pub loop-next-init : goal.loop-next-init
loop-next-init c =
    let lt : c.args.place < length c.self.inside.cells = subst (λ cs. c.args.place < length cs)
    (sym c.self.view_is) c.requires in (
      walk_begins c.self.inside.cells c.args.place c.new-order.result.items c.push.new.self.items
          c.self.invariant.0 lt c.new-order.ensures.items (c.in_ok-push.ensures.items
          ∙ ap (λ zs. zs ++ c.args.place ∷ []) c.new-pending.ensures.items),
      omega (arith, ap length c.new-order.ensures.items),
    )

pub returns-then-len-ge-TERM_SYMBOLS : goal.returns-then-len-ge-TERM_SYMBOLS
returns-then-len-ge-TERM_SYMBOLS c = subst (λ cs. (t : Tree) × IsTerm cs c.args.place t × (10000 < tree_size t))
    c.self.view_is (walk_large c.self.inside.cells c.args.place c.in-Some.next c.loop-next.order.items
    c.loop-next.pending.items c.pop.new.self.items c.self.invariant.0 c.in-Some.ensures.items
    (omega (arith, c.if-len-ge-TERM_SYMBOLS.true, c.len.ensures)) c.loop-next.invariant.0)

pub at-requires : goal.at-requires
at-requires c = walk_low c.self.inside.cells c.args.place c.in-Some.next c.loop-next.order.items
    c.loop-next.pending.items c.pop.new.self.items c.in-Some.ensures.items c.loop-next.invariant.0

pub loop-next-preserved : goal.loop-next-preserved
loop-next-preserved c = (
  rw (c.in_ok-extend_from_slice.ensures.items, c.in_ok-push-2.ensures.items)
      (walk_next c.self.inside.cells c.args.place c.in-Some.next c.at.result.0 c.at.result.1.now
      c.loop-next.order.items c.loop-next.pending.items c.pop.new.self.items c.self.invariant.0
      c.in-Some.ensures.items c.at.ensures c.loop-next.invariant.0),
  omega (arith, c.in_ok-push-2.ensures.len, c.if-len-ge-TERM_SYMBOLS.false, c.len.ensures),
)

pub returns : goal.returns
returns c = (
  subst (λ cs. IsOrder cs c.args.place c.loop-next.order.items) c.self.view_is
      (walk_ends c.self.inside.cells c.args.place c.loop-next.order.items c.loop-next.pending.items
      (nothing_left c.loop-next.pending.items (omega (arith, c.in_default.ensures.cases.0)))
      c.loop-next.invariant.0),
  c.loop-next.invariant.1,
)
