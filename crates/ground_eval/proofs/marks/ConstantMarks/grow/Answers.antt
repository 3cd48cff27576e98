use Rattle.std.proofs.Common.{◌≡◌, Some, List, Bool, subst, length, sym}
use Rattle.std.specs.Prelude.{slice_get}
use Rattle.value_bank.specs.Cells.{cell}
use Rattle.ground_eval.specs.Constants.{AreMarks}
use Rattle.ground_eval.proofs.Marking.{marks_grown}
use Rattle.ground_eval.proofs.marks.ConstantMarks.grow.Goals as goal

pub loop-constants-preserved : goal.loop-constants-preserved
loop-constants-preserved c =
    let from = c.args.constants.from in
    let to = c.args.constants.to in
    let place : c.number-next.result ≡ length c.loop-constants.self.marks.items = cc in
    let at : slice_get c.args.bank.now (length c.loop-constants.self.marks.items) ≡ Some
    (cell c.cell-sym.result.0 c.cell-sym.result.1.now) = subst
    (λ n. slice_get c.args.bank.now n ≡ Some (cell c.cell-sym.result.0 c.cell-sym.result.1.now)) place
    c.cell-sym.ensures in
    marks_grown from to c.args.bank.now c.loop-constants.self.marks.items c.push.new.self.items
    c.cell-sym.result.0 c.cell-sym.result.1.now c.has.result c.in_ok-inside.inside c.either.result
    c.loop-constants.invariant
    at (c.in_ok-inside.ensures from to c.args.bank.now
    (subst (λ (xs : List Bool). AreMarks from to c.args.bank.now xs) (sym c.deref.ensures.value)
    c.loop-constants.invariant)) c.has.ensures c.either.ensures c.in_ok-push.ensures.items
