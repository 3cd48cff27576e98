use Rattle.std.proofs.Common.{ap, arith}
use Rattle.term_core.proofs.Measured.{numbered_needs, numbered_from}
use Rattle.term_core.specs.declared.measures.Measure.{Measure}
use Rattle.term_core.proofs.tree.Term.numbered_after.Goals as goal

pub returns-then-measure-before : goal.returns-then-measure-before
returns-then-measure-before c = λ m h.
    let need = ap (λ (k : Measure). k.need) c.measure-measure.ensures in
    omega (arith, need, c.if-measure-before.true, (numbered_needs c.args.before m c.args.self.now h).0)

pub returns : goal.returns
returns c =
    let need = ap (λ (k : Measure). k.need) c.measure-measure.ensures in
    let bound = ap (λ (k : Measure). k.bound) c.measure-measure.ensures in
    numbered_from c.args.before c.max.result c.args.self.now
    (omega (arith, need, c.if-measure-before.false)) (omega (arith, bound, c.max.ensures))
