use Rattle.std.proofs.Common.{ap, sym, ◌∙◌, take}
use Rattle.term_core.specs.Tree.{trees_of}
use Rattle.term_core.specs.Measures.{measures_of, followed}
use Rattle.term_core.specs.declared.measures.Measure.{Measure}
use Rattle.term_core.proofs.Measured.{measures-take_more}
use Rattle.term_core.proofs.tree.measure_all.Goals as goal

pub loop-term-preserved : goal.loop-term-preserved
loop-term-preserved c =
    let index = c.loop-term.term-index in
    let before = measures_of (trees_of (take index c.args.terms.now)) in
    c.and-measure.ensures
    ∙ ap (λ (m : Measure). followed m c.measure.result) c.loop-term.invariant
    ∙ ap (followed before) c.measure.ensures
    ∙ sym (measures-take_more c.args.terms.now index c.term-item.result c.loop-term-test.true c.term-item.is)
