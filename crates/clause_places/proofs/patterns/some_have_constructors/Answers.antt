use Rattle.std.proofs.Common.{sym, ◌∙◌, ap, []}
use Rattle.clause_places.specs.Demand.{some_look_at}
use Rattle.clause_places.proofs.PatternReferences.{some_at}
use Rattle.clause_places.proofs.patterns.some_have_constructors.Goals as goal

pub returns-then-has_constructor : goal.returns-then-has_constructor
returns-then-has_constructor c =
    let sig = c.args.sig.now in
    let here = sym c.has_constructor.ensures ∙ c.if-has_constructor.true in
    sym
    (ap (λ ts. some_look_at sig ts []) (sym c.as_slice-pattern-items.ensures)
    ∙ some_at sig c.as_slice-pattern-items.result.now c.loop-pattern.pattern-index
    c.pattern-item.result c.loop-pattern-test.true c.pattern-item.is here)
