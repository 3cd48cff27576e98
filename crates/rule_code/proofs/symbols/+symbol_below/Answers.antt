use Rattle.std.proofs.Common.{◌≡◌, Some, refl, ap, sym, ◌∙◌, length, arith}
use Rattle.std.specs.Prelude.{slice_get}
use Rattle.std.proofs.lemmas.Option.{slice_get_within}
use Rattle.term_core.specs.Tree.{trees_of}
use Rattle.term_core.proofs.Trees.{list_of-trees_of}
use Rattle.value_bank.specs.Cells.{cell}
use Rattle.rule_code.proofs.Looking.{missing, reached, deeper, got_past, no_term, place_there, value_at}
use Rattle.rule_code.proofs.Ranges.{item_listed}
use Rattle.rule_code.proofs.symbols.+symbol_below.Goals as goal

pub cell-sym-requires : goal.cell-sym-requires
cell-sym-requires t c =
    let at : slice_get c.args.args.now c.args.argument ≡ Some c.in-Some.place.now = item_listed c.args.args.now
    c.args.args.now c.args.argument c.in-Some.place.now refl c.in-Some.ensures.lookup.3.0
    c.in-Some.ensures.lookup.1 in
    let p = place_there c.args.bank.now c.args.args.now c.requires.0 c.args.argument c.in-Some.place.now
    c.requires.1 at in
    slice_get_within c.args.bank.now c.in-Some.place.now (cell p.0 p.1) p.2

pub returns-in-None : goal.returns-in-None
returns-in-None t c terms stand = sym
    (missing c.args.below.now c.args.argument terms
    (no_term c.args.bank.now c.args.args.now terms c.args.argument stand
    (got_past c.args.args.now c.args.argument c.in-None.ensures.lookup.3)))

pub returns-in-None-front : goal.returns-in-None-front
returns-in-None-front t c terms stand =
    let at : slice_get c.args.args.now c.args.argument ≡ Some c.in-Some.place.now = item_listed c.args.args.now
    c.args.args.now c.args.argument c.in-Some.place.now refl c.in-Some.ensures.lookup.3.0
    c.in-Some.ensures.lookup.1 in
    let v = value_at c.args.bank.now c.args.args.now terms c.args.argument c.in-Some.place.now
    c.cell-sym.result.0 c.cell-sym.result.1.now stand at c.cell-sym.ensures in
    sym (reached c.args.below.now c.args.argument c.cell-sym.result.0 (trees_of v.terms) terms v.at
    c.in-None-front.ensures)

pub symbol_below-requires : goal.symbol_below-requires
symbol_below-requires t c =
    let at : slice_get c.args.args.now c.args.argument ≡ Some c.in-Some.place.now = item_listed c.args.args.now
    c.args.args.now c.args.argument c.in-Some.place.now refl c.in-Some.ensures.lookup.3.0
    c.in-Some.ensures.lookup.1 in
    let v = value_at c.args.bank.now c.args.args.now c.requires.0 c.args.argument c.in-Some.place.now
    c.cell-sym.result.0 c.cell-sym.result.1.now c.requires.1 at c.cell-sym.ensures in
    (omega (arith, ap length c.in-Some-front.ensures), (v.terms, v.stand))

pub returns-in-Some-front : goal.returns-in-Some-front
returns-in-Some-front t c terms stand =
    let at : slice_get c.args.args.now c.args.argument ≡ Some c.in-Some.place.now = item_listed c.args.args.now
    c.args.args.now c.args.argument c.in-Some.place.now refl c.in-Some.ensures.lookup.3.0
    c.in-Some.ensures.lookup.1 in
    let v = value_at c.args.bank.now c.args.args.now terms c.args.argument c.in-Some.place.now
    c.cell-sym.result.0 c.cell-sym.result.1.now stand at c.cell-sym.ensures in
    c.symbol_below.ensures v.terms v.stand
    ∙ sym (deeper c.args.below.now c.in-Some-front.rest.now c.args.argument c.in-Some-front.next.now
    c.cell-sym.result.0 (trees_of v.terms) v.terms terms v.at c.in-Some-front.ensures (list_of-trees_of v.terms))
