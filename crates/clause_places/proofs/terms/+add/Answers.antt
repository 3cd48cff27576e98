use Rattle.std.proofs.Common.{◌≡◌, ap, sym, ◌∙◌, arith}
use Rattle.term_core.specs.Tree.{app, trees_of}
use Rattle.term_core.specs.View.{tree_of}
use Rattle.term_core.proofs.Trees.{weight-member}
use Rattle.clause_places.proofs.ListedTerms.{call_added}
use Rattle.clause_places.proofs.terms.+add.Goals as goal

pub add_arguments-add_term-requires : goal.add_arguments-add_term-requires
add_arguments-add_term-requires t c =
    let lighter =
    weight-member c.args.terms.now c.loop-term.term-index c.term-item.result
    c.loop-term-test.true c.term-item.is in
    (omega (arith, lighter), tt)

pub add_term-returns-in_ok-add_arguments-in-App : goal.add_term-returns-in_ok-add_arguments-in-App
add_term-returns-in_ok-add_arguments-in-App t c =
    let f = c.in-App.field-0.0 in
    let is : app f (trees_of c.in-App.args) ≡ c.args.term.now =
    ap tree_of (sym c.in-App.is) ∙ c.term.view_is in
    call_added c.push-in-App.result c.args.term.now f c.in-App.args c.as_slice.result.now
    c.args.made.now c.add_arguments.new.made c.push-in-App.new.self is c.as_slice.ensures
    c.in_ok-add_arguments-in-App.ensures c.push-in-App.ensures
