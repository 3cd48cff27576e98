use Rattle.std.proofs.Common.{◌≡◌, ◌++◌, [], List, ap, sym, ◌∙◌, arith}
use Rattle.std.proofs.lemmas.List.{append-nil}
use Rattle.term_core.specs.Tree.{app, trees_of}
use Rattle.term_core.specs.View.{tree_of}
use Rattle.term_core.specs.declared.ids.SortId.{SortId}
use Rattle.test_sets.specs.Children.{sorts_in}
use Rattle.test_sets.proofs.FittingPatterns.{undeclared}
use Rattle.test_sets.proofs.patterns.+push_sorts.Goals as goal

pub push_sorts-returns-then-sym-symbols : goal.push_sorts-returns-then-sym-symbols
push_sorts-returns-then-sym-symbols t c =
    let sig = c.args.sig.now in
    let s = c.args.sort in
    let view : app c.in-App.sym.0 (trees_of c.in-App.args) ≡ c.args.pattern.now = ap tree_of (sym c.in-App.is)
    ∙ c.pattern.view_is in
    let none : sorts_in sig s c.args.pattern.now ≡ [] = ap (λ p. sorts_in sig s p) (sym view)
    ∙ undeclared sig s c.in-App.sym.0 (trees_of c.in-App.args)
    (omega (arith, c.symbols.ensures, c.if-sym-symbols.true)) in
    sym (ap (λ (ss : List SortId). c.args.sorts.now.items ++ ss) none ∙ append-nil c.args.sorts.now.items)
