use Rattle.std.proofs.Common.{arith, sym, ap, subst, ◌∙◌}
use Rattle.term_core.specs.View.{tree_of}
use Rattle.term_core.proofs.Trees.{weight-member}
use Rattle.unifier.specs.declared.unification.graph.Shape.TheVariants.{Var, App}
use Rattle.unifier.specs.Graph.{HasNoNode}
use Rattle.unifier.specs.Adding.{AddsAll}
use Rattle.unifier.proofs.Growing.{adds_variable, adds_application, adds_next, adds_all, adds_pushed}
use Rattle.unifier.proofs.unification.graph.+add.Goals as goal

pub add-returns-in-None : goal.add-returns-in-None
add-returns-in-None t c =
    adds_pushed c.push.result c.args.graph.now.items c.args.graph.now.items c.push.new.graph.items
    (Var c.in-Var.var) _ c.args.term.now (ap tree_of (sym c.in-Var.is) ∙ c.term.view_is)
    c.push.ensures.place c.push.ensures.pushed
    (adds_variable c.args.graph.now.items c.in-Var.var
    (subst (λ g. HasNoNode g c.in-Var.var.0) c.deref.ensures.value c.in-None.ensures))

pub add-returns-in_ok-nodes-in-App : goal.add-returns-in_ok-nodes-in-App
add-returns-in_ok-nodes-in-App t c =
    adds_pushed c.push-in-App.result c.args.graph.now.items c.add_all.new.graph.items
    c.push-in-App.new.graph.items (App c.in-App.sym c.in_ok-nodes-in-App.nodes) _ c.args.term.now
    (ap tree_of (sym c.in-App.is) ∙ c.term.view_is) c.push-in-App.ensures.place c.push-in-App.ensures.pushed
    (adds_application c.args.graph.now.items c.add_all.new.graph.items c.in-App.sym
    c.in_ok-nodes-in-App.nodes c.in-App.args
    (subst (λ ts. AddsAll c.args.graph.now.items ts c.in_ok-nodes-in-App.nodes c.add_all.new.graph.items)
    c.as_slice.ensures c.in_ok-nodes-in-App.ensures))

pub add_all-add-requires : goal.add_all-add-requires
add_all-add-requires t
    c = (
      omega (
        arith,
        weight-member c.args.terms.now c.loop-term.term-index c.term-item.result
            c.loop-term-test.true c.term-item.is,
      ),
      tt,
    )

pub add_all-loop-term-preserved : goal.add_all-loop-term-preserved
add_all-loop-term-preserved t c = adds_next c.args.graph.now.items c.loop-term.graph.items c.add.new.graph.items
    c.args.terms.now c.loop-term.term-index c.term-item.result c.loop-term.nodes c.push.new.self
    c.in_ok-add.field-0 c.loop-term-test.true c.term-item.is c.loop-term.invariant c.in_ok-add.ensures
    c.in_ok-push.ensures.pushed

pub add_all-returns : goal.add_all-returns
add_all-returns t c = adds_all c.args.graph.now.items c.loop-term.graph.items c.args.terms.now
    c.loop-term.term-index c.loop-term.nodes (omega (arith, c.loop-term-test.false)) c.loop-term.invariant
