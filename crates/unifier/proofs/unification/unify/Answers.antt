use Rattle.unifier.proofs.Solving.{graph_of, numbered_at, variables_at, first_at, second_at, clash_at, cycle_at}
use Rattle.unifier.proofs.Solving.{answer_at}
use Rattle.unifier.proofs.unification.unify.Goals as goal

pub close-requires-clause-graph : goal.close-requires-clause-graph
close-requires-clause-graph c =
    numbered_at c.add-2.new.graph.items c.in_ok-first.first c.in_ok-second.second c.args.a.now c.args.b.now
    (graph_of c.new-graph.result.items c.add.new.graph.items c.add-2.new.graph.items c.in_ok-first.first
    c.in_ok-second.second c.args.a.now c.args.b.now c.new-graph.ensures.items c.in_ok-first.ensures
    c.in_ok-second.ensures) c.deref.result.now c.deref.ensures.value

pub close-requires-clause-first : goal.close-requires-clause-first
close-requires-clause-first c =
    first_at c.add-2.new.graph.items c.in_ok-first.first c.in_ok-second.second c.args.a.now c.args.b.now
    (graph_of c.new-graph.result.items c.add.new.graph.items c.add-2.new.graph.items c.in_ok-first.first
    c.in_ok-second.second c.args.a.now c.args.b.now c.new-graph.ensures.items c.in_ok-first.ensures
    c.in_ok-second.ensures) c.deref.result.now c.deref.ensures.value

pub close-requires-clause-second : goal.close-requires-clause-second
close-requires-clause-second c =
    second_at c.add-2.new.graph.items c.in_ok-first.first c.in_ok-second.second c.args.a.now c.args.b.now
    (graph_of c.new-graph.result.items c.add.new.graph.items c.add-2.new.graph.items c.in_ok-first.first
    c.in_ok-second.second c.args.a.now c.args.b.now c.new-graph.ensures.items c.in_ok-first.ensures
    c.in_ok-second.ensures) c.deref.result.now c.deref.ensures.value

pub returns-in_default-clause-none : goal.returns-in_default-clause-none
returns-in_default-clause-none c =
    clash_at c.add-2.new.graph.items c.in_ok-first.first c.in_ok-second.second c.args.a.now c.args.b.now
    (graph_of c.new-graph.result.items c.add.new.graph.items c.add-2.new.graph.items c.in_ok-first.first
    c.in_ok-second.second c.args.a.now c.args.b.now c.new-graph.ensures.items c.in_ok-first.ensures
    c.in_ok-second.ensures) c.deref.result.now c.deref.ensures.value c.in_ok-roots.field-0 c.in_default.is
    c.in_ok-roots.ensures.clash

pub is_acyclic-requires-clause-graph : goal.is_acyclic-requires-clause-graph
is_acyclic-requires-clause-graph c =
    numbered_at c.add-2.new.graph.items c.in_ok-first.first c.in_ok-second.second c.args.a.now c.args.b.now
    (graph_of c.new-graph.result.items c.add.new.graph.items c.add-2.new.graph.items c.in_ok-first.first
    c.in_ok-second.second c.args.a.now c.args.b.now c.new-graph.ensures.items c.in_ok-first.ensures
    c.in_ok-second.ensures) c.deref-2.result.now c.deref-2.ensures.value

pub returns-then-not-branch-clause-none : goal.returns-then-not-branch-clause-none
returns-then-not-branch-clause-none c =
    cycle_at c.add-2.new.graph.items c.in_ok-first.first c.in_ok-second.second c.args.a.now c.args.b.now
    (graph_of c.new-graph.result.items c.add.new.graph.items c.add-2.new.graph.items c.in_ok-first.first
    c.in_ok-second.second c.args.a.now c.args.b.now c.new-graph.ensures.items c.in_ok-first.ensures
    c.in_ok-second.ensures) c.deref.result.now c.deref.ensures.value c.in_ok-roots.field-0 c.in-Some.roots
    c.in-Some.is c.in_ok-roots.ensures.closed c.deref-2.result.now c.deref-3.result.now
    c.deref-2.ensures.value c.deref-3.ensures.value c.in_ok-is_acyclic.field-0 c.in_ok-is_acyclic.ensures
    c.if-not-branch.true

pub entries-requires-clause-graph : goal.entries-requires-clause-graph
entries-requires-clause-graph c =
    numbered_at c.add-2.new.graph.items c.in_ok-first.first c.in_ok-second.second c.args.a.now c.args.b.now
    (graph_of c.new-graph.result.items c.add.new.graph.items c.add-2.new.graph.items c.in_ok-first.first
    c.in_ok-second.second c.args.a.now c.args.b.now c.new-graph.ensures.items c.in_ok-first.ensures
    c.in_ok-second.ensures) c.deref-4.result.now c.deref-4.ensures.value

pub entries-requires-clause-variables : goal.entries-requires-clause-variables
entries-requires-clause-variables c =
    variables_at c.add-2.new.graph.items c.in_ok-first.first c.in_ok-second.second c.args.a.now c.args.b.now
    (graph_of c.new-graph.result.items c.add.new.graph.items c.add-2.new.graph.items c.in_ok-first.first
    c.in_ok-second.second c.args.a.now c.args.b.now c.new-graph.ensures.items c.in_ok-first.ensures
    c.in_ok-second.ensures) c.deref-4.result.now c.deref-4.ensures.value

pub returns-clause-general : goal.returns-clause-general
returns-clause-general c =
    (answer_at c.add-2.new.graph.items c.in_ok-first.first c.in_ok-second.second c.args.a.now c.args.b.now
    (graph_of c.new-graph.result.items c.add.new.graph.items c.add-2.new.graph.items c.in_ok-first.first
    c.in_ok-second.second c.args.a.now c.args.b.now c.new-graph.ensures.items c.in_ok-first.ensures
    c.in_ok-second.ensures) c.deref.result.now c.deref.ensures.value c.in_ok-roots.field-0 c.in-Some.roots
    c.in-Some.is c.in_ok-roots.ensures.closed c.deref-2.result.now c.deref-3.result.now
    c.deref-2.ensures.value c.deref-3.ensures.value c.in_ok-is_acyclic.field-0 c.in_ok-is_acyclic.ensures
    c.if-not-branch.false c.deref-4.result.now c.deref-5.result.now c.deref-4.ensures.value
    c.deref-5.ensures.value c.in_ok-entries.field-0.terms c.in_ok-entries.ensures).general

pub returns-clause-relevant : goal.returns-clause-relevant
returns-clause-relevant c =
    (answer_at c.add-2.new.graph.items c.in_ok-first.first c.in_ok-second.second c.args.a.now c.args.b.now
    (graph_of c.new-graph.result.items c.add.new.graph.items c.add-2.new.graph.items c.in_ok-first.first
    c.in_ok-second.second c.args.a.now c.args.b.now c.new-graph.ensures.items c.in_ok-first.ensures
    c.in_ok-second.ensures) c.deref.result.now c.deref.ensures.value c.in_ok-roots.field-0 c.in-Some.roots
    c.in-Some.is c.in_ok-roots.ensures.closed c.deref-2.result.now c.deref-3.result.now
    c.deref-2.ensures.value c.deref-3.ensures.value c.in_ok-is_acyclic.field-0 c.in_ok-is_acyclic.ensures
    c.if-not-branch.false c.deref-4.result.now c.deref-5.result.now c.deref-4.ensures.value
    c.deref-5.ensures.value c.in_ok-entries.field-0.terms c.in_ok-entries.ensures).relevant

pub returns-clause-sorted : goal.returns-clause-sorted
returns-clause-sorted c =
    (answer_at c.add-2.new.graph.items c.in_ok-first.first c.in_ok-second.second c.args.a.now c.args.b.now
    (graph_of c.new-graph.result.items c.add.new.graph.items c.add-2.new.graph.items c.in_ok-first.first
    c.in_ok-second.second c.args.a.now c.args.b.now c.new-graph.ensures.items c.in_ok-first.ensures
    c.in_ok-second.ensures) c.deref.result.now c.deref.ensures.value c.in_ok-roots.field-0 c.in-Some.roots
    c.in-Some.is c.in_ok-roots.ensures.closed c.deref-2.result.now c.deref-3.result.now
    c.deref-2.ensures.value c.deref-3.ensures.value c.in_ok-is_acyclic.field-0 c.in_ok-is_acyclic.ensures
    c.if-not-branch.false c.deref-4.result.now c.deref-5.result.now c.deref-4.ensures.value
    c.deref-5.ensures.value c.in_ok-entries.field-0.terms c.in_ok-entries.ensures).sorted
