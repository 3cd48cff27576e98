use Rattle.std.proofs.Common.{◌≡◌, length, refl, sym, Some, None}
use Rattle.std.specs.Prelude.{slice_get}
use Rattle.std.proofs.lemmas.Option.{slice_get-map, slice_get_past, slice_get_read}
use Rattle.clause_core.specs.declared.clauses.Clause.{Clause}
use Rattle.inference_rules.specs.declared.nodes.Node.{Node}
use Rattle.page_core.proofs.Pages.{after-none}
use Rattle.proof_trees.proofs.blocks.NamedBlock.draw_case.Goals as goal

clause_in : Node → Clause
clause_in n = n.clause

pub returns-in_default : goal.returns-in_default
returns-in_default c =
    rw (slice_get_past c.args.self.now.steps.now c.args.node c.in_default.ensures.lookup.3)
    (sym (after-none c.args.page.now))

pub returns-in_default-get : goal.returns-in_default-get
returns-in_default-get c =
    let none : slice_get c.args.self.now.nodes.now c.args.child ≡ None =
    slice_get_past c.args.self.now.nodes.now c.args.child c.in_default-get.ensures.lookup.3 in
    rw (slice_get_read c.args.self.now.steps.now (length c.args.self.now.steps.now) c.args.node
    c.in-Some.step.now refl c.in-Some.ensures.lookup.3.0 c.in-Some.ensures.lookup.1)
    (rw (slice_get-map (λ (n : Node). n.clause) c.args.self.now.nodes.now c.args.child)
    (rw none (sym (after-none c.args.page.now))))

pub returns : goal.returns
returns c =
    let node : slice_get c.args.self.now.nodes.now c.args.child ≡ Some c.in-Some-get.made.now =
    slice_get_read c.args.self.now.nodes.now (length c.args.self.now.nodes.now) c.args.child
    c.in-Some-get.made.now refl c.in-Some-get.ensures.lookup.3.0 c.in-Some-get.ensures.lookup.1 in
    rw (slice_get_read c.args.self.now.steps.now (length c.args.self.now.steps.now) c.args.node
    c.in-Some.step.now refl c.in-Some.ensures.lookup.3.0 c.in-Some.ensures.lookup.1)
    (rw (slice_get-map (λ (n : Node). n.clause) c.args.self.now.nodes.now c.args.child)
    (rw node
    (rw (← c.names_at.ensures) (rw (← c.names_at-2.ensures)
    (rw (← c.pattern_names.ensures) (rw (← c.premise_count.ensures) c.draw_case.ensures))))))
