use Rattle.std.proofs.Common.{◌≡◌, ◌∙◌, Result, Ok, Err, Some, List, [], ◌∷◌, ap, length, refl, sym, subst}
use Rattle.std.specs.Prelude.{Contains, OnOk, slice_get}
use Rattle.std.proofs.lemmas.Option.{slice_get_read}
use Rattle.spec_core.specs.declared.records.Goal.{Goal}
use Rattle.spec_core.specs.WellSorted.{IsWellSorted}
use Rattle.clause_core.specs.Tidied.{goal_clause}
use Rattle.descent.specs.SortedChildren.{IsNode}
use Rattle.acceptance.specs.Blocks.{StepsMake}
use Rattle.block_steps.proofs.GoalNodes.{goal_node}
use Rattle.inference_rules.specs.Answers.{clauses_of}
use Rattle.node_names.specs.Nodes.{AreNodeNames}
use Rattle.proof_trees.specs.Firsts.{AreFew, firsts_of}
use Rattle.proof_trees.proofs.ShownProofs.{few_links, shown_proof, whole_block}
use Rattle.proof_trees.proofs.proofs.draw_proof.Goals as goal

on_ok_map : {T E : Type 0} (r : Result T E) (P Q : Type 0) → (P → Q) → OnOk r P → OnOk r Q
on_ok_map (Ok x) P Q f h = f h
on_ok_map (Err e) P Q f h = tt

pub take_steps-requires-clause-start : goal.take_steps-requires-clause-start
take_steps-requires-clause-start g c =
    let spec = c.args.admitted.now.spec in
    let fine : IsWellSorted c.args.admitted.now.spec = rw (← c.admitted.view_is) c.admitted.invariant.0 in
    let here : slice_get spec.goals c.args.number ≡ Some c.in-Some.goal.now =
    rw (← c.admitted.view_is)
    (ap (λ (gs : List Goal). slice_get gs c.args.number) (sym c.as_slice.ensures)
    ∙ slice_get_read c.as_slice.result.now (length c.as_slice.result.now) c.args.number c.in-Some.goal.now refl
    c.in-Some.ensures.lookup.3.0 c.in-Some.ensures.lookup.1) in
    let both : Some c.in-Some.goal.now ≡ Some c.requires.0 = sym here ∙ c.requires.1 in
    let same : c.in-Some.goal.now ≡ c.requires.0 = cc in
    subst (λ s. IsNode spec.sig s) (sym (c.in_ok-start.ensures ∙ ap goal_clause same))
    (goal_node spec fine c.tidying_laws.ensures c.args.number c.requires.0 c.requires.1 c.requires.2.within)

pub take_steps-requires-clause-defined : goal.take_steps-requires-clause-defined
take_steps-requires-clause-defined g c =
    let above = g.O.TermOrder.above c.args.admitted.now.order in
    let spec = c.args.admitted.now.spec in
    let here : slice_get spec.goals c.args.number ≡ Some c.in-Some.goal.now =
    rw (← c.admitted.view_is)
    (ap (λ (gs : List Goal). slice_get gs c.args.number) (sym c.as_slice.ensures)
    ∙ slice_get_read c.as_slice.result.now (length c.as_slice.result.now) c.args.number c.in-Some.goal.now refl
    c.in-Some.ensures.lookup.3.0 c.in-Some.ensures.lookup.1) in
    let both : Some c.in-Some.goal.now ≡ Some c.requires.0 = sym here ∙ c.requires.1 in
    let same : c.in-Some.goal.now ≡ c.requires.0 = cc in (
      c.requires.2.made,
      subst (λ s. StepsMake above spec (Contains c.args.proved.now) (s ∷ []) 0 c.args.steps.now c.requires.2.made)
          (sym (c.in_ok-start.ensures ∙ ap goal_clause same)) c.requires.2.makes,
    )

pub first_children-requires : goal.first_children-requires
first_children-requires g c =
    subst (λ ls. AreFew ls) (sym c.as_slice-2.ensures.value)
    (few_links (g.O.TermOrder.above c.args.admitted.now.order) c.args.admitted.now.spec
    (Contains c.args.proved.now) c.in_ok-start.start c.args.steps.now c.in_ok-taken.taken c.in_ok-taken.ensures)

pub draw_tree-requires : goal.draw_tree-requires
draw_tree-requires g c =
    whole_block (g.O.TermOrder.above c.args.admitted.now.order) c.args.admitted.now.spec
    (Contains c.args.proved.now) c.in_ok-start.start c.args.steps.now c.in_ok-taken.taken c.in_ok-taken.ensures _
    c.as_slice-3.ensures.value c.as_slice-4.ensures.value
    (c.deref-2.ensures.value ∙ c.in_ok-firsts.ensures ∙ ap firsts_of c.as_slice-2.ensures.value)

pub returns : goal.returns
returns g c =
    on_ok_map c.draw_tree.result _ _
    (λ page other at.
    let here : slice_get c.args.admitted.now.spec.goals c.args.number ≡ Some c.in-Some.goal.now =
    rw (← c.admitted.view_is)
    (ap (λ (gs : List Goal). slice_get gs c.args.number) (sym c.as_slice.ensures)
    ∙ slice_get_read c.as_slice.result.now (length c.as_slice.result.now) c.args.number c.in-Some.goal.now refl
    c.in-Some.ensures.lookup.3.0 c.in-Some.ensures.lookup.1) in
    let both : Some c.in-Some.goal.now ≡ Some other = sym here ∙ at in
    let same : c.in-Some.goal.now ≡ other = cc in
    let spec_is : c.admitted.inside.spec ≡ c.args.admitted.now.spec = rw (← c.admitted.view_is) refl in
    let named : AreNodeNames c.args.admitted.now.spec c.in-Some.goal.now
    (clauses_of c.in_ok-taken.taken.nodes.items) c.in_ok-names.names.items =
    rw (← c.admitted.view_is) c.in_ok-names.ensures in (
      _,
      page,
      shown_proof (g.O.TermOrder.above c.args.admitted.now.order) c.args.admitted.now.spec
          (Contains c.args.proved.now) c.in_ok-start.start c.args.steps.now c.in_ok-taken.taken c.in_ok-taken.ensures
          other c.args.number c.admitted.inside.spec c.as_slice-3.result.now c.as_slice-4.result.now
          c.deref.result.now c.as_slice-3.ensures.value c.as_slice-4.ensures.value
          (c.in_ok-start.ensures ∙ ap goal_clause same) spec_is
          (subst (λ g. AreNodeNames c.args.admitted.now.spec g (clauses_of c.in_ok-taken.taken.nodes.items)
          c.deref.result.now) same
          (subst (λ ns. AreNodeNames c.args.admitted.now.spec c.in-Some.goal.now
          (clauses_of c.in_ok-taken.taken.nodes.items) ns) (sym c.deref.ensures.value) named)),
    )) c.draw_tree.ensures
