use Rattle.std.proofs.Common.{◌≡◌, ◌<◌, ◌∙◌, ◌++◌, ◌∷◌, [], List, ap, arith, get_or, length, refl, sym}
use Rattle.std.proofs.lemmas.List.{length-map}
use Rattle.std.proofs.lemmas.Option.{slice_get_within}
use Rattle.std.proofs.lemmas.Result.{err_from_is_err_and}
use Rattle.spec_core.specs.declared.records.Goal.{Goal}
use Rattle.spec_core.specs.WellSorted.{IsWellSorted}
use Rattle.clause_core.specs.declared.steps.Step.{Step}
use Rattle.clause_core.specs.ClauseLaws.{OneRelation}
use Rattle.descent.specs.SortedChildren.{ChildrenAreSorted}
use Rattle.inference_rules.specs.declared.nodes.Node.{Node}
use Rattle.inference_rules.specs.Answers.{clauses_of}
use Rattle.session_core.specs.declared.kept_goals.KeptGoal.{KeptGoal}
use Rattle.session_core.specs.Lengths.{lengths_after, steps_length}
use Rattle.session_core.specs.Taking.{with_made}
use Rattle.session_core.specs.Value.{kept_of}
use Rattle.session_core.proofs.OpenBlocks.{next_by, open_few, open_nodes, step_in_range, stopped_by}
use Rattle.session_core.proofs.OpenGoals.{open_counts}
use Rattle.session_core.proofs.TestedSteps.{goal_read, stopped_last, taken_back, taken_last, whole_added}
use Rattle.session_core.proofs.kept_goals.KeptGoal.take.Goals as goal

pub offset_bounds-as_slice-self : goal.offset_bounds-as_slice-self
offset_bounds-as_slice-self g c =
    let r = c.requires in
    let few = c.admitted.invariant.0.few_goals in
    let lt : c.args.self.now.number < length c.admitted.inside.spec.goals =
    rw (← c.admitted.view_is) at (slice_get_within c.args.admitted.now.spec.goals c.args.self.now.number r.1.goal
    r.2.keeps.number) in
    omega (arith, few, lt)

pub bounds-as_slice-self : goal.bounds-as_slice-self
bounds-as_slice-self g c =
    let r = c.requires in
    let lt : c.args.self.now.number < length c.admitted.inside.spec.goals =
    rw (← c.admitted.view_is) at (slice_get_within c.args.admitted.now.spec.goals c.args.self.now.number r.1.goal
    r.2.keeps.number) in
    omega (arith, lt, ap length c.as_slice.ensures)

pub made_by-requires-clause-next : goal.made_by-requires-clause-next
made_by-requires-clause-next g c =
    let above = g.O.TermOrder.above c.args.admitted.now.order in
    let spec = c.args.admitted.now.spec in
    let fine : IsWellSorted c.args.admitted.now.spec = rw (← c.admitted.view_is) c.admitted.invariant.0 in
    let one : OneRelation (g.O.TermOrder.above c.args.admitted.now.order) =
    rw (← c.admitted.view_is) c.one_relation.ensures in
    let r = c.requires in
    let n = open_counts above spec fine one r.0 r.1 (kept_of c.args.self.now) r.2 in
    omega (
      arith,
      n.0,
      n.1,
      r.2.under.unfinished,
      length-map c.args.self.now.taken.nodes.items (λ (x : Node).
          x.clause),
    )

pub made_by-requires-clause-few : goal.made_by-requires-clause-few
made_by-requires-clause-few g c =
    let above = g.O.TermOrder.above c.args.admitted.now.order in
    let spec = c.args.admitted.now.spec in
    let fine : IsWellSorted c.args.admitted.now.spec = rw (← c.admitted.view_is) c.admitted.invariant.0 in
    let one : OneRelation (g.O.TermOrder.above c.args.admitted.now.order) =
    rw (← c.admitted.view_is) c.one_relation.ensures in
    let r = c.requires in
    omega (
      arith,
      open_few above spec fine one r.0 r.1 (kept_of c.args.self.now) r.2,
      length-map c.args.self.now.taken.nodes.items (λ (x : Node). x.clause),
    )

pub made_by-requires-clause-nodes : goal.made_by-requires-clause-nodes
made_by-requires-clause-nodes g c =
    let above = g.O.TermOrder.above c.args.admitted.now.order in
    let spec = c.args.admitted.now.spec in
    let fine : IsWellSorted c.args.admitted.now.spec = rw (← c.admitted.view_is) c.admitted.invariant.0 in
    let one : OneRelation (g.O.TermOrder.above c.args.admitted.now.order) =
    rw (← c.admitted.view_is) c.one_relation.ensures in
    let keep : ChildrenAreSorted (g.O.TermOrder.above c.args.admitted.now.order) =
    rw (← c.admitted.view_is) c.children_are_sorted.ensures in
    let r = c.requires in
    open_nodes above spec fine one r.0 r.1 (kept_of c.args.self.now) r.2 c.args.proved.now r.3 keep
    c.tidying_laws.ensures

pub returns-in_err-made : goal.returns-in_err-made
returns-in_err-made g c = λ claims work o proved.
    let above = g.O.TermOrder.above c.args.admitted.now.order in
    let spec = c.args.admitted.now.spec in
    let fine : IsWellSorted c.args.admitted.now.spec = rw (← c.admitted.view_is) c.admitted.invariant.0 in
    let one : OneRelation (g.O.TermOrder.above c.args.admitted.now.order) =
    rw (← c.admitted.view_is) c.one_relation.ensures in
    let p = err_from_is_err_and c.from_residual.result c.from_residual.ensures.1 in
    rw (p.1, p.2) (
      refl,
      stopped_by above spec fine one claims work (kept_of c.args.self.now) o c.args.proved.now
          proved (clauses_of c.args.self.now.taken.nodes.items) (length c.args.self.now.taken.links.items)
          c.args.step.now c.in_err-made.field-0.0 refl refl c.in_err-made.ensures,
    )

pub length_with-requires : goal.length_with-requires
length_with-requires g c =
    let above = g.O.TermOrder.above c.args.admitted.now.order in
    let spec = c.args.admitted.now.spec in
    let fine : IsWellSorted c.args.admitted.now.spec = rw (← c.admitted.view_is) c.admitted.invariant.0 in
    let one : OneRelation (g.O.TermOrder.above c.args.admitted.now.order) =
    rw (← c.admitted.view_is) c.one_relation.ensures in
    let r = c.requires in
    let next = next_by above spec fine one r.0 r.1 (kept_of c.args.self.now) r.2 c.args.proved.now r.3 (clauses_of
    c.args.self.now.taken.nodes.items) (length c.args.self.now.taken.links.items) c.args.step.now
    c.in_ok-made.made refl refl c.in_ok-made.ensures.0 in
    rw (← c.admitted.view_is) at (step_in_range above spec fine one r.0 r.1 (kept_of c.args.self.now) r.2
    c.args.step.now c.in_ok-made.made next)

pub returns-in_err-total : goal.returns-in_err-total
returns-in_err-total g c = λ claims work o proved.
    let p = err_from_is_err_and c.from_residual-in_err-total.result c.from_residual-in_err-total.ensures.1 in
    rw (p.1, p.2) (refl, tt)

pub returns-in_err-add : goal.returns-in_err-add
returns-in_err-add g c = λ claims work o proved.
    let p = err_from_is_err_and c.from_residual-in_err-add.result c.from_residual-in_err-add.ensures.1 in
    let nodes = c.in_err-add.ensures.same_nodes in
    let links = c.in_err-add.ensures.same_links in
    rw (p.1, p.2) (
      (λ i. record {
        number = c.args.self.now.number;
        nodes = clauses_of (nodes i);
        links = links i;
        lengths = c.args.self.now.lengths.items;
      }),
      tt,
    )

pub test_last-requires : goal.test_last-requires
test_last-requires g c =
    let above = g.O.TermOrder.above c.args.admitted.now.order in
    let spec = c.args.admitted.now.spec in
    let fine : IsWellSorted c.args.admitted.now.spec = rw (← c.admitted.view_is) c.admitted.invariant.0 in
    let one : OneRelation (g.O.TermOrder.above c.args.admitted.now.order) =
    rw (← c.admitted.view_is) c.one_relation.ensures in
    let r = c.requires in
    let next = next_by above spec fine one r.0 r.1 (kept_of c.args.self.now) r.2 c.args.proved.now r.3 (clauses_of
    c.args.self.now.taken.nodes.items) (length c.args.self.now.taken.links.items) c.args.step.now
    c.in_ok-made.made refl refl c.in_ok-made.ensures.0 in
    λ e. whole_added above spec fine one r.0 r.1 (kept_of c.args.self.now) r.2 c.args.step.now c.in_ok-made.made next
    c.add.new.self c.in_ok-add.ensures.nodes c.in_ok-add.ensures.links e

pub returns-in-Err : goal.returns-in-Err
returns-in-Err g c = λ claims work o proved.
    let above = g.O.TermOrder.above c.args.admitted.now.order in
    let spec = c.args.admitted.now.spec in
    let fine : IsWellSorted c.args.admitted.now.spec = rw (← c.admitted.view_is) c.admitted.invariant.0 in
    let one : OneRelation (g.O.TermOrder.above c.args.admitted.now.order) =
    rw (← c.admitted.view_is) c.one_relation.ensures in
    let old = c.args.self.now in
    let next = next_by above spec fine one claims work (kept_of old) o c.args.proved.now proved (clauses_of
    old.taken.nodes.items) (length old.taken.links.items) c.args.step.now c.in_ok-made.made refl refl
    c.in_ok-made.ensures.0 in
    let nodes = c.in_ok-add.ensures.nodes in
    let links = c.in_ok-add.ensures.links in
    let goals : c.as_slice.result.now ≡ c.args.admitted.now.spec.goals = rw (← c.admitted.view_is) c.as_slice.ensures
    in
    let lt : old.number < length c.args.admitted.now.spec.goals = slice_get_within c.args.admitted.now.spec.goals
    old.number work.goal o.keeps.number in
    let read : c.index-as_slice-self.result ≡ get_or c.args.admitted.now.spec.goals old.number
    c.index-as_slice-self.result = c.index-as_slice-self.is ∙
    ap (λ gs. get_or gs old.number c.index-as_slice-self.result) goals in
    let same : c.index-as_slice-self.result ≡ work.goal = goal_read c.args.admitted.now.spec.goals old.number
    c.index-as_slice-self.result work.goal lt read o.keeps.number in
    let named : (get_or c.as_slice.result.now old.number c.index-as_slice-self.result).name ≡ work.goal.name =
    ap (λ (x : Goal). x.name) (sym c.index-as_slice-self.is ∙ same) in
    let by : (steps : List Step) → c.as_slice-2.result.now ≡ lengths_after c.args.admitted.now.spec.sig 0 steps →
    c.in_ok-total.total ≡ steps_length c.args.admitted.now.spec.sig (steps ++ c.args.step.now ∷ []) =
    rw (← c.admitted.view_is) c.in_ok-total.ensures in
    let total = by work.steps (c.as_slice-2.ensures.value ∙ o.keeps.lengths) in
    let back = taken_back old.taken c.add.new.self c.take_back.new.self c.in_ok-made.made nodes links
    c.take_back.ensures in (
      (λ i. record { number = old.number; nodes = back.1 i; links = back.0 i; lengths = old.lengths.items }),
      stopped_last above spec fine one claims work (kept_of old) o c.args.step.now c.in_ok-made.made next
          c.add.new.self nodes links c.in_ok-made.ensures.1 (get_or c.as_slice.result.now old.number
          c.index-as_slice-self.result).name named c.in_ok-total.total total c.in-Err.error c.in-Err.ensures,
    )

pub returns-in-Err-push_length : goal.returns-in-Err-push_length
returns-in-Err-push_length g c = λ claims work o proved.
    let old = c.args.self.now in
    let nodes = c.in_ok-add.ensures.nodes in
    let links = c.in_ok-add.ensures.links in
    let back = taken_back old.taken c.add.new.self c.take_back-in-Err-push_length.new.self c.in_ok-made.made
    nodes links c.take_back-in-Err-push_length.ensures in
    let lengths = c.in-Err-push_length.ensures.same in
    ((λ i. record { number = old.number; nodes = back.1 i; links = back.0 i; lengths = lengths i }), tt)

pub returns : goal.returns
returns g c = λ claims work o proved.
    let above = g.O.TermOrder.above c.args.admitted.now.order in
    let spec = c.args.admitted.now.spec in
    let fine : IsWellSorted c.args.admitted.now.spec = rw (← c.admitted.view_is) c.admitted.invariant.0 in
    let one : OneRelation (g.O.TermOrder.above c.args.admitted.now.order) =
    rw (← c.admitted.view_is) c.one_relation.ensures in
    let old = c.args.self.now in
    let next = next_by above spec fine one claims work (kept_of old) o c.args.proved.now proved (clauses_of
    old.taken.nodes.items) (length old.taken.links.items) c.args.step.now c.in_ok-made.made refl refl
    c.in_ok-made.ensures.0 in
    let nodes = c.in_ok-add.ensures.nodes in
    let links = c.in_ok-add.ensures.links in
    let goals : c.as_slice.result.now ≡ c.args.admitted.now.spec.goals = rw (← c.admitted.view_is) c.as_slice.ensures
    in
    let lt : old.number < length c.args.admitted.now.spec.goals = slice_get_within c.args.admitted.now.spec.goals
    old.number work.goal o.keeps.number in
    let read : c.index-as_slice-self.result ≡ get_or c.args.admitted.now.spec.goals old.number
    c.index-as_slice-self.result = c.index-as_slice-self.is ∙
    ap (λ gs. get_or gs old.number c.index-as_slice-self.result) goals in
    let same : c.index-as_slice-self.result ≡ work.goal = goal_read c.args.admitted.now.spec.goals old.number
    c.index-as_slice-self.result work.goal lt read o.keeps.number in
    let named : (get_or c.as_slice.result.now old.number c.index-as_slice-self.result).name ≡ work.goal.name =
    ap (λ (x : Goal). x.name) (sym c.index-as_slice-self.is ∙ same) in
    let by : (steps : List Step) → c.as_slice-2.result.now ≡ lengths_after c.args.admitted.now.spec.sig 0 steps →
    c.in_ok-total.total ≡ steps_length c.args.admitted.now.spec.sig (steps ++ c.args.step.now ∷ []) =
    rw (← c.admitted.view_is) c.in_ok-total.ensures in
    let total = by work.steps (c.as_slice-2.ensures.value ∙ o.keeps.lengths) in
    let new : KeptGoal = record {
      number = old.number;
      taken = c.add.new.self;
      lengths =
          c.push_length.new.lengths;
    } in
    let lengths = c.in_default-push_length.ensures.pushed ∙ ap (λ n. old.lengths.items ++ n ∷ []) total in
    let is : kept_of new ≡ with_made above spec work c.args.step.now c.in_ok-made.made (kept_of old) =
    (λ i. record { number = old.number; nodes = nodes i; links = links i; lengths = lengths i }) in
    taken_last above spec fine one claims work (kept_of old) o c.args.step.now c.in_ok-made.made next
    c.add.new.self nodes links c.in_ok-made.ensures.1 (get_or c.as_slice.result.now old.number
    c.index-as_slice-self.result).name named c.in_ok-total.total total c.in_default.ensures (kept_of new) is
