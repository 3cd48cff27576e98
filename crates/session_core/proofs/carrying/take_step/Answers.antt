use Rattle.std.proofs.Common.{List, ◌≡◌, ◌-◌, ◌∙◌, ◌++◌, ◌∷◌, [], Ok, ap, arith, false, length}
use Rattle.std.proofs.Common.{length-append, length-take, map, refl, sym, subst, take, true, inl}
use Rattle.std.specs.Prelude.{slice_set}
use Rattle.std.proofs.lemmas.List.{length-map}
use Rattle.std.proofs.lemmas.Result.{err_from_is_err_and}
use Rattle.spec_core.specs.WellSorted.{IsWellSorted}
use Rattle.clause_core.specs.ClauseLaws.{OneRelation}
use Rattle.inference_rules.specs.declared.nodes.Node.{Node}
use Rattle.session_core.specs.declared.commands.Command.TheVariants.{Step as of_step}
use Rattle.session_core.specs.Kept.{Kept}
use Rattle.session_core.specs.Taking.{CarriesOut, HasOpenLast, IsTaken}
use Rattle.session_core.specs.Value.{kept_of, number_of}
use Rattle.session_core.proofs.CarriedSteps.{carried, carried_error, taken_counts}
use Rattle.session_core.proofs.CarriedGoals.{idle}
use Rattle.session_core.proofs.LastEntries.{set_last}
use Rattle.session_core.proofs.OpenGoals.{open_by, opened_goal}
use Rattle.session_core.proofs.carrying.take_step.Goals as goal

pub returns-then-not-is_open : goal.returns-then-not-is_open
returns-then-not-is_open g c = λ state k.
    let above = g.O.TermOrder.above c.args.admitted.now.order in
    let spec = c.args.admitted.now.spec in
    let fine : IsWellSorted c.args.admitted.now.spec = rw (← c.admitted.view_is) c.admitted.invariant.0 in
    let one : OneRelation (g.O.TermOrder.above c.args.admitted.now.order) =
    rw (← c.admitted.view_is) c.one_relation.ensures in
    let items = c.args.goals.now.items in
    let closed : HasOpenLast (map kept_of c.args.goals.now.items) → ⊥ = λ h.
    (let q : false ≡ true = sym c.if-not-is_open.true ∙
    c.is_open.ensures.1 (subst (λ gs. HasOpenLast (map kept_of gs)) (sym c.as_slice.ensures.value) h) in cc) in
    (refl, inl ((idle above spec fine one state (map kept_of items) k [] closed).none, refl))

pub overflow_sub-last : goal.overflow_sub-last
overflow_sub-last g c =
    let state = c.requires.0 in
    let k = c.requires.1 in
    let above = g.O.TermOrder.above c.args.admitted.now.order in
    let spec = c.args.admitted.now.spec in
    let fine : IsWellSorted c.args.admitted.now.spec = rw (← c.admitted.view_is) c.admitted.invariant.0 in
    let one : OneRelation (g.O.TermOrder.above c.args.admitted.now.order) =
    rw (← c.admitted.view_is) c.one_relation.ensures in
    let items = c.args.goals.now.items in
    let seen = subst (λ gs. HasOpenLast (map kept_of gs)) c.as_slice.ensures.value
    (c.is_open.ensures.0 c.if-not-is_open.false) in
    let o = open_by above spec fine one state (map kept_of items) k seen in
    omega (
      arith,
      c.len-last.ensures,
      length-map items kept_of,
      ap (λ (xs : List Kept). length xs) o.is,
      length-append o.front (o.last ∷ []),
    )

pub slice_bounds-numbers_of-end : goal.slice_bounds-numbers_of-end
slice_bounds-numbers_of-end g c =
    omega (
      arith,
      c.len-last.ensures,
      c.as_slice-2.ensures.len,
      length-take (c.len-last.result - 1)
          c.as_slice-2.result.now,
    )

pub returns-in_err-proved : goal.returns-in_err-proved
returns-in_err-proved g c = λ state k.
    let p = err_from_is_err_and c.from_residual.result c.from_residual.ensures.1 in
    rw (p.1, p.2) refl

pub index_mut-goal-requires : goal.index_mut-goal-requires
index_mut-goal-requires g c =
    let state = c.requires.0 in
    let k = c.requires.1 in
    let above = g.O.TermOrder.above c.args.admitted.now.order in
    let spec = c.args.admitted.now.spec in
    let fine : IsWellSorted c.args.admitted.now.spec = rw (← c.admitted.view_is) c.admitted.invariant.0 in
    let one : OneRelation (g.O.TermOrder.above c.args.admitted.now.order) =
    rw (← c.admitted.view_is) c.one_relation.ensures in
    let items = c.args.goals.now.items in
    let seen = subst (λ gs. HasOpenLast (map kept_of gs)) c.as_slice.ensures.value
    (c.is_open.ensures.0 c.if-not-is_open.false) in
    let o = open_by above spec fine one state (map kept_of items) k seen in
    omega (
      arith,
      c.len-last.ensures,
      length-map items kept_of,
      ap (λ (xs : List Kept). length xs) o.is,
      length-append o.front (o.last ∷ []),
    )

pub take-requires : goal.take-requires
take-requires g c =
    let state = c.requires.0 in
    let k = c.requires.1 in
    let above = g.O.TermOrder.above c.args.admitted.now.order in
    let spec = c.args.admitted.now.spec in
    let fine : IsWellSorted c.args.admitted.now.spec = rw (← c.admitted.view_is) c.admitted.invariant.0 in
    let one : OneRelation (g.O.TermOrder.above c.args.admitted.now.order) =
    rw (← c.admitted.view_is) c.one_relation.ensures in
    let items = c.args.goals.now.items in
    let seen = subst (λ gs. HasOpenLast (map kept_of gs)) c.as_slice.ensures.value
    (c.is_open.ensures.0 c.if-not-is_open.false) in
    let o = open_by above spec fine one state (map kept_of items) k seen in
    let n : c.len-last.result - 1 ≡ length items - 1 = omega (arith, c.len-last.ensures) in
    let numbers =
    c.as_slice-3.ensures.value ∙ c.in_ok-proved.ensures
    ∙ ap (λ gs. map number_of (take (c.len-last.result - 1) gs)) c.as_slice-2.ensures.value in
    let w = opened_goal above spec fine one state items o (c.len-last.result - 1) n c.index_mut-goal.result.now
    c.index_mut-goal.ensures.value c.as_slice-3.result.now numbers in
    (state.claims, o.work, w.under, w.proved)

pub returns-in_err-take : goal.returns-in_err-take
returns-in_err-take g c = λ state k.
    let above = g.O.TermOrder.above c.args.admitted.now.order in
    let spec = c.args.admitted.now.spec in
    let fine : IsWellSorted c.args.admitted.now.spec = rw (← c.admitted.view_is) c.admitted.invariant.0 in
    let one : OneRelation (g.O.TermOrder.above c.args.admitted.now.order) =
    rw (← c.admitted.view_is) c.one_relation.ensures in
    let items = c.args.goals.now.items in
    let seen = subst (λ gs. HasOpenLast (map kept_of gs)) c.as_slice.ensures.value
    (c.is_open.ensures.0 c.if-not-is_open.false) in
    let o = open_by above spec fine one state (map kept_of items) k seen in
    let n : c.len-last.result - 1 ≡ length items - 1 = omega (arith, c.len-last.ensures) in
    let numbers =
    c.as_slice-3.ensures.value ∙ c.in_ok-proved.ensures
    ∙ ap (λ gs. map number_of (take (c.len-last.result - 1) gs)) c.as_slice-2.ensures.value in
    let w = opened_goal above spec fine one state items o (c.len-last.result - 1) n c.index_mut-goal.result.now
    c.index_mut-goal.ensures.value c.as_slice-3.result.now numbers in
    let set = set_last items o.front o.last c.take.new.self (c.len-last.result - 1) o.is n in
    let p = err_from_is_err_and c.from_residual-in_err-take.result c.from_residual-in_err-take.ensures.1 in
    let stops = c.in_err-take.ensures state.claims o.work w.under w.proved in
    let same = set ∙ ap (λ x. o.front ++ x ∷ []) (stops.0 ∙ w.is) ∙ sym o.is in
    rw (p.1, p.2) (carried_error above spec fine one state (map kept_of items) k o c.args.step.now
    c.in_err-take.field-0.0
    (map kept_of (slice_set items (c.len-last.result - 1) c.take.new.self)) same stops.1)

pub overflow_sub-result : goal.overflow_sub-result
overflow_sub-result g c =
    let state = c.requires.0 in
    let k = c.requires.1 in
    let above = g.O.TermOrder.above c.args.admitted.now.order in
    let spec = c.args.admitted.now.spec in
    let fine : IsWellSorted c.args.admitted.now.spec = rw (← c.admitted.view_is) c.admitted.invariant.0 in
    let one : OneRelation (g.O.TermOrder.above c.args.admitted.now.order) =
    rw (← c.admitted.view_is) c.one_relation.ensures in
    let items = c.args.goals.now.items in
    let seen = subst (λ gs. HasOpenLast (map kept_of gs)) c.as_slice.ensures.value
    (c.is_open.ensures.0 c.if-not-is_open.false) in
    let o = open_by above spec fine one state (map kept_of items) k seen in
    let n : c.len-last.result - 1 ≡ length items - 1 = omega (arith, c.len-last.ensures) in
    let numbers =
    c.as_slice-3.ensures.value ∙ c.in_ok-proved.ensures
    ∙ ap (λ gs. map number_of (take (c.len-last.result - 1) gs)) c.as_slice-2.ensures.value in
    let w = opened_goal above spec fine one state items o (c.len-last.result - 1) n c.index_mut-goal.result.now
    c.index_mut-goal.ensures.value c.as_slice-3.result.now numbers in
    let t = subst (λ x. IsTaken above spec state.claims o.work c.args.step.now x (kept_of c.take.new.self)) w.is
    (c.in_ok-take.ensures state.claims o.work w.under w.proved) in
    let many = length-map c.take.new.self.taken.nodes.items (λ (x : Node). x.clause) in
    let few = taken_counts above spec fine one state (map kept_of items) k o c.args.step.now (kept_of c.take.new.self)
    t in
    omega (arith, c.len.ensures, c.len-2.ensures, many, few.0)

pub overflow_cast-result : goal.overflow_cast-result
overflow_cast-result g c =
    let state = c.requires.0 in
    let k = c.requires.1 in
    let above = g.O.TermOrder.above c.args.admitted.now.order in
    let spec = c.args.admitted.now.spec in
    let fine : IsWellSorted c.args.admitted.now.spec = rw (← c.admitted.view_is) c.admitted.invariant.0 in
    let one : OneRelation (g.O.TermOrder.above c.args.admitted.now.order) =
    rw (← c.admitted.view_is) c.one_relation.ensures in
    let items = c.args.goals.now.items in
    let seen = subst (λ gs. HasOpenLast (map kept_of gs)) c.as_slice.ensures.value
    (c.is_open.ensures.0 c.if-not-is_open.false) in
    let o = open_by above spec fine one state (map kept_of items) k seen in
    let n : c.len-last.result - 1 ≡ length items - 1 = omega (arith, c.len-last.ensures) in
    let numbers =
    c.as_slice-3.ensures.value ∙ c.in_ok-proved.ensures
    ∙ ap (λ gs. map number_of (take (c.len-last.result - 1) gs)) c.as_slice-2.ensures.value in
    let w = opened_goal above spec fine one state items o (c.len-last.result - 1) n c.index_mut-goal.result.now
    c.index_mut-goal.ensures.value c.as_slice-3.result.now numbers in
    let t = subst (λ x. IsTaken above spec state.claims o.work c.args.step.now x (kept_of c.take.new.self)) w.is
    (c.in_ok-take.ensures state.claims o.work w.under w.proved) in
    let many = length-map c.take.new.self.taken.nodes.items (λ (x : Node). x.clause) in
    let few = taken_counts above spec fine one state (map kept_of items) k o c.args.step.now (kept_of c.take.new.self)
    t in
    omega (arith, c.len.ensures, c.len-2.ensures, many, few.1)

pub returns : goal.returns
returns g c = λ state k.
    let above = g.O.TermOrder.above c.args.admitted.now.order in
    let spec = c.args.admitted.now.spec in
    let fine : IsWellSorted c.args.admitted.now.spec = rw (← c.admitted.view_is) c.admitted.invariant.0 in
    let one : OneRelation (g.O.TermOrder.above c.args.admitted.now.order) =
    rw (← c.admitted.view_is) c.one_relation.ensures in
    let items = c.args.goals.now.items in
    let seen = subst (λ gs. HasOpenLast (map kept_of gs)) c.as_slice.ensures.value
    (c.is_open.ensures.0 c.if-not-is_open.false) in
    let o = open_by above spec fine one state (map kept_of items) k seen in
    let n : c.len-last.result - 1 ≡ length items - 1 = omega (arith, c.len-last.ensures) in
    let numbers =
    c.as_slice-3.ensures.value ∙ c.in_ok-proved.ensures
    ∙ ap (λ gs. map number_of (take (c.len-last.result - 1) gs)) c.as_slice-2.ensures.value in
    let w = opened_goal above spec fine one state items o (c.len-last.result - 1) n c.index_mut-goal.result.now
    c.index_mut-goal.ensures.value c.as_slice-3.result.now numbers in
    let set = set_last items o.front o.last c.take.new.self (c.len-last.result - 1) o.is n in
    let t = subst (λ x. IsTaken above spec state.claims o.work c.args.step.now x (kept_of c.take.new.self)) w.is
    (c.in_ok-take.ensures state.claims o.work w.under w.proved) in
    let many = length-map c.take.new.self.taken.nodes.items (λ (x : Node). x.clause) in
    let done = carried above spec fine one state (map kept_of items) k o c.args.step.now (kept_of c.take.new.self)
    (c.len.result - c.len-2.result) t (omega (arith, c.len.ensures, c.len-2.ensures, many)) in
    subst (λ gs. CarriesOut above spec state (of_step c.args.step.now) (map kept_of items) gs
    (Ok (c.len.result - c.len-2.result)))
    (sym set) done
