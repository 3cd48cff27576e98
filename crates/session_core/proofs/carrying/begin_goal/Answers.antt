use Rattle.std.proofs.Common.{◌≡◌, ◌++◌, ◌∷◌, [], Some, Ok, ap, arith, false, true, map, refl, sym, ◌∙◌, subst}
use Rattle.std.specs.Prelude.{Contains, slice_get}
use Rattle.std.proofs.lemmas.List.{map-append}
use Rattle.std.proofs.lemmas.Option.{slice_get_within}
use Rattle.spec_core.specs.WellSorted.{IsWellSorted}
use Rattle.clause_core.specs.ClauseLaws.{OneRelation}
use Rattle.clause_core.specs.Limits.{IsWithin}
use Rattle.clause_core.specs.Tidied.{goal_clause}
use Rattle.session_core.specs.declared.commands.Command.TheVariants.{Goal as of_goal}
use Rattle.clause_core.specs.declared.clauses.Clause.{Clause}
use Rattle.session_core.specs.declared.kept_goals.KeptGoal.{KeptGoal}
use Rattle.session_core.specs.Kept.{Kept}
use Rattle.session_core.specs.Taking.{CarriesOut, HasOpenLast}
use Rattle.session_core.specs.Value.{kept_of, number_of}
use Rattle.session_core.proofs.CarriedGoals.{under_work, unknown, twice, passes, begins}
use Rattle.session_core.proofs.OpenGoals.{numbers_kept}
use Rattle.session_core.proofs.carrying.begin_goal.Goals as goal

pub returns-then-is_open : goal.returns-then-is_open
returns-then-is_open g c = λ state k.
    let fine : IsWellSorted c.args.admitted.now.spec = rw (← c.admitted.view_is) c.admitted.invariant.0 in
    let one : OneRelation (g.O.TermOrder.above c.args.admitted.now.order) =
    rw (← c.admitted.view_is) c.one_relation.ensures in
    let seen : HasOpenLast (map kept_of c.args.goals.now.items) = subst (λ gs. HasOpenLast (map kept_of gs))
    c.as_slice.ensures.value (c.is_open.ensures.0 c.if-is_open.true) in (
      refl,
      under_work (g.O.TermOrder.above c.args.admitted.now.order) c.args.admitted.now.spec fine one state
          (map kept_of c.args.goals.now.items) k c.args.name.now seen,
    )

pub returns-in_default : goal.returns-in_default
returns-in_default g c = λ state k.
    let fine : IsWellSorted c.args.admitted.now.spec = rw (← c.admitted.view_is) c.admitted.invariant.0 in
    let one : OneRelation (g.O.TermOrder.above c.args.admitted.now.order) =
    rw (← c.admitted.view_is) c.one_relation.ensures in
    let closed : HasOpenLast (map kept_of c.args.goals.now.items) → ⊥ = λ h. (let q : false ≡ true =
    sym c.if-is_open.false ∙ c.is_open.ensures.1 (subst (λ gs. HasOpenLast (map kept_of gs))
    (sym c.as_slice.ensures.value) h) in cc) in (
      refl,
      unknown (g.O.TermOrder.above c.args.admitted.now.order) c.args.admitted.now.spec fine one state
          (map kept_of c.args.goals.now.items) k c.args.name.now closed (rw (← c.admitted.view_is)
          c.in_default.ensures),
    )

pub overflow_cast-number : goal.overflow_cast-number
overflow_cast-number g c = omega (
  arith,
  slice_get_within c.admitted.inside.spec.goals c.in-Some.number
      c.in-Some.goal.now c.in-Some.ensures.0,
  c.admitted.invariant.0.few_goals,
)

pub returns-then-has_number : goal.returns-then-has_number
returns-then-has_number g c = λ state k.
    let fine : IsWellSorted c.args.admitted.now.spec = rw (← c.admitted.view_is) c.admitted.invariant.0 in
    let one : OneRelation (g.O.TermOrder.above c.args.admitted.now.order) =
    rw (← c.admitted.view_is) c.one_relation.ensures in
    let closed : HasOpenLast (map kept_of c.args.goals.now.items) → ⊥ = λ h. (let q : false ≡ true =
    sym c.if-is_open.false ∙ c.is_open.ensures.1 (subst (λ gs. HasOpenLast (map kept_of gs))
    (sym c.as_slice.ensures.value) h) in cc) in
    let at : slice_get c.args.admitted.now.spec.goals c.in-Some.number ≡ Some c.in-Some.goal.now =
    rw (← c.admitted.view_is) c.in-Some.ensures.0 in
    let numbers = c.as_slice-3.ensures.value ∙ c.in_ok-proved.ensures ∙ ap (map number_of) c.as_slice-2.ensures.value
    ∙ numbers_kept c.args.goals.now.items in (
      refl,
      twice (g.O.TermOrder.above c.args.admitted.now.order) c.args.admitted.now.spec fine one state (map kept_of
          c.args.goals.now.items) k c.args.name.now closed c.in-Some.number c.in-Some.goal.now at c.in-Some.ensures.1
          (subst (λ ns. Contains ns c.in-Some.number) numbers (c.has_number.ensures.0 c.if-has_number.true)),
    )

pub returns-then-not-within : goal.returns-then-not-within
returns-then-not-within g c = λ state k.
    let fine : IsWellSorted c.args.admitted.now.spec = rw (← c.admitted.view_is) c.admitted.invariant.0 in
    let one : OneRelation (g.O.TermOrder.above c.args.admitted.now.order) =
    rw (← c.admitted.view_is) c.one_relation.ensures in
    let closed : HasOpenLast (map kept_of c.args.goals.now.items) → ⊥ = λ h. (let q : false ≡ true =
    sym c.if-is_open.false ∙ c.is_open.ensures.1 (subst (λ gs. HasOpenLast (map kept_of gs))
    (sym c.as_slice.ensures.value) h) in cc) in
    let at : slice_get c.args.admitted.now.spec.goals c.in-Some.number ≡ Some c.in-Some.goal.now =
    rw (← c.admitted.view_is) c.in-Some.ensures.0 in
    let numbers = c.as_slice-3.ensures.value ∙ c.in_ok-proved.ensures ∙ ap (map number_of) c.as_slice-2.ensures.value
    ∙ numbers_kept c.args.goals.now.items in
    let unproved : Contains (map (λ (x : Kept). x.number) (map kept_of c.args.goals.now.items)) c.in-Some.number → ⊥ =
    λ h. (let q : false ≡ true = sym c.if-has_number.false ∙
    c.has_number.ensures.1 (subst (λ ns. Contains ns c.in-Some.number) (sym numbers) h) in cc) in
    let start : c.in_ok-start.start ≡ goal_clause c.in-Some.goal.now = c.in_ok-start.ensures in (
      refl,
      passes (g.O.TermOrder.above c.args.admitted.now.order) c.args.admitted.now.spec fine one state (map kept_of
          c.args.goals.now.items) k c.args.name.now closed c.in-Some.number c.in-Some.goal.now at c.in-Some.ensures.1
          unproved (λ h. let q : false ≡ true = c.if-not-within.ensures.1 (subst IsWithin (sym start) h) in cc),
    )

pub returns : goal.returns
returns g c = λ state k.
    let fine : IsWellSorted c.args.admitted.now.spec = rw (← c.admitted.view_is) c.admitted.invariant.0 in
    let one : OneRelation (g.O.TermOrder.above c.args.admitted.now.order) =
    rw (← c.admitted.view_is) c.one_relation.ensures in
    let closed : HasOpenLast (map kept_of c.args.goals.now.items) → ⊥ = λ h. (let q : false ≡ true =
    sym c.if-is_open.false ∙ c.is_open.ensures.1 (subst (λ gs. HasOpenLast (map kept_of gs))
    (sym c.as_slice.ensures.value) h) in cc) in
    let at : slice_get c.args.admitted.now.spec.goals c.in-Some.number ≡ Some c.in-Some.goal.now =
    rw (← c.admitted.view_is) c.in-Some.ensures.0 in
    let numbers = c.as_slice-3.ensures.value ∙ c.in_ok-proved.ensures ∙ ap (map number_of) c.as_slice-2.ensures.value
    ∙ numbers_kept c.args.goals.now.items in
    let unproved : Contains (map (λ (x : Kept). x.number) (map kept_of c.args.goals.now.items)) c.in-Some.number → ⊥ =
    λ h. (let q : false ≡ true = sym c.if-has_number.false ∙
    c.has_number.ensures.1 (subst (λ ns. Contains ns c.in-Some.number) (sym numbers) h) in cc) in
    let start : c.in_ok-start.start ≡ goal_clause c.in-Some.goal.now = c.in_ok-start.ensures in
    let done = begins (g.O.TermOrder.above c.args.admitted.now.order) c.args.admitted.now.spec fine one state
    (map kept_of c.args.goals.now.items) k c.args.name.now closed c.in-Some.number c.in-Some.goal.now at
    c.in-Some.ensures.1 unproved (subst IsWithin start (c.if-not-within.ensures.0 refl)) in
    let kept : KeptGoal = record {
      number = c.in-Some.number;
      taken = c.in_ok-new.field-0;
      lengths =
          c.new-2.result;
    } in
    let nodes = c.in_ok-new.ensures.nodes ∙ ap (λ (x : Clause). x ∷ []) start in
    let links = c.in_ok-new.ensures.links in
    let lengths = c.new-2.ensures.items in
    let entry : kept_of kept ≡ record {
      number = c.in-Some.number;
      nodes = goal_clause c.in-Some.goal.now ∷ [];
      links = [];
      lengths = [];
    } = (λ i. record {
      number = c.in-Some.number;
      nodes = nodes i;
      links = links i;
      lengths = lengths i;
    }) in
    let new : map kept_of c.push_goal.new.goals.items ≡ map kept_of c.args.goals.now.items ++ record {
      number =
          c.in-Some.number;
      nodes = goal_clause c.in-Some.goal.now ∷ [];
      links = [];
      lengths = [];
    } ∷ [] =
    ap (map kept_of) c.in_ok-push_goal.ensures.pushed ∙ map-append kept_of c.args.goals.now.items (kept ∷ []) ∙
    ap (λ (x : Kept). map kept_of c.args.goals.now.items ++ x ∷ []) entry in
    subst (λ gs. CarriesOut (g.O.TermOrder.above c.args.admitted.now.order) c.args.admitted.now.spec state
    (of_goal c.args.name.now) (map kept_of c.args.goals.now.items) gs (Ok 1)) (sym new) done
