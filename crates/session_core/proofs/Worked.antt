-- The sessions of the examples, command by command.
use Rattle.std.proofs.Common.{◌≡◌, ◌⊎◌, ℕ, ◌<◌, List, [], ◌∷◌, ◌++◌, ◌∙◌, true, Some, None, ap, inl, inr, refl, subst}
use Rattle.std.proofs.Common.{arith, false, zero}
use Rattle.std.proofs.Common.{suc}
use Rattle.std.specs.Prelude.{codes, slice_get, take}
use Rattle.std.specs.Fmt.{digits}
use Rattle.std.specs.List.{AllByRecursion}
use Rattle.std.proofs.lemmas.List.Sorted.{IsPermutation-refl}
use Rattle.term_core.specs.Tree.{var, app, none, some, instance}
use Rattle.term_core.proofs.Items.{all_at}
use Rattle.spec_core.specs.Naturals.{naturals, naturals_sig, plus_succ_rule, plus_term, same_goal, unit_goal, zero_term}
use Rattle.spec_core.specs.Naturals.{succ_term}
use Rattle.spec_core.specs.Findings.{test}
use Rattle.spec_core.specs.declared.records.Equation.{Equation}
use Rattle.term_core.specs.Contexts.{hole}
use Rattle.term_core.specs.declared.ids.SortId.{SortId}
use Rattle.spec_core.specs.WellSorted.{IsWellSorted}
use Rattle.sample_specs.specs.SumOrder.{AboveInSums}
use Rattle.clause_core.specs.declared.answers.Child.{Child}
use Rattle.clause_core.specs.declared.answers.Children.{Children}
use Rattle.clause_core.specs.declared.answers.Reference.{Reference}
use Rattle.clause_core.specs.declared.clauses.Relation.TheVariants.{Less, Same, Neither}
use Rattle.clause_core.specs.declared.steps.Step.TheVariants.{ByLemma, Trivial, Subsume, Decompose}
use Rattle.clause_core.specs.declared.answers.Why.TheVariants.{DoesNotFit}
use Rattle.clause_core.specs.ClauseLaws.{OneRelation}
use Rattle.clause_core.specs.RuleInstances.{IsInstance}
use Rattle.clause_core.specs.ClauseExamples.{equals, claims}
use Rattle.clause_core.specs.declared.clauses.Clause.{Clause}
use Rattle.clause_core.specs.ExampleClauses.{conclusion_side, less, unit_clause, one as one_var}
use Rattle.clause_core.specs.Places.{TermAt}
use Rattle.clause_core.specs.Tidied.{goal_clause}
use Rattle.acceptance.specs.Blocks.{StepsMake}
use Rattle.proof_script.specs.Claims.{report_text}
use Rattle.acceptance.specs.Claims.{IsClaimed, ProvedBefore}
use Rattle.acceptance.proofs.Links.{allowed_by, allowed_past}
use Rattle.spec_core.specs.declared.records.Spec.{Spec}
use Rattle.acceptance.specs.Refusals.{all_reasons, OfGoal}
use Rattle.spec_core.specs.declared.records.Goal.{Goal as GoalOf}
use Rattle.acceptance.specs.Strict.{Strict, strict, AllAreAllowed}
use Rattle.acceptance.proofs.NoRefusal.{each_clean, goal_named_one}
use Rattle.acceptance.specs.Examples.{again_goal, proves_again, two_units}
use Rattle.acceptance.specs.Examples.{by_cases, by_rule, proves_unit, unit_steps}
use Rattle.session_core.specs.declared.commands.Command.{Command}
use Rattle.session_core.specs.declared.commands.Command.TheVariants.{Goal, Step as step_of}
use Rattle.session_core.specs.States.{Work, State, start, with_step}
use Rattle.session_core.specs.declared.errors.SessionError.TheVariants.{GoalUnderWork, NoGoal, NotSmaller}
use Rattle.session_core.specs.declared.errors.SessionError.TheVariants.{Step as undefined, UnknownGoal}
use Rattle.session_core.specs.Accepting.{IsNeither, NextMakes, Accepts}
use Rattle.session_core.specs.Refusals.{IsUndefined, IsRefusedFor}
use Rattle.session_core.specs.SessionText.{ok_line, refused_line, accepted, refused, taken_back, nothing_to_undo}
use Rattle.session_core.specs.SessionText.{no_more, then}
use Rattle.session_core.specs.SessionText.{IsSessionText}
use Rattle.session_core.specs.Examples.{by_first, with_undo, circular, refusals}
use Rattle.session_core.specs.Sessions.{IsStateOf}
use Rattle.acceptance.proofs.OneBlock.{steps_one}
use Rattle.acceptance.proofs.UnitProof.{at_zero, at_succ, both_cases, by_goal, makes_clauses, zero_within, succ_within}
use Rattle.acceptance.proofs.UnitProof.{made, makes, shown}
use Rattle.acceptance.proofs.UnitProof.{start_within}
use Rattle.session_core.proofs.OneState.{lead_more, reason_one, made_not_undefined}
use Rattle.session_core.proofs.Reasons.{first_reason}

-- the clauses of the nodes after the two cases
abbrev zero_is_zero : Clause
zero_is_zero = claims [] (equals zero_term zero_term)

abbrev both_succ : Clause
both_succ = claims one_var (equals (succ_term (plus_term (var 0) zero_term)) (succ_term (var 0)))

-- the left side of the only conclusion
abbrev left_side : (ctx : List SortId) (e : Equation) → TermAt (claims ctx e) (conclusion_side true [])
left_side ctx e = record {
  at = record { before = []; equation = e; after = []; is = refl; place = refl };
  round =
      hole;
  term = e.left;
  is = refl;
  path = refl;
}

-- what the proof by cases makes is allowed
all_allowed : OneRelation AboveInSums → IsWellSorted naturals → AllAreAllowed made
all_allowed one fine =
    let x = shown 1 [] (λ h. h) in
    let g : x.goal ≡ unit_goal = goal_named_one naturals fine (codes "unit") x.goal unit_goal x.named (
      1,
      refl,
      refl,
    ) in
    let m : StepsMake AboveInSums naturals (ProvedBefore naturals []) (goal_clause unit_goal ∷ []) 0 unit_steps
    x.shown.made = subst (λ y. StepsMake AboveInSums naturals (ProvedBefore naturals []) (goal_clause y ∷ []) 0
    unit_steps x.shown.made) g x.shown.makes in
    subst AllAreAllowed (steps_one AboveInSums one naturals fine (ProvedBefore naturals []) (goal_clause unit_goal ∷
    []) 0 unit_steps x.shown.made made m (makes naturals.goals (ProvedBefore naturals []))) x.shown.allowed

-- children and references, none of which is Neither
none_neither : (m : Children) → AllByRecursion (λ (d : Child). d.relation ≡ Neither → ⊥) m.clauses →
    AllByRecursion (λ (r : Reference). r.relation ≡ Neither → ⊥) m.refs → IsNeither m → ⊥
none_neither m cs rs (inl (i, d, at, e)) = all_at (λ (d : Child). d.relation ≡ Neither → ⊥) m.clauses cs i d at e
none_neither m cs rs (inr (i, r, at, e)) = all_at (λ (r : Reference). r.relation ≡ Neither → ⊥) m.refs rs i r at e

same_not : Same ≡ Neither → ⊥
same_not e = cc

less_not : Less ≡ Neither → ⊥
less_not e = cc

abbrev unit : Command
unit = Goal (codes "unit")

-- the goal under work after its first steps
abbrev work_of : ℕ → Work
work_of k = record { goal = unit_goal; steps = take k unit_steps; made = take k made }

abbrev at_work : ℕ → State
at_work k = record { claims = []; work = Some (work_of k) }

abbrev proved : State
proved = record { claims = proves_unit unit_steps ∷ []; work = None }

-- the accepted commands, and the states after them

abbrev after : ℕ → List Command
after k = take k (unit ∷ step_of by_cases ∷ step_of (by_rule 1) ∷ step_of (by_rule 2) ∷ step_of (Trivial 1) ∷ step_of
    (Decompose true 1) ∷ step_of (Subsume 0 (var 0 ∷ [])) ∷ [])

-- the proof by cases, in a specification with the goal under this number
module _ (goals : List GoalOf) (number : ℕ) (there : slice_get goals number ≡ Some unit_goal) where
  abbrev spec : Spec
  spec = record naturals { goals = goals }

  begins : Accepts AboveInSums spec start unit (at_work 0)
  begins = record {
    idle = refl;
    goal = unit_goal;
    named = (number, there, refl);
    unproved = λ h. h;
    within = start_within;
    is = refl;
  }

  covers : Accepts AboveInSums spec (at_work 0) (step_of by_cases) (at_work 1)
  unfolding digits
  covers = record {
    work = _;
    under_work = refl;
    made = both_cases;
    makes = (makes goals (ProvedBefore spec [])).0;
    related = none_neither both_cases (same_not, (same_not, tt)) tt;
    allowed = λ e. absurd (let n : ◌≡◌ {A = ℕ} 2 0 = e in omega arith);
    short = omega arith;
    is = refl;
  }

  zero_rewritten : Accepts AboveInSums spec (at_work 1) (step_of (by_rule 1)) (at_work 2)
  unfolding digits
  zero_rewritten = record {
    work = _;
    under_work = refl;
    made = makes_clauses (less zero_is_zero ∷ []);
    makes = (makes goals (ProvedBefore spec [])).1.0;
    related = none_neither (makes_clauses (less zero_is_zero ∷ [])) (less_not, tt) tt;
    allowed = λ e. absurd (let n : ◌≡◌ {A = ℕ} 2 0 = e in omega arith);
    short = omega arith;
    is = refl;
  }

  succ_rewritten : Accepts AboveInSums spec (at_work 2) (step_of (by_rule 2)) (at_work 3)
  unfolding digits
  succ_rewritten = record {
    work = _;
    under_work = refl;
    made = makes_clauses (less both_succ ∷ []);
    makes = (makes goals (ProvedBefore spec [])).1.1.0;
    related = none_neither (makes_clauses (less both_succ ∷ [])) (less_not, tt) tt;
    allowed = λ e. absurd (let n : ◌≡◌ {A = ℕ} 2 0 = e in omega arith);
    short = omega arith;
    is = refl;
  }

  closed_zero : Accepts AboveInSums spec (at_work 3) (step_of (Trivial 1)) (at_work 4)
  unfolding digits
  closed_zero = record {
    work = _;
    under_work = refl;
    made = makes_clauses [];
    makes = (makes goals (ProvedBefore spec [])).1.1.1.0;
    related = none_neither (makes_clauses []) tt tt;
    allowed = λ e. absurd (let n : ◌≡◌ {A = ℕ} 1 0 = e in omega arith);
    short = omega arith;
    is = refl;
  }

  decomposed : Accepts AboveInSums spec (at_work 4) (step_of (Decompose true 1)) (at_work 5)
  unfolding digits
  decomposed = record {
    work = _;
    under_work = refl;
    made = makes_clauses (less unit_clause ∷ []);
    makes = (makes goals (ProvedBefore spec [])).1.1.1.1.0;
    related = none_neither (makes_clauses (less unit_clause ∷ [])) (less_not, tt) tt;
    allowed = λ e. absurd (let n : ◌≡◌ {A = ℕ} 1 0 = e in omega arith);
    short = omega arith;
    is = refl;
  }

  closes : OneRelation AboveInSums → IsWellSorted naturals → Accepts AboveInSums spec (at_work 5)
      (step_of (Subsume 0 (var 0 ∷ []))) proved
  unfolding digits
  closes one fine = record {
    work = _;
    under_work = refl;
    made = by_goal;
    makes = (makes goals (ProvedBefore spec [])).1.1.1.1.1.0;
    related = none_neither by_goal tt (same_not, tt);
    allowed = λ e. all_allowed one fine;
    short = omega arith;
    is = refl;
  }

  abbrev IsState : List Command → State → Type 0
  IsState = IsStateOf AboveInSums spec

  at_0 : IsState (after 1) (at_work 0)
  at_0 = (at_work 0, begins, refl)

  at_1 : IsState (after 2) (at_work 1)
  at_1 = lead_more AboveInSums spec start (after 1) (at_work 0) (at_work 1) (step_of by_cases) at_0 covers

  at_2 : IsState (after 3) (at_work 2)
  at_2 = lead_more AboveInSums spec start (after 2) (at_work 1) (at_work 2) (step_of (by_rule 1)) at_1
      zero_rewritten

  at_3 : IsState (after 4) (at_work 3)
  at_3 = lead_more AboveInSums spec start (after 3) (at_work 2) (at_work 3) (step_of (by_rule 2)) at_2
      succ_rewritten

  at_4 : IsState (after 5) (at_work 4)
  at_4 = lead_more AboveInSums spec start (after 4) (at_work 3) (at_work 4) (step_of (Trivial 1)) at_3 closed_zero

  at_5 : IsState (after 6) (at_work 5)
  at_5 = lead_more AboveInSums spec start (after 5) (at_work 4) (at_work 5) (step_of (Decompose true 1)) at_4
      decomposed

  at_end : OneRelation AboveInSums → IsWellSorted naturals → IsState (after 7) proved
  at_end one fine = lead_more AboveInSums spec start (after 6) (at_work 5) proved (step_of (Subsume 0 (var 0 ∷ [])))
      at_5 (closes one fine)

-- the second rule doesn't fit plus(zero, zero)
succ_does_not_fit : IsInstance plus_succ_rule (plus_term zero_term zero_term) → ⊥
succ_does_not_fit m =
    let q : app 4 (some (succ_term (instance m.terms (var 0))) (some (instance m.terms (var 1)) none)) ≡ app 4
    (some zero_term (some zero_term none)) = m.is in
    let k : ◌≡◌ {A = ℕ} 3 2 = cc in
    omega arith

-- zero by the goal itself
abbrev circle : Work
circle = record {
  goal = unit_goal;
  steps = by_cases ∷ Subsume 0 (zero_term ∷ []) ∷ [];
  made =
      both_cases ∷ by_goal ∷ [];
}

abbrev whole_circle : Work
whole_circle = with_step circle (Subsume 0 (succ_term (var 0) ∷ [])) by_goal

abbrev in_circle : State
in_circle = record { claims = []; work = Some circle }

zero_by_goal : Accepts AboveInSums naturals (at_work 1) (step_of (Subsume 0 (zero_term ∷ []))) in_circle
unfolding digits
zero_by_goal = record {
  work = _;
  under_work = refl;
  made = by_goal;
  makes = record {
    clause = at_zero;
    is = refl;
    says = inl (
      record { clause = unit_clause; is = refl },
      inl (
        ((_, refl, refl, tt), tt),
        inl (
          zero_within,
          inl (
            (tt, (inl (inl refl), tt)),
            (_, tt, ((refl, IsPermutation-refl _), tt), inl ((tt, omega arith), refl)),
          ),
        ),
      ),
    );
  };
  related = none_neither by_goal tt (same_not, tt);
  allowed = λ e. absurd (let n : ◌≡◌ {A = ℕ} 1 0 = e in omega arith);
  short = omega arith;
  is = refl;
}

at_circle : IsStateOf AboveInSums naturals (unit ∷ step_of by_cases ∷ step_of (Subsume 0 (zero_term ∷ [])) ∷ [])
    in_circle
at_circle = lead_more AboveInSums naturals start (after 2) (at_work 1) in_circle
    (step_of (Subsume 0 (zero_term ∷ []))) (at_1 naturals.goals 1 refl) zero_by_goal

succ_by_goal : NextMakes AboveInSums naturals [] circle (Subsume 0 (succ_term (var 0) ∷ [])) by_goal
succ_by_goal = record {
  clause = at_succ;
  is = refl;
  says = inl (
    record { clause = unit_clause; is = refl },
    inl (
      ((_, refl, refl, (refl, tt)), tt),
      inl (
        succ_within,
        inl (
          (tt, (inl (inl refl), tt)),
          (_, tt, ((refl, IsPermutation-refl _), tt), inl ((tt, omega arith), refl)),
        ),
      ),
    ),
  );
}

same_is_not_less : Same ≡ Less → ⊥
same_is_not_less e = cc

-- node 1 refers to node 0, so it isn't strict, and neither is node 0
zero_not_strict : Strict whole_circle.made 1 → ⊥
zero_not_strict (strict falls later) = either (falls 0 Same (inr (_, 0, _, refl, refl, refl, refl)))
  where
    either : (Same ≡ Less) ⊎ ((Same ≡ Same) × (1 < 0)) → ⊥
    either (inl e) = same_is_not_less e
    either (inr h) = omega (arith, h.1)

start_not_strict : Strict whole_circle.made 0 → ⊥
start_not_strict (strict falls later) = zero_not_strict (later 1 (inl (_, 0, _, refl, refl, refl, refl)))

not_allowed : AllAreAllowed whole_circle.made → ⊥
not_allowed a = either ((a 1).refs 0 Same (_, 0, _, refl, refl, refl, refl))
  where
    either : (Same ≡ Less) ⊎ ((Same ≡ Same) × ((1 < 0) ⊎ Strict whole_circle.made 0)) → ⊥
    either (inl e) = same_is_not_less e
    either (inr (e, inl l)) = omega (arith, l)
    either (inr (e, inr s)) = start_not_strict s

no_such_goal : OfGoal naturals (codes "none") (λ goal. Unit {0}) → ⊥
no_such_goal (goal, (zero, at, named), u) =
    let e : Some same_goal ≡ Some goal = at in
    let g : same_goal ≡ goal = cc in
    let n : codes "same" ≡ codes "none" = ap (λ (x : GoalOf). x.name) g ∙ named in
    let k : ◌≡◌ {A = ℕ} 115 110 = cc in
    omega (arith, k)
no_such_goal (goal, (suc zero, at, named), u) =
    let e : Some unit_goal ≡ Some goal = at in
    let g : unit_goal ≡ goal = cc in
    let n : codes "unit" ≡ codes "none" = ap (λ (x : GoalOf). x.name) g ∙ named in
    let k : ◌≡◌ {A = ℕ} 117 110 = cc in
    omega (arith, k)
no_such_goal (goal, (suc (suc n), at, named), u) = let e : None ≡ Some goal = at in cc

under_work : (name : List ℕ) → IsRefusedFor AboveInSums naturals (at_work 0) (Goal name) GoalUnderWork
under_work name = inl (λ e. let k : Some (work_of 0) ≡ None = e in cc, refl)

pub refused_session : IsSessionText AboveInSums naturals refusals
    (codes "refused no goal\nrefused unknown goal\nok 1\n" ++ codes
    "refused goal under work\nrefused goal under work\n"
    ++ codes "spike-report 1\nsteps 1000\ndone\n") true
unfolding digits
refused_session = record {
  lines =
      refused_line (codes "no goal") ++ (refused_line (codes "unknown goal") ++ (ok_line 1
      ++ (refused_line (codes "goal under work") ++ (refused_line (codes "goal under work") ++ []))));
  left = unit ∷ [];
  replies =
      then (refused start NoGoal refl (inl (refl, refl)))
      (then (refused start UnknownGoal refl (inr (λ h. h refl, inl (no_such_goal, refl))))
      (then (accepted start (at_work 0) refl (begins naturals.goals 1 refl))
      (then (refused (at_work 0) GoalUnderWork (at_0 naturals.goals 1 refl) (under_work (codes "unit")))
      (then (refused (at_work 0) GoalUnderWork (at_0 naturals.goals 1 refl) (under_work (codes "none")))
      no_more))));
  state = at_work 0;
  state_is = (at_0 naturals.goals 1 refl);
  is = refl;
  ends = refl;
}

module _ (one : OneRelation AboveInSums) (fine : IsWellSorted naturals) where
  no_fit : IsRefusedFor AboveInSums naturals (at_work 1) (step_of (by_rule 2)) (undefined DoesNotFit)
  no_fit = inr (
    λ e. let k : Some (work_of 1) ≡ None = e in cc,
    inl (first_reason (IsUndefined AboveInSums naturals (at_work 1) (by_rule 2)) (reason_one AboveInSums naturals one
        fine (at_work 1) (by_rule 2)) DoesNotFit (
          work_of 1,
          refl,
          inr (
            at_zero,
            refl,
            inl (
              left_side [] _,
              inl (
                record { place = 1; rule = plus_succ_rule; counts = refl; is = refl },
                inr (
                  λ m. succ_does_not_fit m.0,
                  refl,
                ),
              ),
            ),
          ),
        )),
  )

  not_smaller : IsRefusedFor AboveInSums naturals in_circle (step_of (Subsume 0 (succ_term (var 0) ∷ []))) NotSmaller
  not_smaller = inr (
    λ e. let k : Some circle ≡ None = e in cc,
    inr (
      each_clean (λ why. test (undefined why) (IsUndefined AboveInSums naturals in_circle
          (Subsume 0 (succ_term (var 0) ∷ [])) why)) all_reasons (λ why h. made_not_undefined AboveInSums naturals one
          fine in_circle circle (Subsume 0 (succ_term (var 0) ∷ [])) by_goal why refl succ_by_goal h),
      inl ((circle, by_goal, refl, succ_by_goal, inr (refl, not_allowed)), refl),
    ),
  )

  pub proved_session : IsSessionText AboveInSums naturals with_undo
      (codes "ok 1\nok 2\nrefused does not fit\nok 1\nok 2\nok 2\nok 2\nok 1\nok 1\nok 0\n" ++ report_text
      naturals_sig (record { steps = 1000; claims = proves_unit unit_steps ∷ [] })) false
  unfolding digits
  proved_session = record {
    lines = ok_line 1 ++ (ok_line 2 ++ (refused_line (codes "does not fit") ++ (ok_line 1 ++ (ok_line 2 ++
        (ok_line 2 ++ (ok_line 2 ++ (ok_line 1 ++ (ok_line 1 ++ (ok_line 0 ++ [])))))))));
    left = after 7;
    replies =
        then (accepted start (at_work 0) refl (begins naturals.goals 1 refl))
        (then (accepted (at_work 0) (at_work 1) (at_0 naturals.goals 1 refl) (covers naturals.goals 1 refl))
        (then (refused (at_work 1) (undefined DoesNotFit) (at_1 naturals.goals 1 refl) no_fit)
        (then {after = after 1} (taken_back (step_of by_cases) (at_work 0) refl (at_0 naturals.goals 1 refl))
        (then (accepted (at_work 0) (at_work 1) (at_0 naturals.goals 1 refl) (covers naturals.goals 1 refl))
        (then (accepted (at_work 1) (at_work 2) (at_1 naturals.goals 1 refl) (zero_rewritten naturals.goals 1 refl))
        (then (accepted (at_work 2) (at_work 3) (at_2 naturals.goals 1 refl) (succ_rewritten naturals.goals 1 refl))
        (then (accepted (at_work 3) (at_work 4) (at_3 naturals.goals 1 refl) (closed_zero naturals.goals 1 refl))
        (then (accepted (at_work 4) (at_work 5) (at_4 naturals.goals 1 refl) (decomposed naturals.goals 1 refl))
        (then (accepted (at_work 5) proved (at_5 naturals.goals 1 refl) ((closes naturals.goals 1 refl) one fine))
        no_more)))))))));
    state = proved;
    state_is = (at_end naturals.goals 1 refl) one fine;
    is = refl;
    ends = refl;
  }

  pub circular_session : IsSessionText AboveInSums naturals circular
      (codes "refused nothing to undo\nok 1\nok 2\nok 1\nrefused not smaller\n" ++ codes
      "spike-report 1\nsteps 1000\ndone\n") true
  unfolding digits
  circular_session = record {
    lines = refused_line (codes "nothing to undo") ++ (ok_line 1 ++ (ok_line 2 ++ (ok_line 1 ++ (refused_line
        (codes "not smaller") ++ []))));
    left = unit ∷ step_of by_cases ∷ step_of (Subsume 0 (zero_term ∷ [])) ∷ [];
    replies =
        then (nothing_to_undo refl)
        (then (accepted start (at_work 0) refl (begins naturals.goals 1 refl))
        (then (accepted (at_work 0) (at_work 1) (at_0 naturals.goals 1 refl) (covers naturals.goals 1 refl))
        (then (accepted (at_work 1) in_circle (at_1 naturals.goals 1 refl) zero_by_goal)
        (then (refused in_circle NotSmaller at_circle not_smaller)
        no_more))));
    state = in_circle;
    state_is = at_circle;
    is = refl;
    ends = refl;
  }

-- a second goal, by the first one

abbrev again : Command
again = Goal (codes "again")

abbrev by_unit : Command
by_unit = step_of (ByLemma (codes "unit") (var 0 ∷ []))

abbrev at_again : State
at_again = record {
  claims = proves_unit unit_steps ∷ [];
  work = Some (record { goal = again_goal; steps = []; made = [] });
}

abbrev both_proved : State
both_proved = record { claims = proves_unit unit_steps ∷ proves_again ∷ []; work = None }

not_again : IsClaimed (codes "again") (proves_unit unit_steps ∷ []) → ⊥
not_again (inl e) = let h : ◌≡◌ {A = ℕ} 117 97 = cc in omega arith
not_again (inr h) = h

again_begins : Accepts AboveInSums two_units proved again at_again
again_begins = record {
  idle = refl;
  goal = again_goal;
  named = (1, refl, refl);
  unproved = not_again;
  within = start_within;
  is = refl;
}

abbrev closed : List Children
closed = makes_clauses [] ∷ []

closed_allowed : AllAreAllowed closed
closed_allowed zero = allowed_by closed 0 _ refl tt tt
closed_allowed (suc k) = allowed_past closed (suc k) refl

again_closes : Accepts AboveInSums two_units at_again by_unit both_proved
unfolding digits
again_closes = record {
  work = _;
  under_work = refl;
  made = makes_clauses [];
  makes = record {
    clause = unit_clause;
    is = refl;
    says =
        inl (
          record {
            number = 0;
            goal = unit_goal;
            is = refl;
            named = refl;
            may_be_used = (unit_goal, refl, inl (refl, tt));
          },
          inl (
            (refl, tt),
            inl (
              start_within,
              inl (
                (tt, (inl (inl refl), tt)),
                (
                  _,
                  tt,
                  tt,
                  inl (
                    (tt, omega arith),
                    refl,
                  ),
                ),
              ),
            ),
          ),
        );
  };
  related = none_neither (makes_clauses []) tt tt;
  allowed = λ e. closed_allowed;
  short = omega arith;
  is = refl;
}

module _ (one : OneRelation AboveInSums) (fine : IsWellSorted naturals) where
  at_first : IsStateOf AboveInSums two_units (after 7) proved
  at_first = at_end two_units.goals 0 refl one fine

  at_second : IsStateOf AboveInSums two_units (after 7 ++ again ∷ []) at_again
  at_second = lead_more AboveInSums two_units start (after 7) proved at_again again at_first again_begins

  at_both : IsStateOf AboveInSums two_units (after 7 ++ again ∷ by_unit ∷ []) both_proved
  at_both =
      lead_more AboveInSums two_units start (after 7 ++ again ∷ []) at_again both_proved by_unit at_second
      again_closes

  pub lemma_session : IsSessionText AboveInSums two_units by_first
      (codes "ok 1\nok 2\nok 2\nok 2\nok 1\nok 1\nok 0\nok 1\nok 0\n" ++ codes "ok 1\nok 0\nok 1\nok 0\nok 1\nok 0\n"
      ++ report_text naturals_sig (record { steps = 1000; claims = proves_unit unit_steps ∷ proves_again ∷ [] }))
      false
  unfolding digits
  lemma_session = record {
    lines =
        ok_line 1 ++ (ok_line 2 ++ (ok_line 2 ++ (ok_line 2 ++ (ok_line 1 ++ (ok_line 1 ++ (ok_line 0 ++ (ok_line 1
        ++ (ok_line 0 ++ (ok_line 1 ++ (ok_line 0 ++ (ok_line 1 ++ (ok_line 0 ++ (ok_line 1
        ++ (ok_line 0 ++ []))))))))))))));
    left = after 7 ++ again ∷ by_unit ∷ [];
    replies =
        then (accepted start (at_work 0) refl (begins two_units.goals 0 refl))
        (then (accepted (at_work 0) (at_work 1) (at_0 two_units.goals 0 refl) (covers two_units.goals 0 refl))
        (then (accepted (at_work 1) (at_work 2) (at_1 two_units.goals 0 refl) (zero_rewritten two_units.goals 0 refl))
        (then (accepted (at_work 2) (at_work 3) (at_2 two_units.goals 0 refl) (succ_rewritten two_units.goals 0 refl))
        (then (accepted (at_work 3) (at_work 4) (at_3 two_units.goals 0 refl) (closed_zero two_units.goals 0 refl))
        (then (accepted (at_work 4) (at_work 5) (at_4 two_units.goals 0 refl) (decomposed two_units.goals 0 refl))
        (then (accepted (at_work 5) proved (at_5 two_units.goals 0 refl) (closes two_units.goals 0 refl one fine))
        (then (accepted proved at_again at_first again_begins)
        (then (accepted at_again both_proved at_second again_closes)
        (then {after = after 7 ++ again ∷ []} (taken_back by_unit at_again refl at_second)
        (then {after = after 7} (taken_back again proved refl at_first)
        (then {after = after 6} (taken_back (step_of (Subsume 0 (var 0 ∷ []))) (at_work 5) refl (at_5 two_units.goals
        0 refl))
        (then (accepted (at_work 5) proved (at_5 two_units.goals 0 refl) (closes two_units.goals 0 refl one fine))
        (then (accepted proved at_again at_first again_begins)
        (then (accepted at_again both_proved at_second again_closes)
        no_more))))))))))))));
    state = both_proved;
    state_is = at_both;
    is = refl;
    ends = refl;
  }
