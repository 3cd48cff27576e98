-- A step that is taken or refused at the goal under work, in its state.
use Rattle.std.proofs.Common.{◌≡◌, ℕ, zero, suc, ◌+◌, ◌-◌, ◌≤◌, List, [], ◌∷◌, ◌++◌, Some, None, Ok, Err, inl, inr}
use Rattle.std.proofs.Common.{refl, sym, ◌∙◌, ap}
use Rattle.std.proofs.Common.{subst, arith, length, length-append}
use Rattle.std.proofs.lemmas.List.{length-map}
use Rattle.term_core.specs.Tree.{Tree}
use Rattle.spec_core.specs.declared.records.Spec.{Spec}
use Rattle.spec_core.specs.Findings.{test}
use Rattle.spec_core.specs.WellSorted.{IsWellSorted}
use Rattle.clause_core.specs.declared.answers.Child.{Child}
use Rattle.clause_core.specs.declared.answers.Children.{Children}
use Rattle.clause_core.specs.declared.answers.Why.{Why}
use Rattle.clause_core.specs.declared.reports.Claim.{Claim}
use Rattle.clause_core.specs.declared.steps.Step.{Step}
use Rattle.clause_core.specs.ClauseLaws.{OneRelation}
use Rattle.acceptance.specs.Blocks.{clauses_of}
use Rattle.acceptance.specs.Claims.{ProvedBefore}
use Rattle.acceptance.specs.Refusals.{all_reasons}
use Rattle.clause_core.specs.Steps.{row_of}
use Rattle.acceptance.proofs.NoRefusal.{each_clean}
use Rattle.session_core.specs.declared.commands.Command.TheVariants.{Step as of_step}
use Rattle.session_core.specs.declared.errors.SessionError.{SessionError}
use Rattle.session_core.specs.declared.errors.SessionError.TheVariants.{GoalUnderWork, UnknownGoal, GoalTwice, NoGoal}
use Rattle.session_core.specs.declared.errors.SessionError.TheVariants.{Step as undefined}
use Rattle.session_core.specs.declared.errors.SessionError.TheVariants.{NotSmaller, Limit, OutOfMemory}
use Rattle.session_core.specs.States.{State, Work, nodes_at, pending, settled, settled_by, with_step, without_step}
use Rattle.session_core.specs.Accepting.{TakesStep, NextMakes}
use Rattle.session_core.specs.Kept.{Kept, Keeps}
use Rattle.session_core.specs.Refusals.{IsUndefined, IsNotSmaller, IsRefusedFor}
use Rattle.session_core.specs.Taking.{CarriesOut, IsTaken, IsStopped, KeepsSound}
use Rattle.session_core.proofs.OneState.{made_not_undefined, reason_one, same_made}
use Rattle.session_core.proofs.OpenGoals.{OpenAt, open_counts}
use Rattle.session_core.proofs.Reasons.{first_reason}
use Rattle.session_core.proofs.Sound.{more_nodes}
use Rattle.session_core.proofs.Undoing.{says_few, step_kept}

pending_by : (n : ℕ) (claims : List Claim) (work : Work) → without_step work ≡ n →
    pending (settled_by n claims work) ≡ without_step work
pending_by zero claims work e = sym e
pending_by (suc n) claims work e = refl

pub pending_settled : (claims : List Claim) (work : Work) → pending (settled claims work) ≡ without_step work
pending_settled claims work = pending_by (without_step work) claims work refl

module _ (above : Tree → Tree → Type 0) (spec : Spec) (fine : IsWellSorted spec) (one : OneRelation above)
    (state : State) (goals : List Kept) (k : KeepsSound above spec state goals) (o : OpenAt above spec fine one state
    goals) (step : Step) where
  -- the step is taken
  pub carried : (last : Kept) (count : ℕ) → IsTaken above spec state.claims o.work step o.last last →
      count ≡ length last.nodes - length last.links → CarriesOut above spec state (of_step step) goals (o.front ++
      last ∷ []) (Ok count)
  carried last count t e =
      let after = with_step o.work step t.made in
      let takes : TakesStep above spec state step (settled state.claims after) = record {
        work = o.work;
        under_work = o.under_work;
        made = t.made;
        makes = t.makes;
        related = t.related;
        allowed = t.allowed;
        short = t.short;
        is = refl;
      } in
      let kept = step_kept above spec one fine state (settled state.claims after) step k.sound takes o.front o.last
      o.finished o.open_goal.keeps in
      let n = open_counts above spec fine one state.claims o.work o.last o.open_goal in
      let nodes : length last.nodes ≡ length o.last.nodes + length (clauses_of t.made) =
      ap (λ (x : Kept). length x.nodes) t.is ∙ length-append o.last.nodes (clauses_of t.made) in
      let links : length last.links ≡ length o.last.links + 1 = ap (λ (x : Kept). length x.links) t.is ∙
      length-append o.last.links _ in
      let more = more_nodes o.work step t.made in
      let steps = length-append o.work.steps (step ∷ []) in
      let left : count ≡ without_step after = omega (arith, e, nodes, links, more, steps, n.0, n.1) in (
        settled state.claims after,
        takes,
        subst (λ x. Keeps above spec (settled state.claims after) (o.front ++ x ∷ [])) (sym t.is) kept,
        left ∙ sym (pending_settled state.claims after),
      )

  no_work : state.work ≡ None → ⊥
  no_work e = let q : Some o.work ≡ None = sym o.under_work ∙ e in cc

  -- a step that makes something is refused by none of its reasons
  defined : (made : Children) → NextMakes above spec state.claims o.work step made → (why : Why) →
      IsUndefined above spec state step why → ⊥
  defined made makes why h = made_not_undefined above spec one fine state o.work step made why o.under_work makes h

  -- the step is refused, first for this reason
  pub refused_first : (why : SessionError) → (why ≡ OutOfMemory → ⊥) → IsStopped above spec state.claims o.work step
      why → IsRefusedFor above spec state (of_step step) why
  refused_first (undefined why) n h =
      inr (
        no_work,
        inl (first_reason (IsUndefined above spec state step) (reason_one above spec one fine state step)
            why (o.work, o.under_work, h)),
      )
  refused_first NotSmaller n (made, makes, h) =
      inr (
        no_work,
        inr (
          each_clean (λ why. test (undefined why) (IsUndefined above spec state step why)) all_reasons (λ why. defined
              made makes why),
          inl ((o.work, made, o.under_work, makes, h), refl),
        ),
      )
  refused_first Limit n (made, makes, not, h) =
      inr (
        no_work,
        inr (
          each_clean (λ why. test (undefined why) (IsUndefined above spec state step why)) all_reasons (λ why. defined
              made makes why),
          inr (
            λ small. not (same_made above spec one fine state step o.work made o.under_work makes IsNotSmaller small),
            ((o.work, made, o.under_work, makes, h), refl),
          ),
        ),
      )
  refused_first OutOfMemory n h = absurd (n refl)
  refused_first GoalUnderWork n h = absurd h
  refused_first UnknownGoal n h = absurd h
  refused_first GoalTwice n h = absurd h
  refused_first NoGoal n h = absurd h

  -- a step that isn't taken is refused, and nothing changes
  pub carried_error : (why : SessionError) (new : List Kept) → new ≡ goals → IsStopped above spec state.claims o.work
      step why → CarriesOut above spec state (of_step step) goals new (Err why)
  carried_error (undefined why) new e h = (e, refused_first (undefined why) (λ f. cc) h)
  carried_error NotSmaller new e h = (e, refused_first NotSmaller (λ f. cc) h)
  carried_error Limit new e h = (e, refused_first Limit (λ f. cc) h)
  carried_error OutOfMemory new e h = e
  carried_error GoalUnderWork new e h = absurd h
  carried_error UnknownGoal new e h = absurd h
  carried_error GoalTwice new e h = absurd h
  carried_error NoGoal new e h = absurd h

  -- how many nodes and links there are then
  pub taken_counts : (last : Kept) → IsTaken above spec state.claims o.work step o.last last →
      (length last.links ≤ length last.nodes) × (length last.nodes ≤ 10000)
  taken_counts last t =
      let n = open_counts above spec fine one state.claims o.work o.last o.open_goal in
      let nodes : length last.nodes ≡ length o.last.nodes + length (clauses_of t.made) =
      ap (λ (x : Kept). length x.nodes) t.is ∙ length-append o.last.nodes (clauses_of t.made) in
      let links : length last.links ≡ length o.last.links + 1 = ap (λ (x : Kept). length x.links) t.is ∙
      length-append o.last.links _ in
      let few = says_few above t.makes.clause (nodes_at o.work) (row_of spec (ProvedBefore spec state.claims)
      (nodes_at o.work) t.makes.clause step) t.made t.makes.says in
      let many : length (clauses_of t.made) ≡ length t.made.clauses =
      length-map t.made.clauses (λ (d : Child). d.clause) in
      (omega (arith, nodes, links, n.0, n.1, o.open_goal.under.unfinished), omega (arith, nodes, n.0, few, many))
