-- The accepted commands are those that their state shows.
use Rattle.std.proofs.Common.{◌≡◌, ℕ, zero, suc, List, [], ◌∷◌, ◌++◌, refl, sym, ◌∙◌, ap, append_assoc}
use Rattle.std.specs.Prelude.{flat_map}
use Rattle.std.proofs.lemmas.Grind.{flat_map-append}
use Rattle.std.proofs.lemmas.List.{append-nil, map-append}
use Rattle.term_core.specs.Tree.{Tree}
use Rattle.spec_core.specs.declared.records.Spec.{Spec}
use Rattle.clause_core.specs.declared.reports.Claim.{Claim}
use Rattle.clause_core.specs.declared.steps.Step.{Step}
use Rattle.session_core.specs.declared.commands.Command.{Command}
use Rattle.session_core.specs.declared.commands.Command.TheVariants.{Goal, Step as of_step, Undo}
use Rattle.session_core.specs.States.{Work, State, start, proves, settled_by, with_step, without_step}
use Rattle.session_core.specs.Accepting.{Accepts}
use Rattle.session_core.specs.Sessions.{Lead, IsStateOf}
use Rattle.session_core.specs.Written.{claim_commands, goal_commands, state_commands, work_commands}

goal_more : (name : List ℕ) (steps : List Step) (step : Step) → goal_commands name (steps ++ step ∷ []) ≡
    goal_commands name steps ++ of_step step ∷ []
goal_more name steps step = ap (λ cs. Goal name ∷ cs) (map-append (λ (s : Step). of_step s) steps (step ∷ []))

step_more : (claims : List Claim) (name : List ℕ) (steps : List Step) (step : Step) →
    flat_map claim_commands claims ++ goal_commands name (steps ++ step ∷ []) ≡ (flat_map claim_commands claims ++
    goal_commands name steps) ++ of_step step ∷ []
step_more claims name steps step =
    ap (λ cs. flat_map claim_commands claims ++ cs) (goal_more name steps step)
    ∙ sym (append_assoc (flat_map claim_commands claims) (goal_commands name steps) (of_step step ∷ []))

claim_more : (claims : List Claim) (claim : Claim) → flat_map claim_commands (claims ++ claim ∷ []) ≡ flat_map
    claim_commands claims ++ claim_commands claim
claim_more claims claim =
    flat_map-append claim_commands claims (claim ∷ [])
    ∙ ap (λ cs. flat_map claim_commands claims ++ cs) (append-nil (claim_commands claim))

settled_commands : (n : ℕ) (claims : List Claim) (work : Work) → state_commands (settled_by n claims work) ≡ flat_map
    claim_commands claims ++ goal_commands work.goal.name work.steps
settled_commands zero claims work = append-nil (flat_map claim_commands (claims ++ proves work.goal work.steps ∷ []))
    ∙ claim_more claims (proves work.goal work.steps)
settled_commands (suc n) claims work = refl

module _ (above : Tree → Tree → Type 0) (spec : Spec) where
  accepts_written : (old : State) (command : Command) (new : State) → Accepts above spec old command new →
      state_commands new ≡ state_commands old ++ command ∷ []
  accepts_written old (Goal name) new t =
      let before : state_commands old ≡ flat_map claim_commands old.claims =
      ap (λ w. flat_map claim_commands old.claims ++ work_commands w) t.idle ∙
      append-nil (flat_map claim_commands old.claims) in
      ap state_commands t.is
      ∙ ap (λ n. flat_map claim_commands old.claims ++ Goal n ∷ []) t.named.2
      ∙ ap (λ cs. cs ++ Goal name ∷ []) (sym before)
  accepts_written old (of_step step) new t =
      let after = with_step t.work step t.made in
      let before : state_commands old ≡ flat_map claim_commands old.claims ++ goal_commands t.work.goal.name
      t.work.steps = ap (λ w. flat_map claim_commands old.claims ++ work_commands w) t.under_work in
      ap state_commands t.is
      ∙ settled_commands (without_step after) old.claims after
      ∙ step_more old.claims t.work.goal.name t.work.steps step
      ∙ ap (λ cs. cs ++ of_step step ∷ []) (sym before)
  accepts_written old Undo new t = absurd t

  lead_written : (old : State) (commands : List Command) (new : State) → Lead above spec old commands new →
      state_commands new ≡ state_commands old ++ commands
  lead_written old [] new p = ap state_commands p ∙ sym (append-nil (state_commands old))
  lead_written old (c ∷ cs) new (next, a, p) =
      lead_written next cs new p
      ∙ ap (λ ds. ds ++ cs) (accepts_written old c next a)
      ∙ append_assoc (state_commands old) (c ∷ []) cs

  pub state_written : (commands : List Command) (state : State) → IsStateOf above spec commands state →
      commands ≡ state_commands state
  state_written commands state p = sym (lead_written start commands state p)
