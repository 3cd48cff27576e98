-- If commands may appear in a text, the claims that they lead to may, and the report has a text.
use Rattle.std.proofs.Common.{◌≡◌, ℕ, zero, suc, ◌-◌, ◌≤◌, List, [], ◌∷◌, ◌++◌, Some, None, refl, sym, subst, arith}
use Rattle.std.proofs.Common.{length, map}
use Rattle.std.proofs.Common.{length-take}
use Rattle.std.specs.Prelude.{Option}
use Rattle.std.proofs.lemmas.List.{length-map}
use Rattle.std.specs.List.{AllByRecursion}
use Rattle.term_core.specs.Tree.{Tree}
use Rattle.term_core.proofs.Items.{all_append}
use Rattle.spec_core.specs.declared.records.Spec.{Spec}
use Rattle.clause_core.specs.declared.answers.Child.{Child}
use Rattle.clause_core.specs.declared.reports.Claim.{Claim}
use Rattle.clause_core.specs.declared.steps.Step.{Step}
use Rattle.clause_core.specs.Steps.{row_of}
use Rattle.acceptance.specs.Claims.{ProvedBefore}
use Rattle.proof_script.specs.Claims.{claim_text, report_text}
use Rattle.proof_script.specs.Names.{IsReportName}
use Rattle.proof_script.specs.Reports.{most_steps, ClaimStands}
use Rattle.proof_script.specs.Standing.{Between, StepStands}
use Rattle.proof_script.specs.Texts.{IsFew, IsReportText}
use Rattle.session_core.specs.declared.commands.Command.{Command}
use Rattle.session_core.specs.declared.commands.Command.TheVariants.{Goal, Step as of_step, Undo}
use Rattle.session_core.specs.States.{Work, State, start, proves, settled_by, with_step, without_step, nodes_at}
use Rattle.session_core.specs.Accepting.{TakesStep, Accepts}
use Rattle.session_core.specs.Laws.{CommandStands}
use Rattle.session_core.specs.Sessions.{Lead, IsStateOf}
use Rattle.session_core.specs.Sound.{IsUnderWork, AreUnderWork, IsSound, report_of}
use Rattle.session_core.proofs.Sound.{accepted_sound, enough_nodes, more_nodes, start_sound, states_sound}
use Rattle.session_core.proofs.Undoing.{says_few}

module _ (above : Tree → Tree → Type 0) (spec : Spec) where
  record WorkStands (work : Work) : Type 0 where
    goal : IsReportName work.goal.name
    steps : AllByRecursion (StepStands spec.sig) work.steps

  abbrev AnyWorkStands : Option Work → Type 0
  AnyWorkStands None = Unit {0}
  AnyWorkStands (Some work) = WorkStands work

  record StateStands (state : State) : Type 0 where
    claims : AllByRecursion (ClaimStands spec.sig) state.claims
    work : AnyWorkStands state.work

  step_stands : (old : State) (step : Step) (new : State) → IsSound above spec old → StateStands old →
      StepStands spec.sig step → TakesStep above spec old step new → StateStands new
  step_stands old step new sound s h t =
      subst StateStands (sym t.is) (settled (without_step (with_step t.work step t.made)) refl)
    where
      under : IsUnderWork above spec old.claims t.work
      under = let e : AreUnderWork above spec old.claims (Some t.work) =
          subst (λ w. AreUnderWork above spec old.claims w) t.under_work sound.under_work in e

      works : WorkStands t.work
      works = let e : AnyWorkStands (Some t.work) = subst AnyWorkStands t.under_work s.work in e

      more : WorkStands (with_step t.work step t.made)
      more = record {
        goal = works.goal;
        steps = all_append (StepStands spec.sig) t.work.steps (step ∷ []) works.steps
            (h, tt);
      }

      few : length (t.work.steps ++ step ∷ []) ≤ 10000
      few = omega (
        arith,
        enough_nodes above spec old.claims t.work under step t.made,
        more_nodes t.work step t.made,
        says_few above t.makes.clause (nodes_at t.work) (row_of spec (ProvedBefore spec old.claims)
            (nodes_at t.work) t.makes.clause step) t.made t.makes.says,
        length-map t.made.clauses (λ (d : Child). d.clause),
      )

      settled : (n : ℕ) → without_step (with_step t.work step t.made) ≡ n →
          StateStands (settled_by n old.claims (with_step t.work step t.made))
      settled zero e = record {
        claims = all_append (ClaimStands spec.sig) old.claims (proves t.work.goal (t.work.steps ++ step ∷ []) ∷ [])
            s.claims (record { goal = works.goal; outcome = (few, more.steps) }, tt);
        work = tt;
      }
      settled (suc n) e = record { claims = s.claims; work = more }

  accepted_stands : (old : State) (command : Command) (new : State) → IsSound above spec old → StateStands old →
      CommandStands spec.sig command → Accepts above spec old command new → StateStands new
  accepted_stands old (Goal name) new sound s h t =
      subst StateStands (sym t.is) (record {
        claims = s.claims;
        work = record {
          goal =
              subst IsReportName (sym t.named.2) h;
          steps = tt;
        };
      })
  accepted_stands old (of_step step) new sound s h t = step_stands old step new sound s h t
  accepted_stands old Undo new sound s h t = absurd t

  lead_stands : (old : State) (commands : List Command) (new : State) → IsSound above spec old → StateStands old →
      AllByRecursion (CommandStands spec.sig) commands → Lead above spec old commands new → StateStands new
  lead_stands old [] new sound s h p = subst StateStands (sym p) s
  lead_stands old (c ∷ cs) new sound s h (next, a, p) = lead_stands next cs new (accepted_sound above spec old c next
      sound a) (accepted_stands old c next sound s h.0 a) h.1 p

  few_texts : (n : ℕ) (claims : List Claim) → AllByRecursion (λ (claim : Claim). length (claim_text spec.sig claim) ≤
      300000) claims → IsFew n (map (claim_text spec.sig) claims)
  few_texts n [] h = tt
  few_texts n (c ∷ cs) h = (
    omega (arith, h.0, length-take n (claim_text spec.sig c)),
    few_texts (n - length (claim_text spec.sig c)) cs h.1,
  )

  pub reports_stand : (commands : List Command) (state : State) (steps : ℕ) → IsStateOf above spec commands state →
      AllByRecursion (CommandStands spec.sig) commands → Between 1 most_steps steps →
      IsReportText spec.sig (report_text spec.sig (report_of steps state)) (report_of steps state)
  reports_stand commands state steps p h between =
      let s = lead_stands start commands state (start_sound above spec) (record { claims = tt; work = tt }) h p in
      record {
        stands = record { steps = between; claims = s.claims };
        is = refl;
        few = few_texts _ state.claims (states_sound above spec commands state p).short;
      }
