-- Each state has claims that make an accepted report, and a goal under work that can go on.
use Rattle.std.proofs.Common.{◌≡◌, ℕ, zero, suc, ◌+◌, ◌≤◌, List, [], ◌∷◌, ◌++◌, Some, refl, sym, ◌∙◌, ap, subst, arith}
use Rattle.std.proofs.Common.{length}
use Rattle.std.proofs.Common.{length-append}
use Rattle.std.specs.Prelude.{flat_map, codes, map}
use Rattle.std.proofs.lemmas.Grind.{flat_map-append}
use Rattle.term_core.specs.Tree.{Tree}
use Rattle.term_core.proofs.Items.{all_append}
use Rattle.spec_core.specs.declared.records.Spec.{Spec}
use Rattle.clause_core.specs.declared.answers.Children.{Children}
use Rattle.clause_core.specs.declared.reports.Claim.{Claim}
use Rattle.clause_core.specs.declared.steps.Step.{Step}
use Rattle.clause_core.specs.Tidied.{goal_clause}
use Rattle.acceptance.specs.Blocks.{clauses_of, StepMakes, StepsMake}
use Rattle.acceptance.specs.Claims.{IsClaimed, ProvedBefore}
use Rattle.acceptance.proofs.Longer.{steps_longer, claims_longer}
use Rattle.proof_script.specs.Claims.{claim_text}
use Rattle.proof_script.specs.Steps.{step_line}
use Rattle.proof_script.specs.Words.{fixed, name, number, lines_text}
use Rattle.session_core.specs.declared.commands.Command.{Command}
use Rattle.session_core.specs.declared.commands.Command.TheVariants.{Goal, Step as of_step, Undo}
use Rattle.session_core.specs.States.{Work, State, start, pending, proves, settled_by, settled, with_step, without_step}
use Rattle.session_core.specs.States.{nodes_at}
use Rattle.session_core.specs.Accepting.{TakesGoal, TakesStep, Accepts, NextMakes}
use Rattle.session_core.specs.Sessions.{Lead, IsStateOf}
use Rattle.session_core.specs.Sound.{IsUnderWork, AreUnderWork, IsSound}

-- the nodes with what one step more makes
pub more_nodes : (work : Work) (step : Step) (m : Children) → length (nodes_at (with_step work step m)) ≡ length
    (nodes_at work) + length (clauses_of m)
more_nodes work step m =
    let e = flat_map-append clauses_of work.made (m ∷ []) in
    let n : length (flat_map clauses_of (work.made ++ m ∷ [])) ≡ length (flat_map clauses_of work.made ++ flat_map
    clauses_of (m ∷ [])) = ap (λ xs. length xs) e in
    let k = length-append (flat_map clauses_of work.made) (flat_map clauses_of (m ∷ [])) in
    let j = length-append (clauses_of m) [] in
    omega (arith, n, k, j)

module _ (above : Tree → Tree → Type 0) (spec : Spec) where
  abbrev IsShort : Claim → Type 0
  IsShort claim = length (claim_text spec.sig claim) ≤ 300000

  pub start_sound : IsSound above spec start
  start_sound = record { accepted = λ steps. tt; short = tt; under_work = tt }

  goal_sound : (old : State) (goal : List ℕ) (new : State) → IsSound above spec old →
      TakesGoal above spec old goal new → IsSound above spec new
  goal_sound old goal new s t =
      let work : IsUnderWork above spec old.claims (record { goal = t.goal; steps = []; made = [] }) = record {
        named = (t.named.0, t.named.1, refl);
        unproved = λ h. t.unproved (subst (λ n. IsClaimed n old.claims) t.named.2 h);
        within = t.within;
        makes = tt;
        unfinished = omega arith;
      } in
      subst (λ x. IsSound above spec x) (sym t.is) (record {
        accepted = s.accepted;
        short = s.short;
        under_work =
            work;
      })

  -- with one step more
  module _ (claims : List Claim) (work : Work) (under : IsUnderWork above spec claims work) (step : Step)
      (m : Children) where
    pub more_steps : NextMakes above spec claims work step m → StepsMake above spec (ProvedBefore spec claims)
        (goal_clause work.goal ∷ []) 0 (work.steps ++ step ∷ []) (work.made ++ m ∷ [])
    more_steps next =
        let z : length work.steps ≡ 0 + length work.steps = omega arith in
        steps_longer above spec (ProvedBefore spec claims) (goal_clause work.goal ∷ []) 0 work.steps work.made
        under.makes step m (subst (λ k. StepMakes above spec (ProvedBefore spec claims) (nodes_at work) k step m)
        z next)

    -- there are as many nodes as steps, or more
    pub enough_nodes : length (work.steps ++ step ∷ []) ≤ length (nodes_at (with_step work step m))
    enough_nodes = omega (arith, under.unfinished, more_nodes work step m, length-append work.steps (step ∷ []))

  module _ (old : State) (step : Step) (new : State) (t : TakesStep above spec old step new) where
    abbrev then_work : Work
    then_work = with_step t.work step t.made

    settled_last : (n : ℕ) → pending (settled_by n old.claims then_work) ≡ 0 → without_step then_work ≡ n →
        (settled_by n old.claims then_work).claims ≡ old.claims ++ proves t.work.goal (t.work.steps ++ step ∷ []) ∷ []
    settled_last zero p e = refl
    settled_last (suc n) p e = absurd (omega (arith, p, e))

    -- if nothing is pending the goal is the last claim
    pub last_claim : pending new ≡ 0 → new.claims ≡ old.claims ++ proves t.work.goal (t.work.steps ++ step ∷ []) ∷ []
    last_claim p =
        let q : pending (settled old.claims then_work) ≡ 0 = ap pending (sym t.is) ∙ p in
        ap (λ x. x.claims) t.is ∙ settled_last (without_step then_work) q refl

  module _ (old : State) (step : Step) (new : State) (s : IsSound above spec old) (t : TakesStep above spec old step
      new) where
    abbrev after : Work
    after = with_step t.work step t.made

    under : IsUnderWork above spec old.claims t.work
    under = let e : AreUnderWork above spec old.claims (Some t.work) =
        subst (λ w. AreUnderWork above spec old.claims w) t.under_work s.under_work in e

    makes : StepsMake above spec (ProvedBefore spec old.claims) (goal_clause t.work.goal ∷ []) 0 after.steps
        after.made
    makes = more_steps old.claims t.work under step t.made t.makes

    enough : length after.steps ≤ length (nodes_at after)
    enough = enough_nodes old.claims t.work under step t.made

    finished : without_step after ≡ 0 → length (nodes_at after) ≡ length after.steps
    finished e = omega (arith, e, enough)

    claim_short : without_step after ≡ 0 → IsShort (proves after.goal after.steps)
    claim_short e =
        subst
        (λ n. length (lines_text spec.sig (record {
          head = codes "proved";
          words =
              name after.goal.name ∷ fixed (codes "nodes") ∷ number n ∷ [];
        } ∷ map step_line after.steps)) ≤ 300000)
        (finished e) t.short

    settled_sound : (n : ℕ) → without_step after ≡ n → IsSound above spec (settled_by n old.claims after)
    settled_sound zero e = record {
      accepted = λ steps. claims_longer above spec steps [] old.claims (s.accepted steps) (proves after.goal
          after.steps) (record {
            goal = after.goal;
            named = under.named;
            first = under.unproved;
            shown = record {
              within = under.within;
              made = after.made;
              makes = makes;
              finished = finished e;
              allowed =
                  t.allowed e;
            };
          });
      short = all_append IsShort old.claims (proves after.goal after.steps ∷ []) s.short (claim_short e, tt);
      under_work = tt;
    }
    settled_sound (suc n) e = record {
      accepted = s.accepted;
      short = s.short;
      under_work = record {
        named = under.named;
        unproved = under.unproved;
        within = under.within;
        makes = makes;
        unfinished = omega (arith, e);
      };
    }

    step_sound : IsSound above spec new
    step_sound = subst (λ x. IsSound above spec x) (sym t.is) (settled_sound (without_step after) refl)

  pub accepted_sound : (old : State) (command : Command) (new : State) → IsSound above spec old →
      Accepts above spec old command new → IsSound above spec new
  accepted_sound old (Goal goal) new s t = goal_sound old goal new s t
  accepted_sound old (of_step step) new s t = step_sound old step new s t
  accepted_sound old Undo new s t = absurd t

  lead_sound : (old : State) (commands : List Command) (new : State) → IsSound above spec old →
      Lead above spec old commands new → IsSound above spec new
  lead_sound old [] new s p = subst (λ x. IsSound above spec x) (sym p) s
  lead_sound old (c ∷ cs) new s (next, a, p) = lead_sound next cs new (accepted_sound old c next s a) p

  -- each state that accepted commands lead to is sound
  pub states_sound : (commands : List Command) (state : State) → IsStateOf above spec commands state →
      IsSound above spec state
  states_sound commands state p = lead_sound start commands state start_sound p
