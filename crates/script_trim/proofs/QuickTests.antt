-- A closing step could close a node if and only if the tests at that node alone say so.
use Rattle.std.proofs.Common.{◌≡◌, ℕ, ◌≤◌, ◌<◌, List, [], ◌∷◌, true, Some, take, ◌∙◌, subst, arith, length}
use Rattle.std.specs.Prelude.{slice_get, slice_set}
use Rattle.std.proofs.lemmas.Option.{slice_get_within}
use Rattle.term_core.specs.Tree.{Tree}
use Rattle.term_core.proofs.Items.{all_at}
use Rattle.spec_core.specs.declared.records.Spec.{Spec}
use Rattle.spec_core.specs.WellSorted.{IsWellSorted}
use Rattle.clause_core.specs.declared.answers.Children.{Children}
use Rattle.clause_core.specs.declared.answers.Reference.{Reference}
use Rattle.clause_core.specs.declared.clauses.Relation.TheVariants.{Less}
use Rattle.clause_core.specs.declared.reports.Report.{Report}
use Rattle.clause_core.specs.declared.steps.Step.{Step}
use Rattle.clause_core.specs.ClauseLaws.{OneRelation}
use Rattle.clause_core.specs.Tidied.{goal_clause}
use Rattle.acceptance.specs.Accepting.{ClaimIsAccepted, IsAccepted}
use Rattle.acceptance.specs.Blocks.{nodes_of, StepMakes, Proves}
use Rattle.acceptance.specs.Claims.{ProvedBefore}
use Rattle.acceptance.specs.Strict.{AllAreAllowed}
use Rattle.acceptance.proofs.NoRefusal.{goal_named_one}
use Rattle.acceptance.proofs.OneBlock.{steps_one}
use Rattle.acceptance.proofs.WholeBlocks.{as_many}
use Rattle.script_trim.specs.Cut.{staying, IsCut, RefersToStaying}
use Rattle.script_trim.specs.Made.{cut_made}
use Rattle.script_trim.specs.Quick.{CanClose}
use Rattle.script_trim.specs.Trimmed.{proves, with_steps, ProvedClaim, Closes}
use Rattle.script_trim.proofs.ClosingSteps.{closing_makes_none, none_by}
use Rattle.script_trim.proofs.CutAllowed.{allowed_new}
use Rattle.script_trim.proofs.CutBlocks.{cut_makes, cut_finished}
use Rattle.script_trim.proofs.Necessary.{closing_made}
use Rattle.script_trim.proofs.Places.{set_same, set_other, take_set}
use Rattle.script_trim.proofs.ReferredNodes.{made_there, step_at}
use Rattle.script_trim.proofs.ReplacedClaims.{accepted_at, replaced}
use Rattle.script_trim.proofs.Staying.{staying_at}
use Rattle.script_trim.proofs.StayingChildren.{stays_before}

module _
    (above : Tree → Tree → Type 0) (one : OneRelation above) (spec : Spec) (fine : IsWellSorted spec)
    (report :
    Report) (accepted : IsAccepted above spec report) (number : ℕ) (claim : ProvedClaim above spec report number)
  where
    abbrev usable : ℕ → Type 0
    usable = ProvedBefore spec (take number report.claims)

    old : ClaimIsAccepted above spec report.steps (take number report.claims) (proves claim.goal.name claim.steps)
    old =
        accepted_at above spec report.steps [] report.claims accepted number (proves claim.goal.name claim.steps)
        claim.is

    pub shown : Proves above spec usable (goal_clause claim.goal) claim.steps
    shown =
        let e = goal_named_one spec fine claim.goal.name old.goal claim.goal old.named claim.named in
        subst (λ g. Proves above spec usable (goal_clause g) claim.steps) e old.shown

    same_made : shown.made ≡ claim.made
    same_made =
        steps_one above one spec fine usable (goal_clause claim.goal ∷ []) 0 claim.steps shown.made claim.made
        shown.makes claim.makes

    -- each node of the claim has its step, and everything is allowed
    pub finished : length (nodes_of (goal_clause claim.goal) claim.made) ≡ length claim.steps
    finished = subst (λ ms. length (nodes_of (goal_clause claim.goal) ms) ≡ length claim.steps) same_made shown.finished

    allowed : AllAreAllowed claim.made
    allowed = subst AllAreAllowed same_made shown.allowed

    module _ (i : ℕ) (step : Step) (rest : List Step) (cut : IsCut claim.steps claim.made i step rest)
        (within : i < length claim.steps) where
      kept : (j : ℕ) → j ≤ i → cut.stays j ≡ true
      kept =
          stays_before cut.stays i above spec usable (goal_clause claim.goal) claim.steps claim.made claim.makes
          finished cut.which within

      few : length claim.made ≡ length claim.steps
      few = as_many above spec usable (goal_clause claim.goal ∷ []) 0 claim.steps claim.made claim.makes

      -- the steps that are left refer to nodes that stay
      refs_stay :
          (k : ℕ) (m : Children) → slice_get claim.made k ≡ Some m → cut.stays k ≡ true → (k ≡ i → ⊥) →
          (a : ℕ) (r : Reference) → slice_get m.refs a ≡ Some r → cut.stays r.node ≡ true
      refs_stay k m at s other a r get =
          let p = step_at above spec usable (goal_clause claim.goal ∷ []) 0 claim.steps claim.made claim.makes k m at in
          let there : slice_get (slice_set claim.steps i step) k ≡ Some p.0 =
          set_other claim.steps i k step other ∙ p.2 in
          let refers : RefersToStaying cut.stays p.0 = all_at (RefersToStaying cut.stays)
          (staying cut.stays 0 (slice_set claim.steps i step)) cut.refer _ p.0
          (staying_at cut.stays k (slice_set claim.steps i step) p.0 there s) in
          made_there cut.stays above spec usable p.1 _ p.0 m p.3 refers a r get

      -- a closing step that refers to no node that isn't Less leaves everything allowed
      pub less_allowed :
          (closed : Children) → closed.clauses ≡ [] → ((a : ℕ) (r : Reference) → slice_get closed.refs a ≡ Some r →
          r.relation ≡ Less) → AllAreAllowed (cut_made cut.stays claim.made i closed)
      less_allowed closed none less =
          allowed_new cut.stays i above spec usable (goal_clause claim.goal) claim.steps claim.made claim.makes finished
          cut.which (kept 0 (omega arith)) (omega (arith, within, few)) closed none refs_stay less allowed

      -- the claim with the steps that are left
      pub cut_accepted :
          (closed : Children) → closed.clauses ≡ [] → StepMakes above spec usable
          (nodes_of (goal_clause claim.goal) (take i claim.made)) i step closed →
          AllAreAllowed (cut_made cut.stays claim.made i closed) →
          IsAccepted above spec (with_steps report number claim.goal.name rest)
      cut_accepted closed none closes fits =
          replaced claim.goal.name claim.steps rest above spec report.steps [] report.claims accepted number claim.is
          (record {
            goal = claim.goal;
            named = claim.named;
            first = old.first;
            shown = record {
              within = shown.within;
              made = cut_made cut.stays claim.made i closed;
              makes =
                  cut_makes above spec usable (goal_clause claim.goal) claim.steps claim.made claim.makes finished i
                  within
                  step rest cut closed none closes;
              finished =
                  cut_finished above spec usable (goal_clause claim.goal) claim.steps claim.made claim.makes finished i
                  within step rest cut closed none;
              allowed = fits;
            };
          })

      -- and what is known if the report with them is accepted
      module _ (again : IsAccepted above spec (with_steps report number claim.goal.name rest)) where
        new :
            ClaimIsAccepted above spec report.steps (take number
            (slice_set report.claims number (proves claim.goal.name rest))) (proves claim.goal.name rest)
        new =
            accepted_at above spec report.steps [] (slice_set report.claims number (proves claim.goal.name rest)) again
            number (proves claim.goal.name rest) (set_same report.claims number (proves claim.goal.name rest)
            (slice_get_within report.claims number _ claim.is))

        new_shown : Proves above spec usable (goal_clause claim.goal) rest
        new_shown =
            let e = goal_named_one spec fine claim.goal.name new.goal claim.goal new.named claim.named in
            let p : Proves above spec (ProvedBefore spec (take number
            (slice_set report.claims number (proves claim.goal.name rest)))) (goal_clause claim.goal) rest =
            subst (λ g. Proves above spec (ProvedBefore spec
            (take number (slice_set report.claims number (proves claim.goal.name rest)))) (goal_clause g) rest) e
            new.shown in
            subst (λ cs. Proves above spec (ProvedBefore spec cs) (goal_clause claim.goal) rest)
            (take_set report.claims number (proves claim.goal.name rest)) p

        pub closing :
            (m : Children) × StepMakes above spec usable (nodes_of (goal_clause claim.goal) (take i claim.made)) i step
            m
        closing =
            closing_made above one spec fine usable (goal_clause claim.goal) claim.steps claim.made claim.makes finished
            i within step rest cut new_shown.made new_shown.makes

        pub cut_allowed :
            (closed : Children) → closed.clauses ≡ [] → StepMakes above spec usable
            (nodes_of (goal_clause claim.goal) (take i claim.made)) i step closed →
            AllAreAllowed (cut_made cut.stays claim.made i closed)
        cut_allowed closed none closes =
            let p = cut_makes above spec usable (goal_clause claim.goal) claim.steps claim.made claim.makes finished i
            within step rest cut closed none closes in
            subst AllAreAllowed (steps_one above one spec fine usable (goal_clause claim.goal ∷ []) 0 rest
            new_shown.made (cut_made cut.stays claim.made i closed) new_shown.makes p) new_shown.allowed

module _ (above : Tree → Tree → Type 0) (one : OneRelation above) (spec : Spec) (fine : IsWellSorted spec)
    (report : Report) (accepted : IsAccepted above spec report) (number i : ℕ) (step : Step) (rest : List Step) where
  pub sufficient : CanClose above spec report number i step rest → Closes above spec report number i step rest
  sufficient c =
      let usable = ProvedBefore spec (take number report.claims) in
      let within : i < length c.claim.steps = omega (
        arith,
        slice_get_within (nodes_of (goal_clause c.claim.goal) c.claim.made) i c.node c.node_is,
        finished above one spec fine report accepted number c.claim,
      ) in
      let none = none_by above spec usable (nodes_of (goal_clause c.claim.goal) (take i c.claim.made)) i step c.closed
      c.closes (closing_makes_none spec (nodes_of (goal_clause c.claim.goal) c.claim.made) c.node step
      c.closing) in
      record {
        claim = c.claim;
        node = c.node;
        node_is = c.node_is;
        closing = c.closing;
        cut = c.cut;
        short = c.short;
        accepted =
            cut_accepted above one spec fine report accepted number c.claim i step rest c.cut within c.closed none
            c.closes c.allowed;
      }

  pub necessary : Closes above spec report number i step rest → CanClose above spec report number i step rest
  necessary c =
      let usable = ProvedBefore spec (take number report.claims) in
      let within : i < length c.claim.steps = omega (
        arith,
        slice_get_within (nodes_of (goal_clause c.claim.goal) c.claim.made) i c.node c.node_is,
        finished above one spec fine report accepted number c.claim,
      ) in
      let m = closing above one spec fine report accepted number c.claim i step rest c.cut within c.accepted in
      let none = none_by above spec usable (nodes_of (goal_clause c.claim.goal) (take i c.claim.made)) i step m.0 m.1
      (closing_makes_none spec (nodes_of (goal_clause c.claim.goal) c.claim.made) c.node step c.closing) in
      record {
        claim = c.claim;
        node = c.node;
        node_is = c.node_is;
        closing = c.closing;
        cut = c.cut;
        closed = m.0;
        closes = m.1;
        allowed =
            cut_allowed above one spec fine report accepted number c.claim i step rest c.cut within c.accepted m.0
            none m.1;
        short = c.short;
      }
