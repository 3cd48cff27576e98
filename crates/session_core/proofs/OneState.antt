-- A list of accepted commands leads to one state, and its last command is the last change.
use Rattle.std.proofs.Common.{◌≡◌, ◌<◌, List, [], ◌∷◌, ◌++◌, Some, None, inl, inr, refl, sym, ◌∙◌, ap, subst, arith}
use Rattle.std.specs.Prelude.{length}
use Rattle.term_core.specs.Tree.{Tree}
use Rattle.spec_core.specs.declared.records.Spec.{Spec}
use Rattle.spec_core.specs.WellSorted.{IsWellSorted}
use Rattle.spec_core.specs.Findings.{test, Clean}
use Rattle.clause_core.specs.declared.answers.Children.{Children}
use Rattle.clause_core.specs.declared.reports.Claim.{Claim}
use Rattle.clause_core.specs.declared.steps.Step.{Step}
use Rattle.clause_core.specs.declared.answers.Why.{Why}
use Rattle.clause_core.specs.ClauseLaws.{OneRelation}
use Rattle.clause_core.specs.Limits.{IsWithin}
use Rattle.clause_core.specs.Tidied.{goal_clause}
use Rattle.acceptance.specs.Claims.{ProvedBefore}
use Rattle.acceptance.specs.Refusals.{all_reasons}
use Rattle.acceptance.specs.StepRefusals.{IsRefused}
use Rattle.acceptance.proofs.NoRefusal.{each_clean, goal_named_one, not_of_goal}
use Rattle.acceptance.proofs.OneBlock.{made_one, not_refused, one_reason}
use Rattle.session_core.specs.declared.commands.Command.{Command}
use Rattle.session_core.specs.declared.commands.Command.TheVariants.{Goal, Step as of_step, Undo}
use Rattle.session_core.specs.States.{Work, State, begun, settled, with_step, nodes_at}
use Rattle.session_core.specs.declared.errors.SessionError.TheVariants.{Step as undefined}
use Rattle.session_core.specs.Accepting.{NextMakes, TakesStep, Accepts, text_length}
use Rattle.session_core.specs.Refusals.{OfStep, IsUndefined, IsNotSmaller, IsTooLong, tests}
use Rattle.session_core.specs.Sessions.{Lead}

module _ (above : Tree → Tree → Type 0) (spec : Spec) where
  -- one command more, at the end
  pub lead_more : (old : State) (commands : List Command) (middle new : State) (command : Command) →
      Lead above spec old commands middle → Accepts above spec middle command new →
      Lead above spec old (commands ++ command ∷ []) new
  lead_more old [] middle new command p a = (new, subst (λ s. Accepts above spec s command new) p a, refl)
  lead_more old (c ∷ cs) middle new command (next, b, p) a = (next, b, lead_more next cs middle new command p a)

  pub lead_last : (old : State) (commands : List Command) (new : State) (command : Command) →
      Lead above spec old (commands ++ command ∷ []) new → (middle : State) × Lead above spec old commands middle ×
      Accepts above spec middle command new
  lead_last old [] new command (next, b, p) = (old, refl, subst (λ s. Accepts above spec old command s) (sym p) b)
  lead_last old (c ∷ cs) new command (next, b, p) =
      let rest = lead_last next cs new command p in
      (rest.0, (next, b, rest.1), rest.2)

  module _ (one : OneRelation above) (fine : IsWellSorted spec) where
    next_one : (claims : List Claim) (work : Work) (step : Step) (m n : Children) →
        NextMakes above spec claims work step m → NextMakes above spec claims work step n → m ≡ n
    next_one claims work step m n p q = made_one above one spec fine (ProvedBefore spec claims) (nodes_at work)
        (length work.steps) step m n p q

    accepts_one : (old : State) (command : Command) (new other : State) → Accepts above spec old command new →
        Accepts above spec old command other → new ≡ other
    accepts_one old (Goal name) new other p q = p.is ∙ ap (begun old.claims) (goal_named_one spec fine name p.goal
        q.goal p.named q.named) ∙ sym q.is
    accepts_one old (of_step step) new other p q =
        let s : Some p.work ≡ Some q.work = sym p.under_work ∙ q.under_work in
        let k : p.work ≡ q.work = cc in
        let r : NextMakes above spec old.claims p.work step q.made =
        subst (λ x. NextMakes above spec old.claims x step q.made) (sym k) q.makes in
        let i : p.made ≡ q.made = next_one old.claims p.work step p.made q.made p.makes r in
        p.is ∙ ap (λ x. settled old.claims (with_step p.work step x)) i ∙
        ap (λ x. settled old.claims (with_step x step q.made)) k ∙ sym q.is
    accepts_one old Undo new other p q = absurd p

    pub lead_one : (old : State) (commands : List Command) (new other : State) → Lead above spec old commands new →
        Lead above spec old commands other → new ≡ other
    lead_one old [] new other p q = p ∙ sym q
    lead_one old (c ∷ cs) new other (next, a, p) (again, b, q) =
        let e = accepts_one old c next again a b in
        lead_one next cs new other p (subst (λ s. Lead above spec s cs other) (sym e) q)

    pub made_not_undefined : (old : State) (work : Work) (step : Step) (m : Children) (why : Why) →
        old.work ≡ Some work → NextMakes above spec old.claims work step m → IsUndefined above spec old step why → ⊥
    made_not_undefined old work step m why is p (w, at, r) =
        let s : Some w ≡ Some work = sym at ∙ is in
        let k : w ≡ work = cc in
        not_refused above one spec fine (ProvedBefore spec old.claims) (nodes_at work) (length work.steps) step m why
        p (subst (λ x. IsRefused above spec (ProvedBefore spec old.claims) (nodes_at x) (length x.steps) step why)
        k r)

    -- a step isn't defined for one reason
    pub reason_one : (old : State) (step : Step) (why reason : Why) → IsUndefined above spec old step why →
        IsUndefined above spec old step reason → why ≡ reason
    reason_one old step why reason (w, at, r) (v, is, q) =
        let s : Some v ≡ Some w = sym is ∙ at in
        let k : v ≡ w = cc in
        one_reason above one spec fine (ProvedBefore spec old.claims) (nodes_at w) (length w.steps) step why reason r
        (subst (λ x. IsRefused above spec (ProvedBefore spec old.claims) (nodes_at x) (length x.steps) step
        reason) k q)

    -- what holds of what the step makes holds of this
    pub same_made : (old : State) (step : Step) (work : Work) (made : Children) → old.work ≡ Some work →
        NextMakes above spec old.claims work step made → (P : Children → Work → Type 0) →
        OfStep above spec old step P → P made (with_step work step made)
    same_made old step work made is makes P (w, m, at, p, h) =
        let s : Some w ≡ Some work = sym at ∙ is in
        let k : w ≡ work = cc in
        let q : NextMakes above spec old.claims work step m = subst (λ x. NextMakes above spec old.claims x step m) k
        p in
        let i : m ≡ made = next_one old.claims work step m made q makes in
        subst (λ x. P x (with_step work step x)) i (subst (λ x. P m (with_step x step m)) k h)

    same_step : (old : State) (step : Step) (new : State) (t : TakesStep above spec old step new) (P : Children →
        Work → Type 0) → OfStep above spec old step P → P t.made (with_step t.work step t.made)
    same_step old step new t P h = same_made old step t.work t.made t.under_work t.makes P h

    -- no test refuses what is accepted
    pub accepted_clean : (old : State) (command : Command) (new : State) → Accepts above spec old command new →
        Clean (tests above spec old command)
    accepted_clean old (Goal name) new t = (
      λ h. h t.idle,
      (
        λ h. h (t.goal, t.named, tt),
        (t.unproved, not_of_goal spec fine name t.goal t.named (λ g. ¬ (IsWithin (goal_clause g))) (λ h. h t.within)),
      ),
    )
    accepted_clean old (of_step step) new t = (
      λ e. let k : Some t.work ≡ None = sym t.under_work ∙ e in cc,
      (
        each_clean (λ why. test (undefined why) (IsUndefined above spec old step why)) all_reasons
            (λ why h. made_not_undefined old t.work step t.made why t.under_work t.makes h),
        (
          λ h. not_smaller_not (same_step old step new t IsNotSmaller h),
          λ h. let l : 300000 < text_length spec.sig (with_step t.work step t.made) =
              same_step old step new t (λ m w. IsTooLong spec.sig w) h in omega (arith, l, t.short),
        ),
      ),
    )
      where
        not_smaller_not : IsNotSmaller t.made (with_step t.work step t.made) → ⊥
        not_smaller_not (inl n) = t.related n
        not_smaller_not (inr h) = h.1 (t.allowed h.0)
    accepted_clean old Undo new t = tt
