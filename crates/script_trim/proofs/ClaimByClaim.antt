-- Claims are trimmed one after the other: first cuts within a claim of the given report are first cuts
-- of the report in which the claims before it are trimmed.
use Rattle.std.proofs.Common.{◌≡◌, ◌⊎◌, ℕ, zero, suc, ◌<◌, ◌≤◌, List, [], ◌∷◌, Some, inl, inr, take, refl}
use Rattle.std.proofs.Common.{sym, ◌∙◌, ap, subst, arith, length}
use Rattle.std.specs.Prelude.{slice_get, slice_set}
use Rattle.std.specs.List.{AllByRecursion}
use Rattle.std.proofs.lemmas.Option.{slice_get_within}
use Rattle.term_core.specs.Tree.{Tree}
use Rattle.term_core.proofs.Numbers.{below_or_not}
use Rattle.spec_core.specs.declared.records.Goal.{Goal}
use Rattle.spec_core.specs.declared.records.Spec.{Spec}
use Rattle.spec_core.specs.WellSorted.{IsWellSorted}
use Rattle.clause_core.specs.declared.reports.Claim.{Claim}
use Rattle.clause_core.specs.declared.reports.Report.{Report}
use Rattle.clause_core.specs.declared.steps.Step.{Step}
use Rattle.clause_core.specs.ClauseLaws.{OneRelation}
use Rattle.acceptance.specs.Accepting.{IsAccepted}
use Rattle.acceptance.specs.Claims.{ProvedBefore}
use Rattle.script_trim.specs.OneClaim.{with_claim, IsFirstClosing, LeadsWithin, ends, goes_on}
use Rattle.script_trim.specs.Trimmed.{proves, with_steps, Closes, HasChildren, CouldBeClosed, IsFirstCut, LeadsTo, cut}
use Rattle.script_trim.proofs.OneCut.{goal_same}
use Rattle.script_trim.proofs.OtherClaims.{before, can_there, claim_there, there, usable_same}
use Rattle.script_trim.proofs.Places.{set_same, take_set}
use Rattle.script_trim.proofs.QuickTests.{sufficient, necessary}

pub set_there : {A : Type 0} (xs : List A) (n : ℕ) (x : A) → slice_get xs n ≡ Some x → slice_set xs n x ≡ xs
set_there [] n x at = refl
set_there (y ∷ ys) zero x at = let q : Some y ≡ Some x = at in let e : x ≡ y = cc in ap (λ z. z ∷ ys) e
set_there (y ∷ ys) (suc n) x at = ap (λ zs. y ∷ zs) (set_there ys n x at)

pub set_again : {A : Type 0} (xs : List A) (n : ℕ) (x y : A) → slice_set (slice_set xs n x) n y ≡ slice_set xs n y
set_again [] n x y = refl
set_again (z ∷ zs) zero x y = refl
set_again (z ∷ zs) (suc n) x y = ap (λ ws. z ∷ ws) (set_again zs n x y)

-- the goals that may be used if the claims before are these
abbrev pub SameUsable : Spec → List Claim → List Claim → Type 1
SameUsable spec claims others = ◌≡◌ {A = ℕ → Type 0} (ProvedBefore spec claims) (ProvedBefore spec others)

module _ (above : Tree → Tree → Type 0) (one : OneRelation above) (spec : Spec) (fine : IsWellSorted spec) where
  -- what could be closed in another claim could be closed before the cut too
  could_before :
      (report : Report) → IsAccepted above spec report → (n : ℕ) (name : List ℕ) (old new : List Step) →
      slice_get report.claims n ≡ Some (proves name old) →
      IsAccepted above spec (with_steps report n name new) → (m : ℕ) → (m ≡ n → ⊥) → (j : ℕ) →
      CouldBeClosed above spec (with_steps report n name new) m j → CouldBeClosed above spec report m j
  could_before report a n name old new at again m apart j (h, (step, rest, c)) =
      let same = there above spec one fine report a n name old new at again m apart in
      let usable = usable_same above spec one fine report a n name old new at again m apart in
      let claim = claim_there above spec (with_steps report n name new) report m (sym same) (sym usable) h.claim in (
        record { claim = claim; children = h.children; at = h.at; some = h.some },
        (step, rest, before above spec one fine report a n name old new at again m apart j step rest c),
      )

  module _ (number : ℕ) where
    -- two accepted reports with one claim with this number, before which they prove the same goals
    module _ (old other : Report) (a : IsAccepted above spec old) (b : IsAccepted above spec other)
        (same : slice_get old.claims number ≡ slice_get other.claims number)
        (usable : SameUsable spec (take number old.claims) (take number other.claims)) where
      children_there : (i : ℕ) → HasChildren above spec old number i → HasChildren above spec other number i
      children_there i h =
          record {
            claim = claim_there above spec old other number same usable h.claim;
            children = h.children;
            at = h.at;
            some = h.some;
          }

      accepted_there :
          (i : ℕ) (step : Step) (rest : List Step) (c : Closes above spec old number i step rest) →
          IsAccepted above spec (with_steps other number c.claim.goal.name rest)
      accepted_there i step rest c =
          let d = sufficient above one spec fine other b number i step rest
          (can_there above spec old other number same usable i step rest
          (necessary above one spec fine old a number i step rest c)) in
          let g : d.claim.goal ≡ c.claim.goal = goal_same above one spec fine other number number refl d.claim
          (claim_there above spec old other number same usable c.claim) in
          subst (λ (goal : Goal). IsAccepted above spec (with_steps other number goal.name rest)) g d.accepted

      abbrev closes_there :
          (i : ℕ) (step : Step) (rest : List Step) → Closes above spec old number i step rest →
          Closes above spec other number i step rest
      closes_there i step rest c = record {
        claim = claim_there above spec old other number same usable c.claim;
        node = c.node;
        node_is = c.node_is;
        closing = c.closing;
        cut = c.cut;
        short = c.short;
        accepted = accepted_there i step rest c;
      }

      could_there : (i : ℕ) → CouldBeClosed above spec old number i → CouldBeClosed above spec other number i
      could_there i (h, (step, rest, c)) = (children_there i h, (step, rest, closes_there i step rest c))

    module _ (old other : Report) (a : IsAccepted above spec old) (b : IsAccepted above spec other)
        (same : slice_get old.claims number ≡ slice_get other.claims number)
        (usable : SameUsable spec (take number old.claims) (take number other.claims)) where
      none_there :
          (i : ℕ) (steps : List Step) → AllByRecursion (λ (s : Step). (others : List Step) →
          Closes above spec old number i s others → ⊥) steps →
          AllByRecursion (λ (s : Step). (others : List Step) → Closes above spec other number i s others → ⊥) steps
      none_there i [] h = tt
      none_there i (s ∷ ss) h = (
        λ others c. h.0 others (closes_there other old b a (sym same) (sym usable) i s others c),
        none_there i ss h.1,
      )

      first_there :
          (i : ℕ) (step : Step) (rest : List Step) (f : IsFirstClosing above spec number old i step rest) →
          ((n j : ℕ) → n < number → CouldBeClosed above spec other n j → ⊥) →
          IsFirstCut above spec other (with_steps other number f.first_step.closes.claim.goal.name rest)
      first_there i step rest f none = record {
        number = number;
        node = i;
        step = step;
        rest = rest;
        children = children_there old other a b same usable i f.children;
        closes = closes_there old other a b same usable i step rest f.first_step.closes;
        first_claim = none;
        first_node = λ j l c. f.first_node j l (could_there other old b a (sym same) (sym usable) j c);
        before = f.first_step.before;
        after = f.first_step.after;
        parted = f.first_step.parted;
        first_step = none_there i f.first_step.before f.first_step.none_before;
        is = refl;
      }

    -- if first cuts within the claim end at this claim, so do first cuts of the report with it
    pub record LeadsOn (report : Report) (claim : Claim) : Type 0 where
      pub leads :
          (last : Report) → LeadsTo above spec (with_claim report number claim) last → LeadsTo above spec report last
      pub accepted : IsAccepted above spec (with_claim report number claim)
      pub closed : (n j : ℕ) → n < suc number → CouldBeClosed above spec (with_claim report number claim) n j → ⊥

    below_last :
        (report : Report) → ((n j : ℕ) → n < number → CouldBeClosed above spec report n j → ⊥) →
        ((j : ℕ) → CouldBeClosed above spec report number j → ⊥) → (n j : ℕ) → n < suc number →
        CouldBeClosed above spec report n j → ⊥
    below_last report none here n j l c = either (below_or_not n number)
      where
        either : (n < number) ⊎ (number ≤ n) → ⊥
        either (inl b) = none n j b c
        either (inr g) =
            let e : n ≡ number = omega (arith, l, g) in here j (subst (λ k. CouldBeClosed above spec report k j) e c)

    pub leads_on :
        (old last other : Report) → LeadsWithin above spec number old last → IsAccepted above spec old →
        IsAccepted above spec other →
        slice_get old.claims number ≡ slice_get other.claims number →
        SameUsable spec (take number old.claims) (take number other.claims) →
        ((n j : ℕ) → n < number → CouldBeClosed above spec other n j → ⊥) → (claim : Claim) →
        slice_get last.claims number ≡ Some claim → LeadsOn other claim
    leads_on old last other (ends h) a b same usable none claim at =
        let p : slice_set other.claims number claim ≡ other.claims =
        set_there other.claims number claim (sym same ∙ at) in
        let e : other ≡ with_claim other number claim = (λ i. record { steps = other.steps; claims = sym p i }) in
        let here : (j : ℕ) → CouldBeClosed above spec other number j → ⊥ =
        λ j c. h j (could_there other old b a (sym same) (sym usable) j c) in
        record {
          leads = λ last l. subst (λ r. LeadsTo above spec r last) (sym e) l;
          accepted = subst (λ r. IsAccepted above spec r) e b;
          closed =
              subst (λ r. (n j : ℕ) → n < suc number → CouldBeClosed above spec r n j → ⊥) e
              (below_last other none here);
        }
    leads_on old last other (goes_on i step rest f tail) a b same usable none claim at =
        let name = f.first_step.closes.claim.goal.name in
        let x : Claim = proves name rest in
        let here : slice_get other.claims number ≡ Some (proves name f.first_step.closes.claim.steps) =
        sym same ∙ f.first_step.closes.claim.is in
        let w : number < length old.claims = slice_get_within old.claims number
        (proves name f.first_step.closes.claim.steps) f.first_step.closes.claim.is in
        let v : number < length other.claims = slice_get_within other.claims number
        (proves name f.first_step.closes.claim.steps) here in
        let next : IsAccepted above spec (with_steps other number name rest) =
        accepted_there old other a b same usable i step rest f.first_step.closes in
        let s : slice_get (slice_set old.claims number x) number ≡ slice_get (slice_set other.claims number x)
        number = set_same old.claims number x w ∙ sym (set_same other.claims number x v) in
        let left : SameUsable spec (take number (slice_set old.claims number x)) (take number old.claims) =
        (λ j. ProvedBefore spec (take_set old.claims number x j)) in
        let right : SameUsable spec (take number other.claims) (take number (slice_set other.claims number x)) =
        (λ j. ProvedBefore spec (sym (take_set other.claims number x) j)) in
        let u : SameUsable spec (take number (slice_set old.claims number x))
        (take number (slice_set other.claims number x)) = left ∙ usable ∙ right in
        let still : (n j : ℕ) → n < number → CouldBeClosed above spec (with_steps other number name rest) n j → ⊥ =
        λ n j l c. none n j l (could_before other b number name f.first_step.closes.claim.steps rest here next n
        (λ e. omega (arith, e, l)) j c) in
        let r = leads_on (with_steps old number name rest) last (with_steps other number name rest) tail
        f.first_step.closes.accepted next s u still claim at in
        let p : slice_set (slice_set other.claims number x) number claim ≡ slice_set other.claims number claim =
        set_again other.claims number x claim in
        let e : with_claim (with_steps other number name rest) number claim ≡ with_claim other number claim =
        (λ j. record { steps = other.steps; claims = p j }) in
        record {
          leads =
              λ last l. cut (with_steps other number name rest)
              (first_there old other a b same usable i step rest f none)
              (r.leads last (subst (λ q. LeadsTo above spec q last) (sym e) l));
          accepted = subst (λ q. IsAccepted above spec q) e r.accepted;
          closed = subst (λ q. (n j : ℕ) → n < suc number → CouldBeClosed above spec q n j → ⊥) e r.closed;
        }
