-- A report whose first claims are trimmed.
use Rattle.std.proofs.Common.{◌≡◌, ◌⊎◌, ℕ, suc, ◌+◌, ◌<◌, List, [], ◌∷◌, ◌++◌, Bool, true, false, Some}
use Rattle.std.proofs.Common.{None, take, drop, refl, sym, ◌∙◌, ap, subst, arith, length, length-append}
use Rattle.std.proofs.Common.{map, get_or}
use Rattle.std.specs.Prelude.{Contains, slice_get, slice_set}
use Rattle.std.proofs.Math.Seq.{take-append_seam}
use Rattle.std.proofs.lemmas.List.{map-append}
use Rattle.std.proofs.lemmas.Option.{slice_get_within}
use Rattle.term_core.specs.Tree.{Tree}
use Rattle.term_core.proofs.Items.{taken_next}
use Rattle.spec_core.specs.declared.records.Goal.{Goal}
use Rattle.spec_core.specs.declared.records.Spec.{Spec}
use Rattle.spec_core.specs.WellSorted.{IsWellSorted}
use Rattle.clause_core.specs.declared.reports.Claim.{Claim}
use Rattle.clause_core.specs.declared.reports.Outcome.{Outcome}
use Rattle.clause_core.specs.declared.reports.Outcome.TheVariants.{Proved, Refuted, Open}
use Rattle.clause_core.specs.declared.reports.Report.{Report}
use Rattle.clause_core.specs.declared.steps.Block.{Block}
use Rattle.clause_core.specs.ClauseLaws.{OneRelation}
use Rattle.acceptance.specs.Accepting.{IsAccepted}
use Rattle.acceptance.specs.Claims.{IsProvedBy, SaysProved}
use Rattle.claimed_goals.specs.Tracking.{AreProved, IsNumberOf}
use Rattle.claimed_goals.proofs.Tracking.{numbers_more, numbers_stay, proves_not}
use Rattle.script_trim.specs.OneClaim.{with_claim, LeadsWithin, ends, goes_on}
use Rattle.script_trim.specs.Trimmed.{proves, CouldBeClosed, LeadsTo, done}
use Rattle.script_trim.proofs.ClaimByClaim.{SameUsable, LeadsOn, leads_on}
use Rattle.script_trim.proofs.Places.{set_same, taken_more}

-- what a claim says of which goals may be used after it: the name of its goal, and whether it proves it
abbrev says_proved : Outcome → Bool
says_proved (Proved block) = true
says_proved (Refuted index values) = false
says_proved (Open budget) = false

abbrev pub kind : Claim → List ℕ × Bool
kind claim = (claim.goal, says_proved claim.outcome)

abbrev Says : Bool → Type 0
Says true = Unit {0}
Says false = ⊥

abbrev ProvedIn : List ℕ → List (List ℕ × Bool) → Type 0
ProvedIn name [] = ⊥
ProvedIn name (k ∷ ks) = ((k.0 ≡ name) × Says k.1) ⊎ ProvedIn name ks

says_is : (outcome : Outcome) → ◌≡◌ {A = Type 0} (SaysProved outcome) (Says (says_proved outcome))
says_is (Proved block) = refl
says_is (Refuted index values) = refl
says_is (Open budget) = refl

proved_in : (name : List ℕ) (claims : List Claim) → ◌≡◌ {A = Type 0} (IsProvedBy name claims)
    (ProvedIn name (map kind claims))
proved_in name [] = refl
proved_in name (c ∷ claims) =
    let s = says_is c.outcome in let r = proved_in name claims in λ i. ((c.goal ≡ name) × s i) ⊎ r i

usable_by_kinds :
    (spec : Spec) (claims others : List Claim) → map kind claims ≡ map kind others → SameUsable spec claims others
usable_by_kinds spec claims others e =
    λ i number. (goal : Goal) × (slice_get spec.goals number ≡ Some goal) × proved_same goal.name i
  where
    proved_same : (name : List ℕ) → ◌≡◌ {A = Type 0} (IsProvedBy name claims) (IsProvedBy name others)
    proved_same name =
        let middle : ◌≡◌ {A = Type 0} (ProvedIn name (map kind claims)) (ProvedIn name (map kind others)) =
        (λ i. ProvedIn name (e i)) in
        proved_in name claims ∙ middle ∙ sym (proved_in name others)

-- items before, and those of another list that come after as many
module _ {A : Type 0} where
  get_joined :
      (xs ys : List A) (y : A) → slice_get ys (length xs) ≡ Some y →
      slice_get (xs ++ drop (length xs) ys) (length xs) ≡ Some y
  get_joined [] ys y at = at
  get_joined (x ∷ xs) [] y at = absurd (let q : None ≡ Some y = at in cc)
  get_joined (x ∷ xs) (z ∷ ys) y at = get_joined xs ys y at

  set_joined :
      (xs ys : List A) (y z : A) → slice_get ys (length xs) ≡ Some y →
      slice_set (xs ++ drop (length xs) ys) (length xs) z ≡ (xs ++ z ∷ []) ++ drop (length (xs ++ z ∷ [])) ys
  set_joined [] [] y z at = absurd (let q : None ≡ Some y = at in cc)
  set_joined [] (x ∷ ys) y z at = refl
  set_joined (x ∷ xs) [] y z at = absurd (let q : None ≡ Some y = at in cc)
  set_joined (x ∷ xs) (w ∷ ys) y z at = ap (λ zs. x ∷ zs) (set_joined xs ys y z at)

  drop_whole : (xs ys : List A) → length xs ≡ length ys → xs ++ drop (length xs) ys ≡ xs
  drop_whole [] [] e = refl
  drop_whole [] (y ∷ ys) e = absurd (omega (arith, e))
  drop_whole (x ∷ xs) [] e = absurd (omega (arith, e))
  drop_whole (x ∷ xs) (y ∷ ys) e = ap (λ zs. x ∷ zs) (drop_whole xs ys (omega (arith, e)))

-- the report with these claims in place of as many first ones
abbrev pub joined : Report → List Claim → Report
joined report trimmed = record { steps = report.steps; claims = trimmed ++ drop (length trimmed) report.claims }

module _ (above : Tree → Tree → Type 0) (spec : Spec) where
  -- a claim keeps its kind if it is trimmed
  kind_within :
      (number : ℕ) (old last : Report) → LeadsWithin above spec number old last → (c d : Claim) →
      slice_get old.claims number ≡ Some c → slice_get last.claims number ≡ Some d → kind d ≡ kind c
  kind_within number old last (ends h) c d at is =
      let q : Some d ≡ Some c = sym is ∙ at in let e : d ≡ c = cc in ap kind e
  kind_within number old last (goes_on i step rest f tail) c d at is =
      let x : Claim = proves f.first_step.closes.claim.goal.name rest in
      let w = slice_get_within old.claims number _ f.first_step.closes.claim.is in
      let r = kind_within number _ last tail x d (set_same old.claims number x w) is in
      let q : Some c ≡ Some (proves f.first_step.closes.claim.goal.name f.first_step.closes.claim.steps) =
      sym at ∙ f.first_step.closes.claim.is in
      let e : proves f.first_step.closes.claim.goal.name f.first_step.closes.claim.steps ≡ c = cc in
      r ∙ ap kind e

  -- these claims are the first ones of the report, trimmed one after the other
  pub record AreTrimmed (report : Report) (trimmed : List Claim) : Type 0 where
    pub kinds : map kind trimmed ≡ map kind (take (length trimmed) report.claims)
    pub leads : (last : Report) → LeadsTo above spec (joined report trimmed) last → LeadsTo above spec report last
    pub accepted : IsAccepted above spec (joined report trimmed)
    pub closed : (n j : ℕ) → n < length trimmed → CouldBeClosed above spec (joined report trimmed) n j → ⊥

  pub none_trimmed : (report : Report) → IsAccepted above spec report → AreTrimmed report []
  none_trimmed report a = record {
    kinds = refl;
    leads = λ last l. l;
    accepted = a;
    closed = λ n j l c. omega (arith, l);
  }

  -- if all are trimmed, no node could be closed
  pub all_trimmed : (report : Report) (trimmed : List Claim) → length trimmed ≡ length report.claims →
      AreTrimmed report trimmed → LeadsTo above spec report (record { steps = report.steps; claims = trimmed })
  all_trimmed report trimmed long t =
      subst (λ r. LeadsTo above spec report r) e (t.leads (joined report trimmed) (done none))
    where
      p : trimmed ++ drop (length trimmed) report.claims ≡ trimmed
      p = drop_whole trimmed report.claims long

      e : joined report trimmed ≡ record { steps = report.steps; claims = trimmed }
      e = λ i. record { steps = report.steps; claims = p i }

      none : (n j : ℕ) → CouldBeClosed above spec (joined report trimmed) n j → ⊥
      none n j c =
          t.closed n j (omega (
            arith,
            slice_get_within (trimmed ++ drop (length trimmed) report.claims) n _
                c.0.claim.is,
            ap length p,
          )) c

  module _ (one : OneRelation above) (fine : IsWellSorted spec) where
    -- one claim more
    pub one_trimmed :
        (report : Report) (trimmed : List Claim) (c d : Claim) → IsAccepted above spec report →
        AreTrimmed report trimmed → slice_get report.claims (length trimmed) ≡ Some c →
        LeadsWithin above spec (length trimmed) report (with_claim report (length trimmed) d) →
        AreTrimmed report (trimmed ++ d ∷ [])
    one_trimmed report trimmed c d a t at leads =
        let n = length trimmed in
        let w = slice_get_within report.claims n c at in
        let is : slice_get (slice_set report.claims n d) n ≡ Some d = set_same report.claims n d w in
        let same : slice_get report.claims n ≡ slice_get (trimmed ++ drop n report.claims) n =
        at ∙ sym (get_joined trimmed report.claims c at) in
        let first : take n (trimmed ++ drop n report.claims) ≡ trimmed =
        take-append_seam trimmed (drop n report.claims) in
        let usable : SameUsable spec (take n report.claims) (take n (trimmed ++ drop n report.claims)) =
        usable_by_kinds spec (take n report.claims) (take n (trimmed ++ drop n report.claims))
        (sym t.kinds ∙ ap (λ cs. map kind cs) (sym first)) in
        let on : LeadsOn above one spec fine n (joined report trimmed) d =
        leads_on above one spec fine n report (with_claim report n d) (joined report trimmed) leads a t.accepted
        same usable t.closed d is in
        let p : slice_set (trimmed ++ drop n report.claims) n d ≡ (trimmed ++ d ∷ []) ++ drop
        (length (trimmed ++ d ∷ [])) report.claims = set_joined trimmed report.claims c d at in
        let e : with_claim (joined report trimmed) n d ≡ joined report (trimmed ++ d ∷ []) =
        (λ i. record { steps = report.steps; claims = p i }) in
        let more : length (trimmed ++ d ∷ []) ≡ suc n = omega (arith, length-append trimmed (d ∷ [])) in
        record {
          kinds =
              map-append kind trimmed (d ∷ [])
              ∙ ap (λ ks. ks ++ kind d ∷ []) t.kinds
              ∙ ap (λ k. map kind (take n report.claims) ++ k ∷ [])
              (kind_within n report (with_claim report n d) leads c d at is)
              ∙ sym (map-append kind (take n report.claims) (c ∷ []))
              ∙ ap (λ cs. map kind cs) (sym (taken_more report.claims n c at))
              ∙ ap (λ k. map kind (take k report.claims)) (sym more);
          leads = λ last l. t.leads last (on.leads last (subst (λ r. LeadsTo above spec r last) (sym e) l));
          accepted = subst (λ r. IsAccepted above spec r) e on.accepted;
          closed =
              λ m j l k. subst (λ r. (n j : ℕ) → n < suc (length trimmed) → CouldBeClosed above spec r n j → ⊥) e
              on.closed m j (omega (arith, l, more)) k;
        }

    -- the same by the number of the claim, if it is put after the others
    pub trimmed_next :
        (report : Report) (number : ℕ) (trimmed news : List Claim) (c d : Claim) → IsAccepted above spec report →
        length trimmed ≡ number → AreTrimmed report trimmed → slice_get report.claims number ≡ Some c →
        LeadsWithin above spec number report (with_claim report number d) → news ≡ trimmed ++ d ∷ [] →
        (length news ≡ number + 1) × AreTrimmed report news
    trimmed_next report number trimmed news c d a long t at leads is =
        let here : slice_get report.claims (length trimmed) ≡ Some c = ap (λ n. slice_get report.claims n) long ∙ at in
        let within : LeadsWithin above spec (length trimmed) report (with_claim report (length trimmed) d) =
        subst (λ n. LeadsWithin above spec n report (with_claim report n d)) (sym long) leads in (
          omega (arith, ap length is, length-append trimmed (d ∷ []), long),
          subst (λ ds. AreTrimmed report ds) (sym is) (one_trimmed report trimmed c d a t here within),
        )

-- no goal is proved by no claims
pub none_proved : (spec : Spec) (numbers : List ℕ) → numbers ≡ [] → AreProved spec [] numbers
none_proved spec numbers none k = (λ h. absurd (empty (subst (λ ns. Contains ns k) none h)), λ h. absurd h.2)
  where
    empty : Contains {X = ℕ} [] k → ⊥
    empty (j, lt, e) = omega (arith, lt)

-- and by one claim more those of it, if it proves its goal
module _ (spec : Spec) (fine : IsWellSorted spec) (claims : List Claim) (i : ℕ) (claim : Claim)
    (lt : i < length claims) (is : claim ≡ get_or claims i claim) (number : ℕ)
    (named : IsNumberOf spec claim.goal number) (numbers : List ℕ)
    (old : AreProved spec (take i claims) numbers) where
  pub one_proved :
      (news : List ℕ) → SaysProved claim.outcome → news ≡ numbers ++ number ∷ [] →
      AreProved spec (take (i + 1) claims) news
  one_proved news says e =
      subst (λ ns. AreProved spec (take (i + 1) claims) ns) (sym e)
      (subst (λ cs. AreProved spec cs (numbers ++ number ∷ [])) (sym (taken_next claims i claim lt is))
      (numbers_more spec fine (take i claims) claim number named numbers says old))

  pub still_proved : ((block : Block) → claim.outcome ≡ Proved block → ⊥) → AreProved spec (take (i + 1) claims) numbers
  still_proved not =
      subst (λ cs. AreProved spec cs numbers) (sym (taken_next claims i claim lt is))
      (numbers_stay spec fine (take i claims) claim number named numbers (proves_not claim.outcome not) old)
