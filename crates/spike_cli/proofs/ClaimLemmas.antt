-- Claims on goals, and the status that they give.
use Rattle.std.proofs.Common.{◌≡◌, ◌⊎◌, ℕ, zero, suc, ◌+◌, List, [], ◌∷◌, ◌++◌, Some, None, inl, inr, refl, sym, ◌∙◌}
use Rattle.std.proofs.Common.{ap, subst, arith, length, length-append}
use Rattle.std.specs.Prelude.{slice_get}
use Rattle.std.proofs.lemmas.Option.{slice_get_within}
use Rattle.std.specs.List.{range_with_len}
use Rattle.spec_core.specs.declared.records.Goal.{Goal}
use Rattle.spec_core.specs.declared.records.Spec.{Spec}
use Rattle.spec_core.specs.Order.{substitutions}
use Rattle.refuter.specs.declared.answers.Search.{Search}
use Rattle.refuter.specs.declared.answers.Search.TheVariants.{Found, NotFound}
use Rattle.refuter.specs.Finds.{Finds}
use Rattle.clause_core.specs.declared.reports.Claim.{Claim}
use Rattle.clause_core.specs.declared.reports.Outcome.{Outcome}
use Rattle.clause_core.specs.declared.reports.Outcome.TheVariants.{Proved, Refuted, Open}
use Rattle.acceptance.specs.Claims.{SaysProved}
use Rattle.search_claims.specs.Claims.{AreClaims}
use Rattle.file_replies.specs.declared.statuses.Status.{Status}
use Rattle.file_replies.specs.declared.statuses.Status.TheVariants as status
use Rattle.command_line.specs.declared.bounds.ProofBounds.{ProofBounds}
use Rattle.spike_cli.specs.Claims.{EachGoal, HasRoutine, IsClaimOn, IsNextClaim, IsOpen, IsOutcomeOf, IsProvable}
use Rattle.spike_cli.specs.Claims.{IsRefutable, IsRefuted, IsStatusOfClaims, IsStatusOfGoals, SomeGoal, SomeOutcome}
use Rattle.spike_cli.specs.Claims.{proved_goals}
use Rattle.spike_cli.specs.Stops.{joined}
use Rattle.spike_cli.proofs.ProvedGoals.{AreProved, all_proved, has_first, has_none, proved_more}

-- outcomes of which some is so, before one claim more and with it
module _ (Holds : Outcome → Type 0) where
  some_before :
      (claims others : List Claim) → SomeOutcome Holds claims → SomeOutcome Holds (claims ++ others)
  some_before [] others h = absurd h
  some_before (c ∷ claims) others (inl h) = inl h
  some_before (c ∷ claims) others (inr h) = inr (some_before claims others h)

  some_last :
      (claims : List Claim) (claim : Claim) → Holds claim.outcome →
      SomeOutcome Holds (claims ++ claim ∷ [])
  some_last [] claim h = inl h
  some_last (c ∷ claims) claim h = inr (some_last claims claim h)

  none_more :
      (claims : List Claim) (claim : Claim) → (SomeOutcome Holds claims → ⊥) →
      (Holds claim.outcome → ⊥) → SomeOutcome Holds (claims ++ claim ∷ []) → ⊥
  none_more [] claim h n (inl r) = n r
  none_more [] claim h n (inr r) = r
  none_more (c ∷ claims) claim h n (inl r) = h (inl r)
  none_more (c ∷ claims) claim h n (inr r) = none_more claims claim (λ s. h (inr s)) n r

-- a claim more, and the status with it
pub status_more :
    (claims : List Claim) (claim : Claim) (s : Status) → IsStatusOfClaims claims s →
    IsStatusOfClaims (claims ++ claim ∷ []) (joined s claim.outcome)
status_more claims claim s h =
    by s claim.outcome (λ r. some_last IsRefuted claims claim r)
    (λ o. some_last IsOpen claims claim o) (λ n r. none_more IsRefuted claims claim n r)
    (λ n o. none_more IsOpen claims claim n o) h
  where
    by :
        (s : Status) (o : Outcome) → (IsRefuted o → SomeOutcome IsRefuted (claims ++ claim ∷ [])) →
        (IsOpen o → SomeOutcome IsOpen (claims ++ claim ∷ [])) →
        ((SomeOutcome IsRefuted claims → ⊥) → (IsRefuted o → ⊥) →
        SomeOutcome IsRefuted (claims ++ claim ∷ []) → ⊥) →
        ((SomeOutcome IsOpen claims → ⊥) → (IsOpen o → ⊥) →
        SomeOutcome IsOpen (claims ++ claim ∷ []) → ⊥) → IsStatusOfClaims claims s →
        IsStatusOfClaims (claims ++ claim ∷ []) (joined s o)
    by status.Refuted o refuted left_open unrefuted closed h =
        some_before IsRefuted claims (claim ∷ []) h
    by status.Open (Proved block) refuted left_open unrefuted closed h =
        (some_before IsOpen claims (claim ∷ []) h.0, unrefuted h.1 (λ x. x))
    by status.Open (Refuted index values) refuted left_open unrefuted closed h = refuted tt
    by status.Open (Open budget) refuted left_open unrefuted closed h =
        (left_open tt, unrefuted h.1 (λ x. x))
    by status.Done (Proved block) refuted left_open unrefuted closed h =
        (closed h.0 (λ x. x), unrefuted h.1 (λ x. x))
    by status.Done (Refuted index values) refuted left_open unrefuted closed h = refuted tt
    by status.Done (Open budget) refuted left_open unrefuted closed h =
        (left_open tt, unrefuted h.1 (λ x. x))
    by status.Refused o refuted left_open unrefuted closed h = absurd h
    by status.No o refuted left_open unrefuted closed h = absurd h
    by status.ReadFault o refuted left_open unrefuted closed h = absurd h
    by status.WriteFault o refuted left_open unrefuted closed h = absurd h
    by status.Usage o refuted left_open unrefuted closed h = absurd h
    by status.OutOfMemory o refuted left_open unrefuted closed h = absurd h

module _ (bounds : ProofBounds) (spec : Spec) where
  module _ (lemmas : List ℕ) (goal : Goal) (claim : Claim)
      (c : IsClaimOn bounds spec lemmas goal claim) where
    -- a claim is refuted if and only if its goal is refutable
    pub refuted_refutable : IsRefuted claim.outcome → IsRefutable bounds spec goal
    refuted_refutable r = by c.search claim.outcome c.exact c.outcome r
      where
        by :
            (search : Search) (o : Outcome) →
            Finds spec goal bounds.search.steps bounds.search.tries
            (substitutions spec goal bounds.search.depth) search →
            IsOutcomeOf bounds spec lemmas goal search o → IsRefuted o →
            IsRefutable bounds spec goal
        by (Found index values) o f is r = (index, values, f.0, f.1, f.2)
        by (NotFound tried skipped cut) (Proved block) f is r = absurd r
        by (NotFound tried skipped cut) (Refuted index values) f is r = absurd is
        by (NotFound tried skipped cut) (Open budget) f is r = absurd r

    pub refutable_refuted : IsRefutable bounds spec goal → IsRefuted claim.outcome
    refutable_refuted r = by c.search c.exact c.outcome
      where
        by :
            (search : Search) → Finds spec goal bounds.search.steps bounds.search.tries
            (substitutions spec goal bounds.search.depth) search →
            IsOutcomeOf bounds spec lemmas goal search claim.outcome → IsRefuted claim.outcome
        by (Found index values) f is = subst (λ o. IsRefuted o) (sym is) tt
        by (NotFound tried skipped cut) f is =
            let within =
            slice_get_within (substitutions spec goal bounds.search.depth) r.0 r.1 r.3 in
            absurd (f.2 r.0 r.1 (omega (arith, f.0, r.2, within)) r.3 r.4)

    -- an open one isn't provable, and a proved one is, if all goals so far are the lemmas
    module _ (number : ℕ) (all : lemmas ≡ range_with_len 0 number) where
      open_unprovable : IsOpen claim.outcome → IsProvable bounds spec number goal → ⊥
      open_unprovable left_open has = by c.search claim.outcome c.outcome left_open has
        where
          by :
              (search : Search) (o : Outcome) → IsOutcomeOf bounds spec lemmas goal search o →
              IsOpen o → IsProvable bounds spec number goal → ⊥
          by (Found index values) o is h has = subst (λ o. IsOpen o) is h
          by (NotFound tried skipped cut) (Proved block) is h has = h
          by (NotFound tried skipped cut) (Refuted index values) is h has = h
          by (NotFound tried skipped cut) (Open budget) is h (inl plain) = is.0 plain.0 plain.1
          by (NotFound tried skipped cut) (Open budget) is h (inr routine) =
              has_none bounds spec lemmas goal is.1
              (subst (λ ns. HasRoutine bounds spec ns goal) (sym all) routine)

      proved_provable : SaysProved claim.outcome → IsProvable bounds spec number goal
      proved_provable proved = by c.search claim.outcome c.outcome proved
        where
          by :
              (search : Search) (o : Outcome) → IsOutcomeOf bounds spec lemmas goal search o →
              SaysProved o → IsProvable bounds spec number goal
          by (Found index values) o is h = absurd (subst (λ o. SaysProved o) is h)
          by (NotFound tried skipped cut) (Proved block) (inl is) h =
              inl (is.variable.0, is.first.0)
          by (NotFound tried skipped cut) (Proved block) (inr is) h =
              inr (subst (λ ns. HasRoutine bounds spec ns goal) all
              (has_first bounds spec lemmas goal block.steps is.1))
          by (NotFound tried skipped cut) (Refuted index values) is h = absurd h
          by (NotFound tried skipped cut) (Open budget) is h = absurd h

  -- a refuted claim makes its goal refutable, and a refutable goal its claim refuted
  some_goal :
      (before : List Claim) (goals : List Goal) (claims : List Claim) →
      AreClaims (IsNextClaim bounds spec) before goals claims → SomeOutcome IsRefuted claims →
      SomeGoal (λ number goal. IsRefutable bounds spec goal) goals
  some_goal before [] [] a h = absurd h
  some_goal before [] (c ∷ claims) a h = absurd a
  some_goal before (g ∷ goals) [] a h = absurd a
  some_goal before (g ∷ goals) (c ∷ claims) a (inl h) =
      (0, g, refl, refuted_refutable (proved_goals before) g c a.0 h)
  some_goal before (g ∷ goals) (c ∷ claims) a (inr h) =
      let r = some_goal (before ++ c ∷ []) goals claims a.1 h in
      (suc r.0, r.1, r.2, r.3)

  some_claim :
      (before : List Claim) (goals : List Goal) (claims : List Claim) →
      AreClaims (IsNextClaim bounds spec) before goals claims → (k : ℕ) (goal : Goal) →
      slice_get goals k ≡ Some goal → IsRefutable bounds spec goal → SomeOutcome IsRefuted claims
  some_claim before [] claims a k goal at h = absurd (let q : None ≡ Some goal = at in cc)
  some_claim before (g ∷ goals) [] a k goal at h = absurd a
  some_claim before (g ∷ goals) (c ∷ claims) a zero goal at h =
      let q : Some g ≡ Some goal = at in
      let e : goal ≡ g = cc in
      inl (refutable_refuted (proved_goals before) g c a.0
      (subst (λ x. IsRefutable bounds spec x) e h))
  some_claim before (g ∷ goals) (c ∷ claims) a (suc k) goal at h =
      inr (some_claim (before ++ c ∷ []) goals claims a.1 k goal at h)

  neither : (o : Outcome) → (IsOpen o → ⊥) → (IsRefuted o → ⊥) → SaysProved o
  neither (Proved block) left_open refuted = tt
  neither (Refuted index values) left_open refuted = absurd (refuted tt)
  neither (Open budget) left_open refuted = absurd (left_open tt)

  is_open_or_not : (o : Outcome) → IsOpen o ⊎ (IsOpen o → ⊥)
  is_open_or_not (Proved block) = inr (λ h. h)
  is_open_or_not (Refuted index values) = inr (λ h. h)
  is_open_or_not (Open budget) = inl tt

  -- if each claim so far proves its goal: the first goal that is left open isn't provable over
  -- all
  -- goals before it, and if no claim is open, each goal is provable so
  module _ (Holds : ℕ → Goal → Type 0) where
    later :
        (k : ℕ) (before : List Claim) (claim : Claim) (goals : List Goal) → length before ≡ k →
        SomeGoal (λ number goal. Holds ((k + 1) + number) goal) goals → (goal : Goal) →
        SomeGoal (λ number goal. Holds (k + number) goal) (goal ∷ goals)
    later k before claim goals long r goal =
        let e : (k + 1) + r.0 ≡ k + suc r.0 = omega arith in
        (suc r.0, r.1, r.2, subst (λ n. Holds n r.1) e r.3)

  some_unprovable :
      (k : ℕ) (before : List Claim) (goals : List Goal) (claims : List Claim) → length before ≡ k →
      AreProved before → AreClaims (IsNextClaim bounds spec) before goals claims →
      (SomeOutcome IsRefuted claims → ⊥) → SomeOutcome IsOpen claims →
      SomeGoal (λ number goal. IsProvable bounds spec (k + number) goal → ⊥) goals
  some_unprovable k before [] [] long all a refuted h = absurd h
  some_unprovable k before [] (c ∷ claims) long all a refuted h = absurd a
  some_unprovable k before (g ∷ goals) [] long all a refuted h = absurd a
  some_unprovable k before (g ∷ goals) (c ∷ claims) long all a refuted h =
      elim (is_open_or_not c.outcome) [
        | inl left_open ↦ (
            let e : k ≡ k + 0 = omega arith in
            let lemmas : proved_goals before ≡ range_with_len 0 k =
            all_proved 0 before all ∙ ap (λ n. range_with_len 0 n) long in (
              0,
              g,
              refl,
              subst (λ n. IsProvable bounds spec n g → ⊥) e
                  (open_unprovable (proved_goals before) g c a.0 k lemmas left_open),
            )
            )
        | inr closed ↦ (
            let proved = neither c.outcome closed (λ r. refuted (inl r)) in
            let longer : length (before ++ c ∷ []) ≡ k + 1 =
            omega (arith, length-append before (c ∷ []), long) in
            later (λ number goal. IsProvable bounds spec number goal → ⊥) k before c goals long
            (some_unprovable (k + 1) (before ++ c ∷ []) goals claims longer
            (proved_more before c all proved) a.1 (λ r. refuted (inr r))
            (elim h [ inl o ↦ absurd (closed o) | inr o ↦ o ])) g
            )
      ]

  each_provable :
      (k : ℕ) (before : List Claim) (goals : List Goal) (claims : List Claim) → length before ≡ k →
      AreProved before → AreClaims (IsNextClaim bounds spec) before goals claims →
      (SomeOutcome IsOpen claims → ⊥) → (SomeOutcome IsRefuted claims → ⊥) →
      EachGoal (λ number goal. IsProvable bounds spec (k + number) goal) goals
  each_provable k before [] claims long all a left_open refuted number goal at =
      absurd (let q : None ≡ Some goal = at in cc)
  each_provable k before (g ∷ goals) [] long all a left_open refuted number goal at = absurd a
  each_provable k before (g ∷ goals) (c ∷ claims) long all a left_open refuted zero goal at =
      let q : Some g ≡ Some goal = at in
      let same : g ≡ goal = cc in
      let e : k ≡ k + 0 = omega arith in
      let lemmas : proved_goals before ≡ range_with_len 0 k =
      all_proved 0 before all ∙ ap (λ n. range_with_len 0 n) long in
      let proved = neither c.outcome (λ o. left_open (inl o)) (λ r. refuted (inl r)) in
      subst (λ x. IsProvable bounds spec (k + 0) x) same
      (subst (λ n. IsProvable bounds spec n g) e
      (proved_provable (proved_goals before) g c a.0 k lemmas proved))
  each_provable k before (g ∷ goals) (c ∷ claims) long all a left_open refuted (suc number) goal
      at =
      let proved = neither c.outcome (λ o. left_open (inl o)) (λ r. refuted (inl r)) in
      let longer : length (before ++ c ∷ []) ≡ k + 1 =
      omega (arith, length-append before (c ∷ []), long) in
      let e : (k + 1) + number ≡ k + suc number = omega arith in
      subst (λ n. IsProvable bounds spec n goal) e
      (each_provable (k + 1) (before ++ c ∷ []) goals claims longer
      (proved_more before c all proved) a.1 (λ o. left_open (inr o)) (λ r. refuted (inr r))
      number goal at)

  -- the status of the claims is that of the goals
  pub status_of_goals :
      (claims : List Claim) (s : Status) →
      AreClaims (IsNextClaim bounds spec) [] spec.goals claims → IsStatusOfClaims claims s →
      IsStatusOfGoals bounds spec s
  status_of_goals claims status.Refuted a h = some_goal [] spec.goals claims a h
  status_of_goals claims status.Open a h =
      let r = some_unprovable 0 [] spec.goals claims refl tt a h.1 h.0 in
      let e : 0 + r.0 ≡ r.0 = omega arith in (
        (r.0, r.1, r.2, subst (λ n. IsProvable bounds spec n r.1 → ⊥) e r.3),
        λ s. h.1
            (some_claim [] spec.goals claims a s.0 s.1 s.2 s.3),
      )
  status_of_goals claims status.Done a h = (
    λ number goal at.
        let e : 0 + number ≡ number = omega arith in
        subst (λ n. IsProvable bounds spec n goal) e
        (each_provable 0 [] spec.goals claims refl tt a h.0 h.1 number goal at),
    λ s. h.1 (some_claim [] spec.goals claims a s.0 s.1 s.2 s.3),
  )
  status_of_goals claims status.Refused a h = absurd h
  status_of_goals claims status.No a h = absurd h
  status_of_goals claims status.ReadFault a h = absurd h
  status_of_goals claims status.WriteFault a h = absurd h
  status_of_goals claims status.Usage a h = absurd h
  status_of_goals claims status.OutOfMemory a h = absurd h
