-- The numbers of the goals that claims prove, and the routine proofs over them.
use Rattle.std.proofs.Common.{◌≡◌, ℕ, suc, ◌+◌, List, [], ◌∷◌, ◌++◌, Some, None, inl, inr, refl, sym, ◌∙◌, ap, subst}
use Rattle.std.proofs.Common.{arith, length, append_assoc}
use Rattle.std.specs.Prelude.{slice_get, Contains}
use Rattle.std.specs.List.{AllByRecursion, range_with_len}
use Rattle.std.proofs.lemmas.List.{append-nil}
use Rattle.term_core.proofs.Members.{In, all_in, in_contained, contained_in}
use Rattle.spec_core.specs.declared.records.Goal.{Goal}
use Rattle.spec_core.specs.declared.records.Spec.{Spec}
use Rattle.spec_order.specs.Orders.{above_of}
use Rattle.clause_core.specs.declared.reports.Claim.{Claim}
use Rattle.clause_core.specs.declared.reports.Outcome.{Outcome}
use Rattle.clause_core.specs.declared.reports.Outcome.TheVariants.{Proved, Refuted, Open}
use Rattle.clause_core.specs.declared.steps.Step.{Step}
use Rattle.clause_core.specs.Tidied.{goal_clause}
use Rattle.acceptance.specs.Claims.{IsProvedBy, ProvedBefore, SaysProved}
use Rattle.routine_proof.specs.First.{HasNone, FirstIs}
use Rattle.routine_proof.specs.Routine.{starts, IsProof, IsFirstProof}
use Rattle.search_claims.proofs.Shown.{claimed_names, goal_names, item_before}
use Rattle.command_line.specs.declared.bounds.ProofBounds.{ProofBounds}
use Rattle.spike_cli.specs.Claims.{HasRoutine, number_proved, proved_from, proved_goals}

-- the first item that has a result is one of the items
module _ {A R : Type 0} (is : A → R → Type 0) where
  pub first_item : (items : List A) (r : R) → FirstIs is items r → (a : A) × In a items × is a r
  first_item [] r f = absurd f
  first_item (a ∷ items) r (inl p) = (a, inl refl, p)
  first_item (a ∷ items) r (inr p) =
      let q = first_item items r p.1 in
      (q.0, inr q.1, q.2)

-- a goal has a routine proof if and only if there is a first one
module _ (bounds : ProofBounds) (spec : Spec) (lemmas : List ℕ) (goal : Goal) where
  pub has_first :
      (steps : List Step) → IsFirstProof (above_of spec) spec lemmas goal bounds.nodes (Some steps) →
      HasRoutine bounds spec lemmas goal
  has_first steps f =
      let p =
      first_item (IsProof (above_of spec) spec lemmas goal bounds.nodes) (starts (goal_clause goal)) steps
      f in
      (p.0, steps, contained_in (starts (goal_clause goal)) p.0 p.1, p.2)

  pub has_none :
      IsFirstProof (above_of spec) spec lemmas goal bounds.nodes None → HasRoutine bounds spec lemmas goal → ⊥
  has_none none h =
      all_in (HasNone (IsProof (above_of spec) spec lemmas goal bounds.nodes)) (starts (goal_clause goal)) h.0
      none (in_contained (starts (goal_clause goal)) h.0 h.2) h.1 h.3

-- one claim more
pub proved-append :
    (k : ℕ) (claims : List Claim) (claim : Claim) →
    proved_from k (claims ++ claim ∷ []) ≡ proved_from k claims ++ number_proved (k + length claims)
    claim.outcome
proved-append k [] claim =
    let e : k ≡ k + 0 = omega arith in
    append-nil (number_proved k claim.outcome) ∙ ap (λ n. number_proved n claim.outcome) e
proved-append k (c ∷ claims) claim =
    let e : (k + 1) + length claims ≡ k + suc (length claims) = omega arith in
    let here = number_proved k c.outcome in
    let others = proved_from (k + 1) claims in
    ap (λ ns. here ++ ns) (proved-append (k + 1) claims claim
    ∙ ap (λ n. others ++ number_proved n claim.outcome) e)
    ∙ sym (append_assoc here others (number_proved (k + suc (length claims)) claim.outcome))

abbrev pub AreProved : List Claim → Type 0
AreProved claims = AllByRecursion (λ (c : Claim). SaysProved c.outcome) claims

pub proved_more :
    (claims : List Claim) (claim : Claim) → AreProved claims → SaysProved claim.outcome →
    AreProved (claims ++ claim ∷ [])
proved_more [] claim all here = (here, tt)
proved_more (c ∷ claims) claim all here = (all.0, proved_more claims claim all.1 here)

-- if all claims prove their goals, these are all goals so far
pub all_proved :
    (k : ℕ) (claims : List Claim) → AreProved claims →
    proved_from k claims ≡ range_with_len k (length claims)
all_proved k [] all = refl
all_proved k (c ∷ claims) all =
    first c.outcome all.0 ∙ ap (λ ns. k ∷ ns) (all_proved (k + 1) claims all.1)
  where
    first :
        (o : Outcome) → SaysProved o → number_proved k o ++ proved_from (k + 1)
        claims ≡ k ∷ proved_from (k + 1) claims
    first (Proved block) h = refl
    first (Refuted index values) h = absurd h
    first (Open budget) h = absurd h

-- a number of the list is that of a goal that a claim proves
record IsOfGoal (k number : ℕ) (goals : List Goal) (claims : List Claim) : Type 0 where
  place : ℕ
  goal : Goal
  number_is : number ≡ k + place
  listed : slice_get goals place ≡ Some goal
  proved : IsProvedBy goal.name claims

of_goal :
    (k number : ℕ) (goals : List Goal) (claims : List Claim) →
    claimed_names claims ≡ goal_names goals → In number (proved_from k claims) →
    IsOfGoal k number goals claims
of_goal k number goals [] e i = absurd i
of_goal k number [] (c ∷ claims) e i = absurd (let q : c.goal ∷ claimed_names claims ≡ [] = e in cc)
of_goal k number (g ∷ goals) (c ∷ claims) e i =
    let q : c.goal ∷ claimed_names claims ≡ g.name ∷ goal_names goals = e in
    let name : c.goal ≡ g.name = cc in
    let names : claimed_names claims ≡ goal_names goals = cc in
    let later : In number (proved_from (k + 1) claims) →
    IsOfGoal k number (g ∷ goals) (c ∷ claims) =
    λ j. behind (of_goal (k + 1) number goals claims names j) in
    by c.outcome refl name later i
  where
    behind : IsOfGoal (k + 1) number goals claims → IsOfGoal k number (g ∷ goals) (c ∷ claims)
    behind r =
        record {
          place = suc r.place;
          goal = r.goal;
          number_is = omega (arith, r.number_is);
          listed = r.listed;
          proved = inr r.proved;
        }

    by :
        (o : Outcome) → c.outcome ≡ o → c.goal ≡ g.name →
        (In number (proved_from (k + 1) claims) → IsOfGoal k number (g ∷ goals) (c ∷ claims)) →
        In number (number_proved k o ++ proved_from (k + 1) claims) →
        IsOfGoal k number (g ∷ goals) (c ∷ claims)
    by (Proved block) e name later (inl n) =
        record {
          place = 0;
          goal = g;
          number_is = omega (arith, n);
          listed = refl;
          proved =
              inl (name, subst (λ o. SaysProved o) (sym e) tt);
        }
    by (Proved block) e name later (inr i) = later i
    by (Refuted index values) e name later i = later i
    by (Open budget) e name later i = later i

-- so the goals that claims on the first goals prove may be used after them
pub proved_known :
    (spec : Spec) (seen others : List Goal) (claims : List Claim) → seen ++ others ≡ spec.goals →
    claimed_names claims ≡ goal_names seen → (number : ℕ) → Contains (proved_goals claims) number →
    ProvedBefore spec claims number
proved_known spec seen others claims all names number c =
    let r = of_goal 0 number seen claims names (in_contained (proved_goals claims) number c) in
    let at : slice_get spec.goals r.place ≡ Some r.goal =
    subst (λ gs. slice_get gs r.place ≡ Some r.goal) all
    (item_before seen others r.place r.goal r.listed) in
    let e : r.place ≡ number = omega (arith, r.number_is) in
    (r.goal, subst (λ n. slice_get spec.goals n ≡ Some r.goal) e at, r.proved)
