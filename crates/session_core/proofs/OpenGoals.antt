-- Whether a goal is under work, by what is kept of the goals, and which goals are proved.
use Rattle.std.proofs.Common.{◌≡◌, ◌⊎◌, ℕ, List, [], ◌∷◌, ◌++◌, Some, None, inl, inr, refl, sym, ◌∙◌, ap, subst, arith}
use Rattle.std.proofs.Common.{length, get_or, take, ◌-◌}
use Rattle.std.proofs.Common.{map, append_assoc}
use Rattle.std.specs.Prelude.{Option, Contains, slice_get}
use Rattle.std.specs.List.{AllByRecursion}
use Rattle.std.proofs.lemmas.List.{append-nil, length-map}
use Rattle.term_core.specs.Tree.{Tree}
use Rattle.spec_core.specs.declared.records.Goal.{Goal}
use Rattle.spec_core.specs.declared.records.Spec.{Spec}
use Rattle.spec_core.specs.WellSorted.{IsWellSorted}
use Rattle.clause_core.specs.declared.reports.Claim.{Claim}
use Rattle.clause_core.specs.declared.reports.Outcome.TheVariants.{Proved}
use Rattle.clause_core.specs.ClauseLaws.{OneRelation}
use Rattle.clause_core.proofs.OneReferred.{one_get}
use Rattle.clause_core.specs.Tidied.{goal_clause}
use Rattle.acceptance.specs.Accepting.{IsShown, ClaimIsAccepted, ClaimsAreAccepted}
use Rattle.acceptance.specs.Blocks.{nodes_of, Proves}
use Rattle.acceptance.specs.Claims.{IsClaimed, IsProvedBy, SaysProved, ProvedBefore}
use Rattle.acceptance.proofs.NoRefusal.{goal_named_one}
use Rattle.acceptance.proofs.OneBlock.{steps_one}
use Rattle.acceptance.proofs.WholeBlocks.{as_many}
use Rattle.block_links.specs.Links.{links_of}
use Rattle.claimed_goals.specs.Tracking.{AreProved}
use Rattle.claimed_goals.proofs.Tracking.{numbers_more}
use Rattle.session_core.proofs.LastEntries.{last_of, mapped_init}
use Rattle.session_core.specs.States.{Work, State, proves, nodes_at}
use Rattle.session_core.specs.Kept.{Kept, IsKept, AreKept, WorkIsKept}
use Rattle.session_core.specs.Sound.{AreUnderWork, IsUnderWork, IsSound}
use Rattle.session_core.specs.declared.kept_goals.KeptGoal.{KeptGoal}
use Rattle.session_core.specs.Taking.{HasOpenLast, IsOpenGoal, KeepsSound}
use Rattle.session_core.specs.Value.{kept_of, number_of}

-- what holds of each item holds of the last one
pub all_last : {A : Type 0} (P : A → Type 0) (xs : List A) (x : A) → AllByRecursion P (xs ++ x ∷ []) → P x
all_last P [] x h = h.0
all_last P (y ∷ xs) x h = all_last P xs x h.1

pub numbers_kept : (goals : List KeptGoal) → map number_of goals ≡ map (λ (k : Kept). k.number) (map kept_of goals)
numbers_kept [] = refl
numbers_kept (g ∷ goals) = ap (λ ns. g.number ∷ ns) (numbers_kept goals)

abbrev IsFinished : Kept → Type 0
IsFinished kept = length kept.nodes ≡ length kept.links

-- a claim that a goal is proved says so
claimed_proved : (above : Tree → Tree → Type 0) (spec : Spec) (before claims : List Claim) (kept : List Kept) →
    AreKept above spec before claims kept → (name : List ℕ) → IsClaimed name claims → IsProvedBy name claims
claimed_proved above spec before [] kept k name h = absurd h
claimed_proved above spec before (c ∷ claims) [] k name h = absurd k
claimed_proved above spec before (c ∷ claims) (x ∷ kept) k name (inl e) =
    inl (e, subst (λ (d : Claim). SaysProved d.outcome) (sym k.0.1) tt)
claimed_proved above spec before (c ∷ claims) (x ∷ kept) k name (inr h) =
    inr (claimed_proved above spec (before ++ c ∷ []) claims kept k.1 name h)

proved_claimed : (name : List ℕ) (claims : List Claim) → IsProvedBy name claims → IsClaimed name claims
proved_claimed name [] h = h
proved_claimed name (c ∷ claims) (inl h) = inl h.0
proved_claimed name (c ∷ claims) (inr h) = inr (proved_claimed name claims h)

module _ (above : Tree → Tree → Type 0) (spec : Spec) (fine : IsWellSorted spec) where
  -- the goals that are kept after these claims are proved
  numbers_by : (before claims : List Claim) (kept : List Kept) (numbers : List ℕ) →
      AreKept above spec before claims kept → AreProved spec before numbers →
      AreProved spec (before ++ claims) (numbers ++ map (λ (k : Kept). k.number) kept)
  numbers_by before [] [] numbers k p = subst (λ cs. AreProved spec cs (numbers ++ [])) (sym (append-nil before))
      (subst (λ ns. AreProved spec before ns) (sym (append-nil numbers)) p)
  numbers_by before [] (x ∷ kept) numbers k p = absurd k
  numbers_by before (c ∷ claims) [] numbers k p = absurd k
  numbers_by before (c ∷ claims) (x ∷ kept) numbers k p =
      let named : c.goal ≡ k.0.0.goal.name = ap (λ (d : Claim). d.goal) k.0.1 in
      let says : SaysProved c.outcome = subst (λ (d : Claim). SaysProved d.outcome) (sym k.0.1) tt in
      let more = numbers_more spec fine before c x.number (k.0.0.goal, k.0.2.number, sym named) numbers says p in
      let rest = numbers_by (before ++ c ∷ []) claims kept (numbers ++ x.number ∷ []) k.1 more in
      subst (λ cs. AreProved spec cs (numbers ++ x.number ∷ map (λ (y : Kept). y.number) kept)) (append_assoc before
      (c ∷ []) claims)
      (subst (λ ns. AreProved spec ((before ++ c ∷ []) ++ claims) ns) (append_assoc numbers (x.number ∷ [])
      (map (λ (y : Kept). y.number) kept)) rest)

  none_proved : AreProved spec [] []
  none_proved k = (λ h. absurd (omega (arith, h.1)), λ h. absurd h.2)

  pub numbers_proved : (claims : List Claim) (kept : List Kept) → AreKept above spec [] claims kept →
      AreProved spec claims (map (λ (k : Kept). k.number) kept)
  numbers_proved claims kept k = numbers_by [] claims kept [] k none_proved

  -- a goal is claimed if and only if its number is among them
  pub claimed_number : (claims : List Claim) (kept : List Kept) → AreKept above spec [] claims kept →
      (number : ℕ) (goal : Goal) → slice_get spec.goals number ≡ Some goal → IsClaimed goal.name claims →
      Contains (map (λ (k : Kept). k.number) kept) number
  claimed_number claims kept k number goal at h = (numbers_proved claims kept k number).1 (
    goal,
    at,
    claimed_proved above spec [] claims kept k goal.name h,
  )

  pub number_claimed : (claims : List Claim) (kept : List Kept) → AreKept above spec [] claims kept →
      (number : ℕ) (goal : Goal) → slice_get spec.goals number ≡ Some goal →
      Contains (map (λ (k : Kept). k.number) kept) number → IsClaimed goal.name claims
  number_claimed claims kept k number goal at h =
      let p = (numbers_proved claims kept k number).0 h in
      let e : p.0 ≡ goal = one_get spec.goals number number p.0 goal p.1 at refl in
      subst (λ (g : Goal). IsClaimed g.name claims) e (proved_claimed p.0.name claims p.2)

  module _ (one : OneRelation above) where
    -- the block of an accepted claim is finished
    finished_one : (before : List Claim) (claim : Claim) (kept : Kept) (work : Work) →
        claim ≡ proves work.goal work.steps → IsKept above spec before work kept →
        ClaimIsAccepted above spec 0 before claim → IsFinished kept
    finished_one before claim kept work e k a =
        let named : claim.goal ≡ work.goal.name = ap (λ (d : Claim). d.goal) e in
        let g : a.goal ≡ work.goal = goal_named_one spec fine claim.goal a.goal work.goal a.named (
          kept.number,
          k.number,
          sym named,
        ) in
        let shown : Proves above spec (ProvedBefore spec before) (goal_clause work.goal) work.steps =
        subst (λ x. IsShown above spec 0 before x (Proved (record { steps = work.steps }))) g
        (subst (λ (d : Claim). IsShown above spec 0 before a.goal d.outcome) e a.shown) in
        let m : shown.made ≡ work.made = steps_one above one spec fine (ProvedBefore spec before) (goal_clause
        work.goal ∷ []) 0 work.steps shown.made work.made shown.makes k.makes in
        let nodes : length kept.nodes ≡ length (nodes_of (goal_clause work.goal) shown.made) =
        ap (λ ns. length ns) k.nodes ∙ ap (λ ms. length (nodes_of (goal_clause work.goal) ms)) (sym m) in
        let links : length kept.links ≡ length work.made = ap (λ ls. length ls) k.links ∙
        length-map work.made links_of in
        let many = as_many above spec (ProvedBefore spec before) (goal_clause work.goal ∷ []) 0 work.steps work.made
        k.makes in
        omega (arith, nodes, links, many, shown.finished)

    all_finished : (before claims : List Claim) (kept : List Kept) → AreKept above spec before claims kept →
        ClaimsAreAccepted above spec 0 before claims → AllByRecursion IsFinished kept
    all_finished before [] [] k a = tt
    all_finished before [] (x ∷ kept) k a = absurd k
    all_finished before (c ∷ claims) [] k a = absurd k
    all_finished before (c ∷ claims) (x ∷ kept) k a = (
      finished_one before c x k.0.0 k.0.1 k.0.2 a.0,
      all_finished (before ++ c ∷ []) claims kept k.1 a.1,
    )

    -- the last goal is under work
    pub record OpenAt (state : State) (goals : List Kept) : Type 0 where
      pub front : List Kept
      pub last : Kept
      pub is : goals ≡ front ++ last ∷ []
      pub work : Work
      pub under_work : state.work ≡ Some work
      pub finished : AreKept above spec [] state.claims front
      pub open_goal : IsOpenGoal above spec state.claims work last

    -- no goal is
    pub record NoneOpen (state : State) (goals : List Kept) : Type 0 where
      pub none : state.work ≡ None
      pub finished : AreKept above spec [] state.claims goals

    -- one of both
    pub open_or_not : (state : State) (goals : List Kept) → KeepsSound above spec state goals → OpenAt state goals ⊎
        NoneOpen state goals
    open_or_not state goals k = by_work state.work refl k.keeps.last k.keeps.work k.keeps.is
      where
        by_work : (work : Option Work) → state.work ≡ work → (last : List Kept) →
            WorkIsKept above spec state.claims state.work last → goals ≡ k.keeps.finished ++ last →
            OpenAt state goals ⊎ NoneOpen state goals
        by_work None e [] w g = inr (record {
          none = e;
          finished = subst (λ gs. AreKept above spec [] state.claims gs)
              (sym (g ∙ append-nil k.keeps.finished)) k.keeps.claims;
        })
        by_work None e (x ∷ last) w g = absurd (let q : WorkIsKept above spec state.claims None (x ∷ last) =
            subst (λ o. WorkIsKept above spec state.claims o (x ∷ last)) e w in q)
        by_work (Some work) e [] w g = absurd (let q : WorkIsKept above spec state.claims (Some work) [] =
            subst (λ o. WorkIsKept above spec state.claims o []) e w in q)
        by_work (Some work) e (x ∷ []) w g =
            let q : IsKept above spec state.claims work x = (let r : WorkIsKept above spec state.claims (Some work)
            (x ∷ []) = subst (λ o. WorkIsKept above spec state.claims o (x ∷ [])) e w in r) in
            let under : IsUnderWork above spec state.claims work =
            (let r : AreUnderWork above spec state.claims (Some work) =
            subst (λ o. AreUnderWork above spec state.claims o) e k.sound.under_work in r) in
            inl (record {
              front = k.keeps.finished;
              last = x;
              is = g;
              work = work;
              under_work = e;
              finished =
                  k.keeps.claims;
              open_goal = record { under = under; keeps = q };
            })
        by_work (Some work) e (x ∷ y ∷ last) w g = absurd (let q : WorkIsKept above spec state.claims (Some work)
            (x ∷ y ∷ last) = subst (λ o. WorkIsKept above spec state.claims o (x ∷ y ∷ last)) e w in q)

    -- how many nodes and links are kept of the goal under work
    pub open_counts : (claims : List Claim) (work : Work) (kept : Kept) → IsOpenGoal above spec claims work kept →
        (length kept.nodes ≡ length (nodes_at work)) × (length kept.links ≡ length work.steps) ×
        (length work.made ≡ length work.steps)
    open_counts claims work kept o =
        let many = as_many above spec (ProvedBefore spec claims) (goal_clause work.goal ∷ []) 0 work.steps work.made
        o.under.makes in
        let links : length kept.links ≡ length work.made = ap (λ ls. length ls) o.keeps.links ∙
        length-map work.made links_of in
        (ap (λ ns. length ns) o.keeps.nodes, omega (arith, many, links), many)

    -- by what is kept one sees which
    pub open_seen : (state : State) (goals : List Kept) → OpenAt state goals → HasOpenLast goals
    open_seen state goals o =
        let n = open_counts state.claims o.work o.last o.open_goal in
        record {
          front = o.front;
          last = o.last;
          is = o.is;
          unfinished = omega (
            arith,
            n.0,
            n.1,
            o.open_goal.under.unfinished,
          );
        }

    pub none_seen : (state : State) (goals : List Kept) → IsSound above spec state → NoneOpen state goals →
        HasOpenLast goals → ⊥
    none_seen state goals sound n h =
        let all = all_finished [] state.claims goals n.finished (sound.accepted 0) in
        let last : IsFinished h.last = all_last IsFinished h.front h.last (subst (λ gs. AllByRecursion IsFinished gs)
        h.is all) in
        omega (arith, last, h.unfinished)

    -- if the last goal has a node without a step it is under work
    pub open_by : (state : State) (goals : List Kept) → KeepsSound above spec state goals → HasOpenLast goals →
        OpenAt state goals
    open_by state goals k h = elim (open_or_not state goals k) [
      | inl o ↦ o
      | inr n ↦ absurd (none_seen state goals k.sound n h)
    ]

    -- the goal that is read at the last place is the one under work, and the goals before it are proved
    pub record OpenedGoal (state : State) (goals : List Kept) (o : OpenAt state goals) (its : KeptGoal)
        (numbers : List ℕ) :
        Type 0 where
      pub is : kept_of its ≡ o.last
      pub under : IsOpenGoal above spec state.claims o.work (kept_of its)
      pub proved : AreProved spec state.claims numbers

    pub opened_goal : (state : State) (items : List KeptGoal) (o : OpenAt state (map kept_of items)) (last : ℕ) →
        last ≡ length items - 1 → (its : KeptGoal) → its ≡ get_or items last its → (numbers : List ℕ) →
        numbers ≡ map number_of (take last items) → OpenedGoal state (map kept_of items) o its numbers
    opened_goal state items o last n its at numbers e =
        let is : kept_of its ≡ o.last = last_of items o.front o.last its last o.is n at in
        let first : map kept_of (take last items) ≡ o.front =
        ap (λ j. map kept_of (take j items)) n ∙ mapped_init kept_of items o.front o.last o.is in
        let same : numbers ≡ map (λ (x : Kept). x.number) o.front =
        e ∙ numbers_kept (take last items) ∙ ap (map (λ (x : Kept). x.number)) first in
        record {
          is = is;
          under = subst (λ x. IsOpenGoal above spec state.claims o.work x) (sym is) o.open_goal;
          proved = subst (λ ns. AreProved spec state.claims ns) (sym same)
              (numbers_proved state.claims o.front o.finished);
        }
