-- Claims on all goals in their order are accepted, if each one is shown after those before it.
use Rattle.std.proofs.Common.{◌≡◌, ℕ, zero, suc, ◌<◌, List, [], ◌∷◌, ◌++◌, Some, None, inl, inr, refl, ap, sym, ◌∙◌}
use Rattle.std.proofs.Common.{subst, arith, length, map, append_assoc}
use Rattle.std.proofs.lemmas.List.{map-append}
use Rattle.std.specs.Prelude.{slice_get}
use Rattle.term_core.specs.Tree.{Tree}
use Rattle.spec_core.specs.declared.records.Goal.{Goal}
use Rattle.spec_core.specs.declared.records.Spec.{Spec}
use Rattle.spec_core.specs.declared.records.Verdict.TheVariants.{Fails}
use Rattle.spec_core.specs.Truth.{AreValuesOf}
use Rattle.spec_core.specs.Verdict.{IsVerdict}
use Rattle.spec_core.specs.WellSorted.{GoalNamesAreDistinct, sorts_of}
use Rattle.clause_core.specs.declared.reports.Claim.{Claim}
use Rattle.clause_core.specs.declared.reports.Outcome.TheVariants.{Refuted}
use Rattle.acceptance.specs.Accepting.{ClaimIsAccepted, ClaimsAreAccepted, IsShown}
use Rattle.acceptance.specs.Claims.{IsClaimed}
use Rattle.search_claims.specs.Claims.{named}
use Rattle.search_claims.proofs.NamedValues.{names_named, values_named}

-- the goals that the claims are on, by their names in order
abbrev pub claimed_names : List Claim → List (List ℕ)
claimed_names claims = map (λ (c : Claim). c.goal) claims

abbrev pub goal_names : List Goal → List (List ℕ)
goal_names goals = map (λ (g : Goal). g.name) goals

module _ {X : Type 0} where
  pub item_before :
      (xs ys : List X) (k : ℕ) (x : X) → slice_get xs k ≡ Some x → slice_get (xs ++ ys) k ≡ Some x
  item_before [] ys k x at = absurd (let q : None ≡ Some x = at in cc)
  item_before (z ∷ xs) ys zero x at = at
  item_before (z ∷ xs) ys (suc k) x at = item_before xs ys k x at

  item_behind : (xs ys : List X) (x : X) → slice_get (xs ++ x ∷ ys) (length xs) ≡ Some x
  item_behind [] ys x = refl
  item_behind (z ∷ xs) ys x = item_behind xs ys x

-- a claimed name is that of one of the goals that the claims are on
claimed_goal :
    (name : List ℕ) (claims : List Claim) (goals : List Goal) →
    claimed_names claims ≡ goal_names goals → IsClaimed name claims →
    (k : ℕ) × (g : Goal) × (k < length goals) × (slice_get goals k ≡ Some g) × (g.name ≡ name)
claimed_goal name [] goals e h = absurd h
claimed_goal name (c ∷ claims) [] e h =
    absurd (let q : c.goal ∷ claimed_names claims ≡ [] = e in cc)
claimed_goal name (c ∷ claims) (g ∷ goals) e (inl h) =
    let q : c.goal ∷ claimed_names claims ≡ g.name ∷ goal_names goals = e in
    let k : c.goal ≡ g.name = cc in
    (0, g, omega arith, refl, sym k ∙ h)
claimed_goal name (c ∷ claims) (g ∷ goals) e (inr h) =
    let q : c.goal ∷ claimed_names claims ≡ g.name ∷ goal_names goals = e in
    let k : claimed_names claims ≡ goal_names goals = cc in
    let r = claimed_goal name claims goals k h in
    (suc r.0, r.1, omega (arith, r.2), r.3, r.4)

-- the names of claims and goals, with one more
pub names_with :
    (seen : List Goal) (goal : Goal) (before : List Claim) (claim : Claim) →
    claimed_names before ≡ goal_names seen → claim.goal ≡ goal.name →
    claimed_names (before ++ claim ∷ []) ≡ goal_names (seen ++ goal ∷ [])
names_with seen goal before claim e n =
    map-append (λ (c : Claim). c.goal) before (claim ∷ [])
    ∙ (ap (λ ns. ns ++ claim.goal ∷ []) e
    ∙ (ap (λ n. goal_names seen ++ n ∷ []) n
    ∙ sym (map-append (λ (g : Goal). g.name) seen (goal ∷ []))))

module _ (above : Tree → Tree → Type 0) (spec : Spec) (steps : ℕ) where
  -- the claims are on these goals, one for each and in their order, and each one is shown
  abbrev pub AreShown : List Claim → List Goal → List Claim → Type 0
  AreShown before [] [] = Unit {0}
  AreShown before (goal ∷ goals) [] = ⊥
  AreShown before [] (claim ∷ claims) = ⊥
  AreShown before (goal ∷ goals) (claim ∷ claims) =
      (claim.goal ≡ goal.name) × IsShown above spec steps before goal claim.outcome
      × AreShown (before ++ claim ∷ []) goals claims

  module _ (distinct : GoalNamesAreDistinct spec.goals) where
    next_is :
        (seen goals : List Goal) (goal : Goal) → seen ++ goal ∷ goals ≡ spec.goals →
        slice_get spec.goals (length seen) ≡ Some goal
    next_is seen goals goal all =
        subst (λ gs. slice_get gs (length seen) ≡ Some goal) all (item_behind seen goals goal)

    -- after claims on the goals before it a goal isn't claimed yet
    pub next_unclaimed :
        (seen goals : List Goal) (goal : Goal) (before : List Claim) →
        seen ++ goal ∷ goals ≡ spec.goals → claimed_names before ≡ goal_names seen →
        IsClaimed goal.name before → ⊥
    next_unclaimed seen goals goal before all e h =
        let r = claimed_goal goal.name before seen e h in
        let there : slice_get spec.goals r.0 ≡ Some r.1 =
        subst (λ gs. slice_get gs r.0 ≡ Some r.1) all
        (item_before seen (goal ∷ goals) r.0 r.1 r.3) in
        let same : r.0 ≡ length seen =
        distinct r.0 (length seen) r.1 goal there (next_is seen goals goal all) r.4 in
        absurd (omega (arith, r.2, same))

    -- so a claim on it is accepted
    pub claim_accepted :
        (seen goals : List Goal) (goal : Goal) (before : List Claim) (claim : Claim) →
        seen ++ goal ∷ goals ≡ spec.goals → claimed_names before ≡ goal_names seen →
        claim.goal ≡ goal.name → IsShown above spec steps before goal claim.outcome →
        ClaimIsAccepted above spec steps before claim
    claim_accepted seen goals goal before claim all e n s = record {
      goal = goal;
      named = (length seen, next_is seen goals goal all, sym n);
      first =
          λ h. next_unclaimed seen goals goal before all e
          (subst (λ name. IsClaimed name before) n h);
      shown = s;
    }

    -- after claims on the goals seen before, and before others
    pub claims_accepted :
        (seen goals others : List Goal) (before claims : List Claim) →
        seen ++ (goals ++ others) ≡ spec.goals → claimed_names before ≡ goal_names seen →
        AreShown before goals claims → ClaimsAreAccepted above spec steps before claims
    claims_accepted seen [] others before [] all e s = tt
    claims_accepted seen (goal ∷ goals) others before [] all e s = absurd s
    claims_accepted seen [] others before (claim ∷ claims) all e s = absurd s
    claims_accepted seen (goal ∷ goals) others before (claim ∷ claims) all e s = (
      claim_accepted seen (goals ++ others) goal before claim all e s.0 s.1,
      claims_accepted
          (seen ++ goal ∷ []) goals others (before ++ claim ∷ []) claims
          (append_assoc seen (goal ∷ []) (goals ++ others) ∙ all)
          (names_with seen goal before claim e s.0) s.2,
    )

  -- values under which the goal's verdict is Fails show that it is false
  pub refuted_is_shown :
      (goal : Goal) (before : List Claim) (index : ℕ) (row : List Tree) →
      AreValuesOf spec (sorts_of goal.vars) row → IsVerdict spec row steps goal Fails →
      IsShown above spec steps before goal (Refuted index (named goal.vars row))
  refuted_is_shown goal before index row values verdict =
      let same = values_named spec goal.vars row values in (
        record {
          names = names_named spec goal.vars row values;
          sorts =
              subst (λ ts. AreValuesOf spec (sorts_of goal.vars) ts) (sym same) values;
        },
        subst (λ ts. IsVerdict spec ts steps goal Fails) (sym same) verdict,
      )
