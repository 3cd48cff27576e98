-- Reports that are first refused at a line, and refuted claims.
use Rattle.std.proofs.Common.{◌≡◌, ◌⊎◌, ℕ, zero, suc, ◌+◌, ◌<◌, List, [], ◌∷◌, ◌++◌, Some, None, inl, inr, refl, ap}
use Rattle.std.proofs.Common.{◌∙◌, arith}
use Rattle.std.specs.Prelude.{Any, codes, length}
use Rattle.std.proofs.lemmas.List.Sorted.{IsPermutation-refl}
use Rattle.term_core.specs.Tree.{var, app, none, some, instance}
use Rattle.spec_core.specs.declared.records.Goal.{Goal}
use Rattle.spec_core.specs.declared.records.Verdict.TheVariants.{Fails, Holds, Spent}
use Rattle.spec_core.specs.Laws.{OneValue}
use Rattle.spec_core.specs.Overlap.{NoOverlap}
use Rattle.spec_core.specs.Groups.{GroupsAreWhole}
use Rattle.spec_core.specs.Sorts.{IsValue}
use Rattle.spec_core.specs.Verdict.{IsVerdict}
use Rattle.spec_core.specs.WellSorted.{IsWellSorted}
use Rattle.spec_core.specs.Findings.{First}
use Rattle.spec_core.specs.Naturals.{nat, naturals, naturals_sig, same_goal, unit_goal, zero_term, succ_term, plus_term}
use Rattle.sample_specs.specs.SumOrder.{AboveInSums}
use Rattle.clause_core.specs.declared.clauses.Relation.TheVariants.{Less, Same}
use Rattle.clause_core.specs.declared.steps.Step.{Step}
use Rattle.clause_core.specs.declared.steps.Step.TheVariants.{Trivial, Cover}
use Rattle.clause_core.specs.declared.answers.Children.{Children}
use Rattle.clause_core.specs.declared.answers.Why.{Why}
use Rattle.clause_core.specs.declared.answers.Why.TheVariants.{NoSuchNode, NotProvedBefore, NotCovering}
use Rattle.clause_core.specs.declared.reports.ReplayWhy.{ReplayWhy}
use Rattle.clause_core.specs.declared.reports.ReplayWhy.TheVariants.{UnknownGoal, GoalTwice, Step as of_step, Pending}
use Rattle.clause_core.specs.declared.reports.ReplayWhy.TheVariants.{NotSmaller, Variables, NotFalse}
use Rattle.clause_core.specs.ClauseLaws.{OneRelation}
use Rattle.clause_core.specs.Patterns.{IsInstanceOf}
use Rattle.clause_core.specs.ExampleClauses.{unit_clause}
use Rattle.acceptance.specs.Strict.{Strict, strict, NodeIsAllowed}
use Rattle.acceptance.specs.Blocks.{StepsMake}
use Rattle.acceptance.specs.Claims.{IsGoalNamed, ProvedBefore}
use Rattle.acceptance.specs.Accepting.{AreNamedValues}
use Rattle.acceptance.specs.Refusals.{block_tests}
use Rattle.acceptance.specs.StepRefusals.{StepIsRefused}
use Rattle.acceptance.specs.Examples.{proves_unit, only, refutes, leaves_open, by_cases, by_lemma, unit_steps}
use Rattle.acceptance.specs.Examples.{circular_steps, x_and_y, AcceptedOnNaturals, RefusedOnNaturals}
use Rattle.acceptance.proofs.Links.{allowed_by}
use Rattle.acceptance.proofs.NoRefusal.{claim_clean, not_of_goal}
use Rattle.acceptance.proofs.FirstRefusal.{first_step, first_pending, first_larger}
use Rattle.acceptance.proofs.UnitProof.{at_zero, at_succ, both_cases, by_goal, made, cases_made, makes, zero_pattern}
use Rattle.acceptance.proofs.UnitProof.{start_within, zero_within, succ_within, shown}

unit_named : IsGoalNamed naturals (codes "unit") unit_goal
unit_named = (1, refl, refl)

same_named : IsGoalNamed naturals (codes "same") same_goal
same_named = (0, refl, refl)

abbrev none_proved : ℕ → Type 0
none_proved = ProvedBefore naturals []

abbrev IsFirst : List Step → ℕ → ReplayWhy → Type 0
IsFirst steps at why = First (block_tests AboveInSums naturals [] 3 (codes "unit") steps) (at, why)

-- a report that proves the goal alone is first refused where its block is
of_block : (steps : List Step) (at : ℕ) (why : ReplayWhy) → IsFirst steps at why →
    RefusedOnNaturals (only (proves_unit steps)) at why
of_block steps at why h = inl (inr (λ h. h (unit_goal, unit_named, tt), inr (λ h. h, h)))

-- The block in which each case refers to the goal itself.

abbrev circle : List Children
circle = both_cases ∷ by_goal ∷ by_goal ∷ []

circle_makes : StepsMake AboveInSums naturals none_proved (unit_clause ∷ []) 0 circular_steps circle
circle_makes = (
  cases_made naturals.goals none_proved,
  (
    record {
      clause = at_zero;
      is = refl;
      says = inl (
        record { clause = unit_clause; is = refl },
        inl (
          ((_, refl, refl, tt), tt),
          inl (
            zero_within,
            inl (
              (tt, (inl (inl refl), tt)),
              (_, tt, ((refl, IsPermutation-refl _), tt), inl ((tt, omega arith), refl)),
            ),
          ),
        ),
      );
    },
    (
      record {
        clause = at_succ;
        is = refl;
        says = inl (
          record { clause = unit_clause; is = refl },
          inl (
            ((_, refl, refl, (refl, tt)), tt),
            inl (
              succ_within,
              inl (
                (tt, (inl (inl refl), tt)),
                (_, tt, ((refl, IsPermutation-refl _), tt), inl ((tt, omega arith), refl)),
              ),
            ),
          ),
        );
      },
      tt,
    ),
  ),
)

same_is_not_less : Same ≡ Less → ⊥
same_is_not_less e = cc

-- node 1 refers to node 0, so it isn't strict, and neither is node 0
zero_not_strict : Strict circle 1 → ⊥
zero_not_strict (strict falls later) = either (falls 0 Same (inr (_, 0, _, refl, refl, refl, refl)))
  where
    either : (Same ≡ Less) ⊎ ((Same ≡ Same) × (1 < 0)) → ⊥
    either (inl e) = same_is_not_less e
    either (inr h) = omega (arith, h.1)

start_not_strict : Strict circle 0 → ⊥
start_not_strict (strict falls later) = zero_not_strict (later 1 (inl (_, 0, _, refl, refl, refl, refl)))

not_smaller : NodeIsAllowed circle 1 → ⊥
not_smaller a = either (a.refs 0 Same (_, 0, _, refl, refl, refl, refl))
  where
    either : (Same ≡ Less) ⊎ ((Same ≡ Same) × ((1 < 0) ⊎ Strict circle 0)) → ⊥
    either (inl e) = same_is_not_less e
    either (inr (e, inl l)) = omega (arith, l)
    either (inr (e, inr s)) = start_not_strict s

first_allowed : (j : ℕ) → j < 1 → NodeIsAllowed circle j
first_allowed zero l = allowed_by circle 0 _ refl (inr refl, (inr refl, tt)) tt
first_allowed (suc j) l = absurd (omega arith)

zero_is_not_succ : Any (IsInstanceOf (succ_term zero_term)) (zero_term ∷ []) → ⊥
zero_is_not_succ (zero, p, l, is, (ts, h)) = let k : instance ts zero_term ≡ succ_term zero_term = ap
    (λ x. instance ts x) is ∙ h in
    let n : ◌≡◌ {A = ℕ} 2 3 = (let r : app 2 none ≡ app 3 (some (app 2 none) none) = k in cc) in omega arith
zero_is_not_succ (suc k, p, l, is, h) = omega (arith, l)

not_same : (codes "same" ≡ codes "unit") ⊎ ⊥ → ⊥
not_same (inl e) = let h : ◌≡◌ {A = ℕ} 115 117 = cc in omega arith
not_same (inr h) = h

module _ (relation : OneRelation AboveInSums) (fine : IsWellSorted naturals) where
  step_refused : (steps : List Step) (k : ℕ) (why : Why) → k < length steps →
      StepIsRefused AboveInSums naturals none_proved unit_clause steps k why →
      IsFirst steps (3 + suc k) (of_step why)
  step_refused steps k why l h = first_step AboveInSums relation naturals fine [] 3 (codes "unit") unit_goal
      unit_named steps k why l start_within h

  pub circular : RefusedOnNaturals (only (proves_unit circular_steps)) 5 NotSmaller
  circular = of_block circular_steps 5 NotSmaller
      (first_larger AboveInSums relation naturals fine [] 3 (codes "unit") unit_goal unit_named circular_steps
      start_within circle circle_makes refl 1 (omega arith) first_allowed not_smaller)

  abbrev longer : List Step
  longer = unit_steps ++ Trivial 1 ∷ []

  pub step_too_many : RefusedOnNaturals (only (proves_unit longer)) 10 (of_step NoSuchNode)
  step_too_many = of_block longer 10 (of_step NoSuchNode)
      (step_refused longer 6 NoSuchNode (omega arith) (
        Trivial 1,
        made,
        refl,
        makes naturals.goals none_proved,
        inl (refl, refl),
      ))

  pub unfinished : RefusedOnNaturals (only (proves_unit (by_cases ∷ []))) 3 Pending
  unfinished = of_block (by_cases ∷ []) 3 Pending
      (first_pending AboveInSums relation naturals fine [] 3 (codes "unit") unit_goal unit_named (by_cases ∷ [])
      start_within (both_cases ∷ []) (cases_made naturals.goals none_proved, tt) (omega arith))

  pub claimed_twice : RefusedOnNaturals
      (record { steps = 1; claims = proves_unit unit_steps ∷ proves_unit unit_steps ∷ [] }) 10 GoalTwice
  claimed_twice = inr (
    claim_clean AboveInSums relation naturals fine 1 [] (proves_unit unit_steps)
        (shown 1 [] (λ h. h)),
    inl (inr (λ h. h (unit_goal, unit_named, tt), inl (inl refl, refl))),
  )

  abbrev short : List Step
  short = Cover (record { 0 = 0 }) (zero_term ∷ []) ∷ []

  pub case_left_out : RefusedOnNaturals (only (proves_unit short)) 4 (of_step NotCovering)
  case_left_out = of_block short 4 (of_step NotCovering) (step_refused short 0 NotCovering (omega arith) (
    _,
    [],
    refl,
    tt,
    inr (
      unit_clause,
      refl,
      inl (
        record { sort = nat; is = refl; contexts = [] ∷ []; each = (zero_pattern, tt) },
        inr (
          λ c. zero_is_not_succ (c (succ_term zero_term) (
            (_, refl, refl, ((_, refl, refl, tt), tt)),
            (omega arith, ((omega arith, tt), tt)),
          )),
          refl,
        ),
      ),
    ),
  ))

  abbrev own : List Step
  own = by_lemma (codes "unit") (var 0 ∷ [])

  pub by_itself : RefusedOnNaturals (only (proves_unit own)) 4 (of_step NotProvedBefore)
  by_itself = of_block own 4 (of_step NotProvedBefore) (step_refused own 0 NotProvedBefore (omega arith) (
    _,
    [],
    refl,
    tt,
    inr (unit_clause, refl, inr (λ l. l.may_be_used.2, refl)),
  ))

  abbrev by_same : List Step
  by_same = by_lemma (codes "same") (var 0 ∷ var 0 ∷ [])

  abbrev open_before : ℕ → Type 0
  open_before = ProvedBefore naturals (leaves_open ∷ [])

  none_before : (number : ℕ) → open_before number → ⊥
  none_before number (goal, at, inl p) = p.1
  none_before number (goal, at, inr h) = h

  pub by_open : RefusedOnNaturals (record { steps = 1; claims = leaves_open ∷ proves_unit by_same ∷ [] }) 5
      (of_step NotProvedBefore)
  by_open = inr (
    (λ h. h (same_goal, same_named, tt), (λ h. h, tt)),
    inl (inr (
      λ h. h (unit_goal, unit_named, tt),
      inr (
        not_same,
        first_step AboveInSums relation naturals fine (leaves_open ∷ []) 4 (codes "unit") unit_goal unit_named
            by_same 0 NotProvedBefore (omega arith) start_within
            (_, [], refl, tt, inr (unit_clause, refl, inr (λ l. none_before l.number l.may_be_used, refl))),
      ),
    )),
  )

  -- Refuted claims.

  zero_value : IsValue naturals_sig nat zero_term
  zero_value = ((_, refl, refl, tt), (omega arith, tt))

  one_value_of_nat : IsValue naturals_sig nat (succ_term zero_term)
  one_value_of_nat = ((_, refl, refl, ((_, refl, refl, tt), tt)), (omega arith, ((omega arith, tt), tt)))

  pub refuted : IsVerdict naturals (zero_term ∷ succ_term zero_term ∷ []) 1 same_goal Fails →
      AcceptedOnNaturals (only (refutes (codes "same") (x_and_y zero_term (succ_term zero_term))))
  refuted fails = (
    record {
      goal = same_goal;
      named = same_named;
      first = λ h. h;
      shown = (record { names = refl; sorts = (zero_value, (one_value_of_nat, tt)) }, fails);
    },
    tt,
  )

  -- with x = y = zero both sides are one term, which has one value
  zeros_hold : OneValue → NoOverlap naturals → GroupsAreWhole naturals →
      IsVerdict naturals (zero_term ∷ zero_term ∷ []) 1 same_goal Fails → ⊥
  zeros_hold value apart whole (inl h) = let e : Fails ≡ Spent = h.1 in cc
  zeros_hold value apart whole (inr (inl h)) = let e : Fails ≡ Holds = h.1 in cc
  zeros_hold value apart whole (inr (inr ((v, w, d, (n, g, l), (m, k, r)), e))) = d
      (value naturals (plus_term zero_term zero_term) v w n m nat fine apart whole (
        _,
        refl,
        refl,
        ((_, refl, refl, tt), ((_, refl, refl, tt), tt)),
      ) g k).0

  pub not_refuted : OneValue → NoOverlap naturals → GroupsAreWhole naturals →
      RefusedOnNaturals (only (refutes (codes "same") (x_and_y zero_term zero_term))) 3 NotFalse
  not_refuted value apart whole = inl (inr (
    λ h. h (same_goal, same_named, tt),
    inr (
      λ h. h,
      inr (
        not_of_goal naturals fine (codes "same") same_goal same_named
            (λ g. ¬ (AreNamedValues naturals g (x_and_y zero_term zero_term)))
            (λ h. h (record { names = refl; sorts = (zero_value, (zero_value, tt)) })),
        ((same_goal, same_named, zeros_hold value apart whole), refl),
      ),
    ),
  ))

pub behind_open : AcceptedOnNaturals (record { steps = 1; claims = leaves_open ∷ proves_unit unit_steps ∷ [] })
behind_open = (
  record { goal = same_goal; named = same_named; first = λ h. h; shown = tt },
  (shown 1 (leaves_open ∷ []) not_same, tt),
)

pub accepted : AcceptedOnNaturals (only (proves_unit unit_steps))
accepted = (shown 1 [] (λ h. h), tt)

other_names : AreNamedValues naturals same_goal ((codes "y", succ_term zero_term) ∷ (codes "x", zero_term) ∷ []) → ⊥
other_names a = let e : ◌≡◌ {A = List (List ℕ)} (codes "y" ∷ codes "x" ∷ [])
    (codes "x" ∷ codes "y" ∷ []) = a.names in let k : ◌≡◌ {A = ℕ} 121 120 = cc in omega arith

pub exchanged_names : RefusedOnNaturals
    (only (refutes (codes "same") ((codes "y", succ_term zero_term) ∷ (codes "x", zero_term) ∷ []))) 3 Variables
exchanged_names = inl (inr (
  λ h. h (same_goal, same_named, tt),
  inr (λ h. h, inl ((same_goal, same_named, other_names), refl)),
))

none_is_worse : (goal : Goal) → IsGoalNamed naturals (codes "worse") goal → ⊥
none_is_worse goal (zero, at, n) = let q : Some same_goal ≡ Some goal = at in let e : same_goal ≡ goal = cc in
    let k : ◌≡◌ {A = List ℕ} (codes "same") (codes "worse") = ap (λ (g : Goal). g.name) e ∙ n in
    let h : ◌≡◌ {A = ℕ} 115 119 = cc in omega arith
none_is_worse goal (suc zero, at, n) = let q : Some unit_goal ≡ Some goal = at in
    let e : unit_goal ≡ goal = cc in
    let k : ◌≡◌ {A = List ℕ} (codes "unit") (codes "worse") = ap (λ (g : Goal). g.name) e ∙ n in
    let h : ◌≡◌ {A = ℕ} 117 119 = cc in omega arith
none_is_worse goal (suc (suc k), at, n) = let e : None ≡ Some goal = at in cc

pub unknown_goal : RefusedOnNaturals (only (refutes (codes "worse") (x_and_y zero_term (succ_term zero_term))))
    3 UnknownGoal
unknown_goal = inl (inl (λ g. none_is_worse g.0 g.1, refl))
