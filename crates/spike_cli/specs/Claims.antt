-- The claims that a specification's goals get.
use Rattle.std.specs.Prelude.{◌≡◌, ℕ, ◌+◌, ◌<◌, ◌⊎◌, List, [], ◌∷◌, ◌++◌, Bool, Contains, Some, None, slice_get}
use Rattle.std.specs.List.{range_with_len}
use Rattle.term_core.specs.Tree.{Tree}
use Rattle.spec_core.specs.declared.records.Spec.{Spec}
use Rattle.spec_core.specs.declared.records.Goal.{Goal}
use Rattle.spec_core.specs.declared.records.Verdict.TheVariants.{Fails}
use Rattle.spec_core.specs.Verdict.{IsVerdict}
use Rattle.spec_core.specs.Order.{substitutions}
use Rattle.spec_order.specs.Orders.{above_of}
use Rattle.refuter.specs.declared.answers.Search.{Search}
use Rattle.refuter.specs.declared.answers.Search.TheVariants.{Found, NotFound}
use Rattle.refuter.specs.Finds.{Finds, IsFalse}
use Rattle.clause_core.specs.declared.reports.Budget.{Budget}
use Rattle.clause_core.specs.declared.reports.Claim.{Claim}
use Rattle.clause_core.specs.declared.reports.Outcome.{Outcome}
use Rattle.clause_core.specs.declared.reports.Outcome.TheVariants.{Proved, Refuted, Open}
use Rattle.clause_core.specs.declared.steps.Step.{Step}
use Rattle.clause_core.specs.Tidied.{goal_clause}
use Rattle.plain_proof.specs.FirstPlain.{HasPlain, IsFirstPlain}
use Rattle.plain_search.specs.Plain.{IsFirstBlock}
use Rattle.routine_proof.specs.Routine.{Start, starts, IsProof, IsFirstProof}
use Rattle.search_claims.specs.Claims.{named}
use Rattle.soundness.specs.ReportTruth.{OutcomeIsTrue}
use Rattle.file_replies.specs.declared.statuses.Status.{Status}
use Rattle.file_replies.specs.declared.statuses.Status.TheVariants as status
use Rattle.command_line.specs.declared.bounds.ProofBounds.{ProofBounds}

-- how far a goal that is left open was tried
abbrev pub budget_of : ProofBounds → ℕ → ℕ → Bool → Budget
budget_of bounds tried skipped cut =
    record {
      depth = bounds.search.depth;
      tried = tried;
      skipped = skipped;
      cut = cut;
      plain = bounds.plain;
      nodes = bounds.nodes;
    }

-- the goal's number if its claim proves it
abbrev pub number_proved : ℕ → Outcome → List ℕ
number_proved number (Proved block) = number ∷ []
number_proved number (Refuted index values) = []
number_proved number (Open budget) = []

-- the numbers of the goals that claims prove, which are on the goals from this number on
abbrev pub proved_from : ℕ → List Claim → List ℕ
proved_from number [] = []
proved_from number (claim ∷ claims) =
    number_proved number claim.outcome ++ proved_from (number + 1) claims

-- the same of claims on the first goals
abbrev pub proved_goals : List Claim → List ℕ
proved_goals claims = proved_from 0 claims

-- this is so of one of the goals, with its number
abbrev pub SomeGoal : (ℕ → Goal → Type 0) → List Goal → Type 0
SomeGoal Holds goals =
    (number : ℕ) × (goal : Goal) × (slice_get goals number ≡ Some goal) × Holds number goal

-- this is so of each goal, with its number
abbrev pub EachGoal : (ℕ → Goal → Type 0) → List Goal → Type 0
EachGoal Holds goals =
    (number : ℕ) (goal : Goal) → slice_get goals number ≡ Some goal → Holds number goal

module _ (bounds : ProofBounds) (spec : Spec) where
  -- with the goals of these numbers as lemmas
  module _ (lemmas : List ℕ) where
    -- the goal has a routine proof of at most the nodes, from one of its starts
    abbrev pub HasRoutine : Goal → Type 0
    HasRoutine goal =
        (start : Start) × (steps : List Step) × Contains (starts (goal_clause goal)) start
        × IsProof (above_of spec) spec lemmas goal bounds.nodes start steps

    -- what is claimed of a goal without a counterexample: that it is proved, by the block of its
    -- first plain proof, or if no variable has one, by its first routine proof; or that it is
    -- open with these numbers, if it has neither
    abbrev pub IsUnrefuted : Goal → Budget → Outcome → Type 0
    IsUnrefuted goal tried (Proved block) =
        IsFirstBlock (above_of spec) spec goal bounds.plain block
        ⊎ (IsFirstPlain spec goal bounds.plain None
        × IsFirstProof (above_of spec) spec lemmas goal bounds.nodes (Some block.steps))
    IsUnrefuted goal tried (Refuted index values) = ⊥
    IsUnrefuted goal tried (Open budget) =
        IsFirstPlain spec goal bounds.plain None
        × IsFirstProof (above_of spec) spec lemmas goal bounds.nodes None
        × (budget ≡ tried)

    -- what is claimed if a search answers this
    abbrev pub IsOutcomeOf : Goal → Search → Outcome → Type 0
    IsOutcomeOf goal (Found index values) outcome = outcome ≡ Refuted index (named goal.vars values)
    IsOutcomeOf goal (NotFound tried skipped cut) outcome =
        IsUnrefuted goal (budget_of bounds tried skipped cut) outcome

    -- the claim is on this goal and says what a search among its substitutions answers, or else
    -- whether it has a plain or a routine proof; and what it says is true
    pub record IsClaimOn (goal : Goal) (claim : Claim) : Type 0 where
      pub search : Search
      pub name : claim.goal ≡ goal.name
      pub false :
          IsFalse spec goal bounds.search.tries (substitutions spec goal bounds.search.depth) search
      pub exact :
          Finds spec goal bounds.search.steps bounds.search.tries
          (substitutions spec goal bounds.search.depth) search
      pub outcome : IsOutcomeOf goal search claim.outcome
      pub true : OutcomeIsTrue spec goal claim.outcome

  -- such a claim, after claims on the goals before it: those that they prove are the lemmas
  abbrev pub IsNextClaim : List Claim → Goal → Claim → Type 0
  IsNextClaim before goal claim = IsClaimOn (proved_goals before) goal claim

  -- the goal's verdict is Fails under one of the first substitutions
  abbrev pub IsRefutable : Goal → Type 0
  IsRefutable goal =
      (k : ℕ) × (values : List Tree) × (k < bounds.search.tries)
      × (slice_get (substitutions spec goal bounds.search.depth) k ≡ Some values)
      × IsVerdict spec values bounds.search.steps goal Fails

  abbrev pub SomeRefutable : Type 0
  SomeRefutable = SomeGoal (λ number goal. IsRefutable goal) spec.goals

  -- the goal with this number has a plain proof of at most the length, on one of its variables, or a
  -- routine proof of at most the nodes, with all goals before it as lemmas
  abbrev pub IsProvable : ℕ → Goal → Type 0
  IsProvable number goal =
      ((x : ℕ) × HasPlain spec goal bounds.plain x) ⊎ HasRoutine (range_with_len 0 number) goal

  -- the status that the goals give: Refuted if one is refutable, else Open if one isn't
  -- provable, else Done
  abbrev pub IsStatusOfGoals : Status → Type 0
  IsStatusOfGoals status.Refuted = SomeRefutable
  IsStatusOfGoals status.Open =
      SomeGoal (λ number goal. IsProvable number goal → ⊥) spec.goals × (SomeRefutable → ⊥)
  IsStatusOfGoals status.Done = EachGoal IsProvable spec.goals × (SomeRefutable → ⊥)
  IsStatusOfGoals _ = ⊥

-- the outcome is a counterexample
abbrev pub IsRefuted : Outcome → Type 0
IsRefuted (Proved block) = ⊥
IsRefuted (Refuted index values) = Unit {0}
IsRefuted (Open budget) = ⊥

-- the goal is left open
abbrev pub IsOpen : Outcome → Type 0
IsOpen (Proved block) = ⊥
IsOpen (Refuted index values) = ⊥
IsOpen (Open budget) = Unit {0}

-- this is so of the outcome of one of the claims
abbrev pub SomeOutcome : (Outcome → Type 0) → List Claim → Type 0
SomeOutcome Holds [] = ⊥
SomeOutcome Holds (claim ∷ claims) = Holds claim.outcome ⊎ SomeOutcome Holds claims

-- the status that claims give: Refuted if one is refuted, else Open if one is open, else Done
abbrev pub IsStatusOfClaims : List Claim → Status → Type 0
IsStatusOfClaims claims status.Refuted = SomeOutcome IsRefuted claims
IsStatusOfClaims claims status.Open =
    SomeOutcome IsOpen claims × (SomeOutcome IsRefuted claims → ⊥)
IsStatusOfClaims claims status.Done =
    (SomeOutcome IsOpen claims → ⊥) × (SomeOutcome IsRefuted claims → ⊥)
IsStatusOfClaims claims _ = ⊥
