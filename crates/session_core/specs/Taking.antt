-- What carrying out a goal or a step makes of what is kept, and why it isn't carried out.
use Rattle.std.specs.Prelude.{◌≡◌, ◌+◌, ◌<◌, ◌≤◌, ℕ, List, [], ◌∷◌, ◌++◌, Some, Result, Ok, Err, length, slice_get}
use Rattle.term_core.specs.Tree.{Tree}
use Rattle.spec_core.specs.declared.records.Spec.{Spec}
use Rattle.spec_core.specs.Sig.{Sig}
use Rattle.clause_core.specs.declared.answers.Children.{Children}
use Rattle.clause_core.specs.declared.clauses.Clause.{Clause}
use Rattle.clause_core.specs.declared.reports.Claim.{Claim}
use Rattle.clause_core.specs.declared.steps.Step.{Step}
use Rattle.acceptance.specs.Blocks.{clauses_of, StepMakes}
use Rattle.acceptance.specs.Claims.{ProvedBefore}
use Rattle.acceptance.specs.StepRefusals.{IsRefused}
use Rattle.acceptance.specs.Strict.{AllAreAllowed}
use Rattle.block_links.specs.Links.{links_of}
use Rattle.proof_script.specs.Words.{line_text}
use Rattle.session_core.specs.declared.commands.Command.{Command}
use Rattle.session_core.specs.declared.errors.SessionError.{SessionError}
use Rattle.session_core.specs.declared.errors.SessionError.TheVariants.{Step as undefined, NotSmaller, Limit}
use Rattle.session_core.specs.declared.errors.SessionError.TheVariants.{OutOfMemory}
use Rattle.session_core.specs.States.{State, Work, pending, nodes_at, with_step, without_step}
use Rattle.session_core.specs.Accepting.{Accepts, IsNeither, NextMakes, text_length}
use Rattle.session_core.specs.Refusals.{IsNotSmaller, IsTooLong, IsRefusedFor}
use Rattle.session_core.specs.Lengths.{proved_line, steps_length}
use Rattle.session_core.specs.Sound.{IsUnderWork, IsSound}
use Rattle.session_core.specs.Kept.{Kept, IsKept, Keeps}

-- the last goal has a node without a step
pub record HasOpenLast (goals : List Kept) : Type 0 where
  pub front : List Kept
  pub last : Kept
  pub is : goals ≡ front ++ last ∷ []
  pub unfinished : length last.links < length last.nodes

-- its first node without a step has this number and this clause
abbrev pub IsOpenAt : List Kept → ℕ → Clause → Type 0
IsOpenAt goals number clause =
    (h : HasOpenLast goals) × (number ≡ length h.last.links)
    × (slice_get h.last.nodes number ≡ Some clause)

-- if each of the nodes has links all is allowed, or it isn't
abbrev pub TestsAllowed : ℕ → List Children → Result Unit SessionError → Type 0
TestsAllowed nodes links (Ok done) = nodes ≡ length links → AllAreAllowed links
TestsAllowed nodes links (Err NotSmaller) = (nodes ≡ length links) × ¬ (AllAreAllowed links)
TestsAllowed nodes links (Err OutOfMemory) = Unit {0}
TestsAllowed nodes links (Err _) = ⊥

-- if each of the nodes has links all is allowed, and a claim of this name with steps of this
-- length isn't too long; or the first of both that isn't so
abbrev pub TestsLast : ℕ → List Children → List ℕ → ℕ → Result Unit SessionError → Type 0
TestsLast nodes links name total (Ok done) =
    (nodes ≡ length links → AllAreAllowed links)
    × ((sig : Sig) → length (line_text sig (proved_line name nodes)) + total ≤ 300000)
TestsLast nodes links name total (Err NotSmaller) =
    (nodes ≡ length links) × ¬ (AllAreAllowed links)
TestsLast nodes links name total (Err Limit) =
    (nodes ≡ length links → AllAreAllowed links)
    × ((sig : Sig) → 300000 < length (line_text sig (proved_line name nodes)) + total)
TestsLast nodes links name total (Err OutOfMemory) = Unit {0}
TestsLast nodes links name total (Err _) = ⊥

module _ (above : Tree → Tree → Type 0) (spec : Spec) where
  -- what the step of node k makes, if nothing in it is Neither; or why it makes nothing
  abbrev pub MakesRelated :
      (ℕ → Type 0) → List Clause → ℕ → Step → Result Children SessionError → Type 0
  MakesRelated usable nodes k step (Ok made) =
      StepMakes above spec usable nodes k step made × (IsNeither made → ⊥)
  MakesRelated usable nodes k step (Err (undefined why)) =
      IsRefused above spec usable nodes k step why
  MakesRelated usable nodes k step (Err NotSmaller) =
      (made : Children) × StepMakes above spec usable nodes k step made × IsNeither made
  MakesRelated usable nodes k step (Err OutOfMemory) = Unit {0}
  MakesRelated usable nodes k step (Err _) = ⊥

  -- the goal that is kept is under work after these claims
  pub record IsOpenGoal (claims : List Claim) (work : Work) (kept : Kept) : Type 0 where
    pub under : IsUnderWork above spec claims work
    pub keeps : IsKept above spec claims work kept

  -- what is kept of a goal with one step more
  abbrev pub with_made : Work → Step → Children → Kept → Kept
  with_made work step made kept = record {
    number = kept.number;
    nodes = kept.nodes ++ clauses_of made;
    links = kept.links ++ links_of made ∷ [];
    lengths = kept.lengths ++ steps_length spec.sig (work.steps ++ step ∷ []) ∷ [];
  }

  module _ (claims : List Claim) (work : Work) (step : Step) where
    -- the step is taken
    pub record IsTaken (old new : Kept) : Type 0 where
      pub made : Children
      pub makes : NextMakes above spec claims work step made
      pub related : IsNeither made → ⊥
      pub allowed :
          without_step (with_step work step made) ≡ 0 →
          AllAreAllowed (with_step work step made).made
      pub short : text_length spec.sig (with_step work step made) ≤ 300000
      pub is : new ≡ with_made work step made old

    -- the step isn't taken, first for this reason
    abbrev pub IsStopped : SessionError → Type 0
    IsStopped (undefined why) =
        IsRefused above spec (ProvedBefore spec claims) (nodes_at work) (length work.steps) step why
    IsStopped NotSmaller =
        (made : Children) × NextMakes above spec claims work step made
        × IsNotSmaller made (with_step work step made)
    IsStopped Limit =
        (made : Children) × NextMakes above spec claims work step made
        × (IsNotSmaller made (with_step work step made) → ⊥)
        × IsTooLong spec.sig (with_step work step made)
    IsStopped OutOfMemory = Unit {0}
    IsStopped _ = ⊥

    -- one of both, and what is kept stays if the step isn't taken
    abbrev pub TakesKept : Kept → Kept → Result Unit SessionError → Type 0
    TakesKept old new (Ok done) = IsTaken old new
    TakesKept old new (Err error) = (new ≡ old) × IsStopped error

  -- the state is sound, and this is kept of it
  pub record KeepsSound (state : State) (goals : List Kept) : Type 0 where
    pub sound : IsSound above spec state
    pub keeps : Keeps above spec state goals

  -- the command leads to a state of which the new goals are kept, with the number of its nodes without a
  -- step; or it is refused, and nothing changes
  abbrev pub CarriesOut :
      State → Command → List Kept → List Kept → Result ℕ SessionError → Type 0
  CarriesOut state command old new (Ok count) =
      (next : State) × Accepts above spec state command next × Keeps above spec next new
      × (count ≡ pending next)
  CarriesOut state command old new (Err OutOfMemory) = new ≡ old
  CarriesOut state command old new (Err why) =
      (new ≡ old) × IsRefusedFor above spec state command why
