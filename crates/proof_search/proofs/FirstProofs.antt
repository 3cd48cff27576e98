-- The first start with a proof, start by start.
use Rattle.std.proofs.Common.{◌≡◌, ℕ, ◌+◌, ◌-◌, ◌<◌, ◌≤◌, List, ◌∷◌, Some, None, map, inl, length, subst, arith}
use Rattle.std.specs.Prelude.{Option}
use Rattle.std.specs.List.{range_with_len}
use Rattle.std.specs.Option.{IfSome}
use Rattle.term_core.specs.Tree.{Tree}
use Rattle.term_core.specs.declared.ids.VarId.{VarId}
use Rattle.spec_core.specs.declared.records.Goal.{Goal}
use Rattle.spec_core.specs.declared.records.Spec.{Spec}
use Rattle.spec_core.specs.WellSorted.{IsWellSorted}
use Rattle.clause_core.specs.declared.steps.Block.{Block}
use Rattle.clause_core.specs.declared.steps.Step.{Step}
use Rattle.clause_core.specs.StepLaws.{OneAnswer}
use Rattle.clause_core.specs.Tidied.{goal_clause}
use Rattle.routine_proof.specs.First.{HasNone}
use Rattle.routine_proof.specs.Routine.{Start, no_split, split, starts, IsProof, IsFirstProof}
use Rattle.routine_proof.proofs.Left.{IsLeft, left_all, left_item, left_end, found_item}
use Rattle.routine_proof.proofs.SameStart.{from_split}
use Rattle.proof_search.specs.declared.proving.Tried.{Tried}
use Rattle.proof_search.specs.declared.proving.Tried.TheVariants.{Proof, Not}
use Rattle.proof_search.specs.Proving.{IsTried, IsCoverOf}
use Rattle.proof_search.specs.Starting.{BeginsWith}
use Rattle.proof_search.proofs.FewStarts.{splits_from, next_split, no_split_left}

-- what is said of a setting's specification and lemmas
pub by_setting :
    (above : Tree → Tree → Type 0) (its spec : Spec) (numbers lemmas : List ℕ) →
    its ≡ spec → numbers ≡ lemmas →
    (goal : Goal) (most : ℕ) (start : Start) (found : Tried) →
    IsTried above its numbers goal most start found →
    IsTried above spec lemmas goal most start found
by_setting above its spec numbers lemmas e f goal most start found h =
    subst (λ (p : Spec × List ℕ). IsTried above p.0 p.1 goal most start found)
    (λ i. (e i, f i)) h

module _
    (above : Tree → Tree → Type 0) (spec : Spec) (lemmas : List ℕ) (goal : Goal) (most : ℕ)
  where
    abbrev IsOne : Start → List Step → Type 0
    IsOne start steps = IsProof above spec lemmas goal most start steps

    abbrev all : List Start
    all = starts (goal_clause goal)

    abbrev count : ℕ
    count = length (goal_clause goal).ctx

    abbrev IsFrom : Start → Tried → Type 0
    IsFrom start found = IsTried above spec lemmas goal most start found

    -- no start before this split has a proof
    abbrev pub AreLeft : ℕ → Type 0
    AreLeft n =
        IsLeft (IsProof above spec lemmas goal most) (starts (goal_clause goal))
        (splits_from n (length (goal_clause goal).ctx))

    pub first_start :
        (found : Tried) (block : Block) → found ≡ Proof block →
        IsTried above spec lemmas goal most no_split found →
        IsFirstProof above spec lemmas goal most (Some block.steps)
    first_start found block e h = inl (subst (IsFrom no_split) e h)

    pub splits_left :
        (found : Tried) (first : Option Step) → found ≡ Not first →
        IsTried above spec lemmas goal most no_split found → AreLeft 0
    splits_left found first e h =
        let z : count ≡ count - 0 = omega arith in
        subst (λ k. IsLeft IsOne all (map split (range_with_len 0 k))) z
        (left_item IsOne all (map split (range_with_len 0 count)) no_split (left_all IsOne all)
        (subst (IsFrom no_split) e h).0)

    module _ (n : ℕ) (left : AreLeft n) where
      pub ends :
          length (goal_clause goal).ctx ≤ n → IsFirstProof above spec lemmas goal most None
      ends le = left_end IsOne all (subst (IsLeft IsOne all) (no_split_left n count le) left)

      module _ (lt : n < length (goal_clause goal).ctx) where
        next_left : IsLeft IsOne all (split n ∷ splits_from (n + 1) count)
        next_left = subst (IsLeft IsOne all) (next_split n count lt) left

        pub found_split :
            (found : Tried) (block : Block) → found ≡ Proof block →
            IsTried above spec lemmas goal most (split n) found →
            IsFirstProof above spec lemmas goal most (Some block.steps)
        found_split found block e h =
            found_item IsOne all (splits_from (n + 1) count) (split n) block.steps next_left
            (subst (IsFrom (split n)) e h)

        left_by : HasNone (IsProof above spec lemmas goal most) (split n) → AreLeft (n + 1)
        left_by none = left_item IsOne all (splits_from (n + 1) count) (split n) next_left none

        pub later_left :
            (found : Tried) (first : Option Step) → found ≡ Not first →
            IsTried above spec lemmas goal most (split n) found → AreLeft (n + 1)
        later_left found first e h = left_by (subst (IsFrom (split n)) e h).0

        -- the split is the same start as no split, which has no proof
        pub same_left :
            OneAnswer above → IsWellSorted spec → (found : Tried) (first : Option Step) →
            found ≡ Not first → IsTried above spec lemmas goal most no_split found →
            (same : Option VarId) → same ≡ Some (record { 0 = n }) →
            IfSome same (IsCoverOf spec (goal_clause goal) first) → AreLeft (n + 1)
        same_left answer fine found first e h same is covers =
            let cause = subst (IsFrom no_split) e h in
            let cover : IsCoverOf spec (goal_clause goal) first (record { 0 = n }) =
            subst (λ o. IfSome o (IsCoverOf spec (goal_clause goal) first)) is covers in
            let begins =
            subst (BeginsWith above spec lemmas no_split (goal_clause goal)) cover.2 cause.1 in
            left_by
            (λ steps p.
            cause.0 steps
            (record {
              routine =
                  from_split above answer spec fine lemmas (goal_clause goal) n cover.0 cover.1
                  begins.0 begins.1 begins.2 steps p.routine;
              few = p.few;
              short = p.short;
              proves = p.proves;
            }))
