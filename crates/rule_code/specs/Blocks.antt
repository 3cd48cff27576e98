-- Blocks of code: steps and an end, one after the other.
use Rattle.std.specs.Prelude.{◌≡◌, ℕ, ◌≤◌, List, [], ◌∷◌, ◌++◌, Some, length, slice_get}
use Rattle.term_core.specs.Tree.{Tree}
use Rattle.spec_core.specs.declared.records.Rule.{Rule}
use Rattle.spec_core.specs.Sig.{Sig}
use Rattle.rule_code.specs.declared.left_sides.LeftSide.{LeftSide}
use Rattle.rule_code.specs.Code.{Step, End, decide}
use Rattle.rule_code.specs.Instructions.{Instruction, ends, doing, IsCodeAt}
use Rattle.rule_code.specs.Compiled.{Codes, IsNext}

-- the old code stays, and more may come after it
abbrev pub AddsCode : List Instruction → List Instruction → Type 0
AddsCode old new = (more : List Instruction) × (new ≡ old ++ more)

abbrev pub block : List Step → End → List Instruction
block steps end = doing steps ++ ends end ∷ []

-- a block of which this holds is added
abbrev pub AddsBlock : List Instruction → List Instruction → (List Step → End → Type 0) → Type 0
AddsBlock old new P =
    (steps : List Step) × (end : End) × (new ≡ old ++ block steps end) × P steps end

-- the code of a test that the rule with this number asks after k others
abbrev pub IsTestOf : Sig → LeftSide → Tree → ℕ → ℕ → List Step → End → Type 0
IsTestOf sig left test number k steps end = (s : ℕ) × (taken : ℕ)
    × Codes sig left.homes.items test left.width steps s taken
    × (end ≡ decide s number k left.homes.items)

-- the code that follows if the first k guards hold begins at the k-th of these places
pub record HasBlock (sig : Sig) (code : List Instruction) (number : ℕ) (rule : Rule)
    (left : LeftSide) (begins : List ℕ) (k : ℕ) : Type 0 where
  pub place : ℕ
  pub steps : List Step
  pub end : End
  pub begin : slice_get begins k ≡ Some place
  pub there : IsCodeAt code place steps end
  pub next : IsNext sig left.homes.items number rule k left.width steps end

-- it does so for any number of guards that the rule has
abbrev pub HaveBlocks : Sig → List Instruction → ℕ → Rule → LeftSide → List ℕ → Type 0
HaveBlocks sig code number rule left begins =
    (k : ℕ) → k ≤ length rule.guards → HasBlock sig code number rule left begins k
