-- What holds of all raw specifications.
use Rattle.std.specs.Prelude.{◌≡◌, ℕ, List}
use Rattle.term_core.specs.Tree.{Tree, tree_size}
use Rattle.spec_core.specs.declared.records.Spec.{Spec}
use Rattle.spec_core.specs.Sig.{Sig}
use Rattle.spec_core.specs.WellSorted.{IsWellSorted}
use Rattle.spec_core.specs.RuleSizes.{RulesAreWithin}
use Rattle.spec_grammar.specs.RawTree.{RawTree}
use Rattle.spec_grammar.specs.Sizes.{words, HasFewWords}
use Rattle.spec_grammar.specs.KeepsLimits.{KeepsLimits}
use Rattle.spec_grammar.specs.declared.raw.RawSpec.{RawSpec}
use Rattle.sort_check.specs.Terms.{TermStands}
use Rattle.sort_check.specs.StandsFor.{IsNumbered, StandsFor, TermStandsFor}
use Rattle.sort_check.specs.FirstFault.{HasNoFault, HasFirstFault, TermHasFirstFault}
use Rattle.sort_check.specs.declared.faults.SortKind.{SortKind}

-- a raw specification has one numbering at most, and so stands for one specification at most
pub record OneSpecification : Type 0 where
  pub numbering : (raw : RawSpec) (s t : Spec) → IsNumbered raw s → IsNumbered raw t → s ≡ t
  pub one : (raw : RawSpec) (s t : Spec) → StandsFor raw s → StandsFor raw t → s ≡ t

-- what has a fault stands for nothing: a raw specification, and a raw term over a signature
pub record FaultyStandsForNone : Type 0 where
  pub specification : (raw : RawSpec) (at : ℕ) (kind : SortKind) → HasFirstFault raw at kind
      → (spec : Spec) → ¬ (StandsFor raw spec)
  pub term : (sig : Sig) (raw : RawTree) (at : ℕ) (kind : SortKind)
      → TermHasFirstFault sig raw at kind → (t : Tree) → ¬ (TermStandsFor sig raw t)

-- a raw specification has one first fault at most, and none if no test finds one
pub record OneFirstFault : Type 0 where
  pub one : (raw : RawSpec) (at other : ℕ) (kind another : SortKind) → HasFirstFault raw at kind
      → HasFirstFault raw other another → (at ≡ other) × (kind ≡ another)
  pub none : (raw : RawSpec) (at : ℕ) (kind : SortKind) → HasNoFault raw → HasFirstFault raw at kind
      → ⊥

-- what a raw term stands for has as many symbols and variables as the raw term has words
abbrev pub KeepsSizes : Type 0
KeepsSizes = (sig : Sig) (names : List (List ℕ)) (raw : RawTree) (t : Tree)
    → TermStands sig names raw t → tree_size t ≡ words raw

-- if no raw term has more than n words, no term of a rule has more than n symbols and variables
abbrev pub NumberingKeepsSizes : Type 0
NumberingKeepsSizes = (n : ℕ) (raw : RawSpec) (spec : Spec) → HasFewWords n raw
    → IsNumbered raw spec → RulesAreWithin n spec

-- what a raw specification within the limits stands for is well sorted
abbrev pub StandsWellSorted : Type 0
StandsWellSorted =
    (raw : RawSpec) (spec : Spec) → KeepsLimits raw → StandsFor raw spec → IsWellSorted spec
