-- Laws of the definitions.
use Rattle.std.specs.Prelude.{◌≡◌, ℕ, List}
use Rattle.term_core.specs.Tree.{Tree, Trees}
use Rattle.spec_core.specs.declared.records.Rule.{Rule}
use Rattle.spec_core.specs.declared.records.Spec.{Spec}
use Rattle.spec_core.specs.Sig.{Sig}
use Rattle.spec_core.specs.WellSorted.{RuleIsSorted, IsWellSorted}
use Rattle.overlap_check.specs.declared.answers.Linear.{Linear}
use Rattle.spec_core.specs.Overlap.{NoOverlap}
use Rattle.overlap_check.specs.declared.answers.Overlap.{Overlap}
use Rattle.overlap_check.specs.declared.answers.Overlap.TheVariants.{Both}
use Rattle.overlap_check.specs.Repetition.{IsLinearity}
use Rattle.overlap_check.specs.NamedValues.{NamesOverlap}
use Rattle.overlap_check.specs.Answers.{IsOverlap}

-- at most one list of values is named for two rules, whichever most general unifier names it
abbrev pub OneNaming : Type 0
OneNaming =
    (sig : Sig) (r q : Rule) (vs ws : Trees) →
    RuleIsSorted sig r → RuleIsSorted sig q →
    NamesOverlap sig r q vs → NamesOverlap sig r q ws → vs ≡ ws

-- a specification has at most one answer about linear left sides
abbrev pub OneLinearity : Type 0
OneLinearity = (spec : Spec) (a b : Linear) → IsLinearity spec a → IsLinearity spec b → a ≡ b

-- and a well sorted one at most one about overlaps
abbrev pub OneOverlap : Type 0
OneOverlap =
    (spec : Spec) (a b : Overlap) →
    IsWellSorted spec → IsOverlap spec a → IsOverlap spec b → a ≡ b

-- if two rules are named, some values match two different left sides
abbrev pub BothOverlap : Type 0
BothOverlap =
    (spec : Spec) (first second : ℕ) (values : List Tree) →
    IsOverlap spec (Both first second values) → NoOverlap spec → ⊥
