-- What a match over places finds.
use Rattle.std.specs.Prelude.{◌≡◌, ℕ, List, ◌++◌, Bool, true, false, Some, drop, length, slice_get}
use Rattle.term_core.specs.Tree.{Tree, var, app, instance, trees_of}
use Rattle.spec_core.specs.declared.records.Rule.{Rule}
use Rattle.value_bank.specs.Cells.{Cell, AreTerms}
use Rattle.rule_code.specs.declared.tests.Test.{Test}
use Rattle.rule_code.specs.declared.tests.Repeat.{Repeat}
use Rattle.rule_code.specs.declared.left_sides.LeftSide.{LeftSide}
use Rattle.rule_code.specs.Matching.{Opens, Unpacks, Fails, HaveHomes}
use Rattle.rule_code.specs.Homes.{IsLeftSide}

-- the slots of each repeat have one value
abbrev pub AreSame : List Tree → List Repeat → Type 0
AreSame grown repeats = (k : ℕ) (r : Repeat) → slice_get repeats k ≡ Some r
    → instance grown (var r.first) ≡ instance grown (var r.again)

-- places are added after the old ones
abbrev pub Extends : List ℕ → List ℕ → Type 0
Extends old new = (more : List ℕ) × (new ≡ old ++ more)

module _ (cells : List Cell) where
  -- the slots grow to these
  abbrev pub Grows : ℕ → List Tree → List Test → List ℕ → List Tree → Type 0
  Grows base env tests new grown =
      AreTerms cells (drop base new) (trees_of grown) × Unpacks env tests grown

  abbrev pub PassBy : ℕ → List Tree → List Test → List ℕ → Bool → Type 0
  PassBy base env tests new true = (grown : List Tree) × Grows base env tests new grown
  PassBy base env tests new false = Fails env tests

  -- the tests of the slots that begin at `base` pass, or one of them fails
  pub record ArePassed (base : ℕ) (tests : List Test) (old new : List ℕ) (yes : Bool) : Type 0 where
    pub extends : Extends old new
    pub by : (env pats all : List Tree) → Opens pats 0 tests all
        → AreTerms cells (drop base old) (trees_of env) → length env ≡ length pats
        → PassBy base env tests new yes

  -- the left side is the call with the values, and its slots are there; or no entries make it that call
  abbrev pub MatchBy : (left : LeftSide) (base : ℕ) (new : List ℕ) (rule : Rule)
      → IsLeftSide rule left → List Tree → Bool → Type 0
  MatchBy left base new rule side env true = (grown : List Tree)
      × Grows base env left.tests.items new grown × HaveHomes side.all left.homes.items grown
  MatchBy left base new rule side env false =
      (xs : List Tree) → instance xs rule.left ≡ app side.function (trees_of env) → ⊥

  pub record Fits (left : LeftSide) (base : ℕ) (old new : List ℕ) (yes : Bool) : Type 0 where
    pub extends : Extends old new
    pub by : (rule : Rule) (side : IsLeftSide rule left) (env : List Tree)
        → AreTerms cells (drop base old) (trees_of env) → length env ≡ length side.patterns
        → MatchBy left base new rule side env yes

  abbrev pub StaysBy : List ℕ → List ℕ → Bool → Type 0
  StaysBy old new true = Unit {0}
  StaysBy old new false = new ≡ old

  -- the same, if nothing is added unless it matches
  pub record Tells (left : LeftSide) (base : ℕ) (old new : List ℕ) (yes : Bool) : Type 0 where
    pub fits : Fits left base old new yes
    pub stays : StaysBy old new yes
