-- The slots of a left side's variables.
use Rattle.std.specs.Prelude.{◌≡◌, ℕ, ◌<◌, ◌≤◌, ◌⊎◌, List, Some, length, slice_get}
use Rattle.term_core.specs.Tree.{Tree, var, app, trees_of}
use Rattle.spec_core.specs.declared.records.Rule.{Rule}
use Rattle.rule_code.specs.declared.tests.Repeat.{Repeat}
use Rattle.rule_code.specs.declared.left_sides.LeftSide.{LeftSide}
use Rattle.rule_code.specs.Matching.{Opens}

abbrev pub repeat : ℕ → ℕ → Repeat
repeat h s = record { first = h; again = s }

-- of the slots, which have these patterns, h is the first with this variable
pub record IsHome (all : List Tree) (n h : ℕ) : Type 0 where
  pub there : slice_get all h ≡ Some (var n)
  pub first : (j : ℕ) → j < h → slice_get all j ≡ Some (var n) → ⊥

-- the first slot of each of this many variables
pub record AreHomes (all : List Tree) (count : ℕ) (homes : List ℕ) : Type 0 where
  pub counted : length homes ≡ count
  pub each : (n h : ℕ) → slice_get homes n ≡ Some h → IsHome all n h

-- each slot of a variable that isn't its first one, with that one
pub record AreRepeats (all : List Tree) (homes : List ℕ) (repeats : List Repeat) : Type 0 where
  pub each : (s n h : ℕ) → slice_get all s ≡ Some (var n) → slice_get homes n ≡ Some h → (h ≡ s)
      ⊎ ((k : ℕ) × (slice_get repeats k ≡ Some (repeat h s)))
  pub right : (k : ℕ) (r : Repeat) → slice_get repeats k ≡ Some r → (n : ℕ)
      × (slice_get all r.first ≡ Some (var n)) × (slice_get all r.again ≡ Some (var n))

-- the tests of a left side, whose variables have these slots
pub record IsLeftSide (rule : Rule) (left : LeftSide) : Type 0 where
  pub function : ℕ
  pub patterns : List Tree
  pub all : List Tree
  pub is : rule.left ≡ app function (trees_of patterns)
  pub opens : Opens patterns 0 left.tests.items all
  pub homes : AreHomes all (length rule.vars) left.homes.items
  pub repeats : AreRepeats all left.homes.items left.repeats.items
  pub variables : (s n : ℕ) → slice_get all s ≡ Some (var n) → n < length rule.vars
  pub width : left.width ≡ length all

-- the variables of the rule with this number have these slots, and n slots are as many as its left side takes
pub record AreOwnHomes (rules : List Rule) (number n : ℕ) (homes : List ℕ) : Type 0 where
  pub rule : Rule
  pub left : LeftSide
  pub listed : slice_get rules number ≡ Some rule
  pub side : IsLeftSide rule left
  pub are : homes ≡ left.homes.items
  pub room : left.width ≤ n
