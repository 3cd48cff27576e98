-- A tree of numbered nodes, drawn from the root down.
use Rattle.std.specs.Prelude.{ℕ, zero, suc, ◌+◌, List, [], ◌++◌, Bool, true, false}
use Rattle.page_core.specs.declared.parts.Part.TheVariants.{Case}
use Rattle.page_core.specs.Events.{Event, within}

-- What is drawn of each node, and over each of its cases; the number of its first child, how many
-- children it has, and whether these are drawn as cases. The other children have the next numbers.
pub record Outline : Type 0 where
  pub own : ℕ → List Event
  pub heading : ℕ → ℕ → List Event
  pub first : ℕ → ℕ
  pub count : ℕ → ℕ
  pub has_cases : ℕ → Bool

module _ (o : Outline) where
  -- some cases of node k, from case i on: the heading of each, and what is drawn of its child
  abbrev pub cases : (ℕ → List Event) → ℕ → ℕ → ℕ → List Event
  cases draw k i zero = []
  cases draw k i (suc n) =
      within Case (o.heading k i ++ draw (o.first k + i)) ++ cases draw k (suc i) n

  -- what comes after node k: its cases, or what is drawn of its only child
  abbrev pub below : (ℕ → List Event) → ℕ → Bool → ℕ → List Event
  below draw k true n = cases draw k 0 n
  below draw k false zero = []
  below draw k false (suc n) = draw (o.first k)

  -- the tree whose root is node k, at most this many nodes deep
  abbrev pub tree : ℕ → ℕ → List Event
  tree zero k = []
  tree (suc n) k = o.own k ++ below (tree n) k (o.has_cases k) (o.count k)
