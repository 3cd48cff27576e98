-- How far tasks may go.
use Rattle.std.specs.Prelude.{◌≤◌}
use Rattle.search_claims.specs.Laws.{BoundsStand}
use Rattle.command_line.specs.declared.bounds.ProofBounds.{ProofBounds}
use Rattle.command_line.specs.Tasks.{Task, checking, refuting, proving, evaluating, replaying, upgrading}
use Rattle.command_line.specs.Tasks.{trimming, carrying_out}

-- as far as a search for counterexamples and then for proofs may go
pub record AreWithin (bounds : ProofBounds) : Type 0 where
  pub search : BoundsStand bounds.search
  pub plain : bounds.plain ≤ 1000
  pub nodes : bounds.nodes ≤ 10000

-- the bounds of the task are so
abbrev pub TaskIsWithin : Task → Type 0
TaskIsWithin (refuting search) = BoundsStand search
TaskIsWithin (proving bounds) = AreWithin bounds
TaskIsWithin (evaluating term steps) = Unit {0}
TaskIsWithin (checking print) = Unit {0}
TaskIsWithin (replaying report) = Unit {0}
TaskIsWithin upgrading = Unit {0}
TaskIsWithin (trimming report) = Unit {0}
TaskIsWithin (carrying_out path) = Unit {0}
