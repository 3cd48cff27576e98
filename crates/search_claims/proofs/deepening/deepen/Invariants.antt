use Rattle.std.proofs.Common.{ℕ, ◌<◌, ◌≤◌}
use Rattle.search_claims.specs.Deepening.{FindsNone}
use Rattle.search_claims.proofs.deepening.deepen.Given as goal

-- the searches to the depths so far find none
abbrev pub invariant-loop-depth : goal.invariant-loop-depth
invariant-loop-depth l = record {
  first : 1 ≤ l.depth;
  last : l.depth ≤ 9;
  none : (depth : ℕ) → 1 ≤ depth → depth < l.depth → FindsNone l.fn.bounds l.spec l.goal depth;
}
