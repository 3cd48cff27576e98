use Rattle.std.proofs.Common.{◌⊎◌, ℕ, ◌<◌, ◌≤◌, length, refl, inl, inr, arith, below_more}
use Rattle.std.proofs.lemmas.Option.{slice_get_past}
use Rattle.acceptance.specs.Strict.{NodeIsAllowed}
use Rattle.acceptance.proofs.Links.{allowed_past}
use Rattle.acceptance.proofs.allowing.allowed.Goals as goal

before_or_behind : (k n : ℕ) → (k < n) ⊎ (n ≤ k)
before_or_behind k n = grind arith

pub loop-node-preserved : goal.loop-node-preserved
loop-node-preserved c = below_more (λ j. NodeIsAllowed c.args.made.now j) _ c.loop-node.invariant
    (c.if-not-node_is_allowed.ensures.0 refl)

pub returns : goal.returns
returns c k = elim (before_or_behind k c.loop-node.node) [
  | inl l ↦ c.loop-node.invariant k l
  | inr l ↦ (
      let end : length c.args.made.now ≤ k = omega arith in
      allowed_past c.args.made.now k (slice_get_past c.args.made.now k end)
      )
]
