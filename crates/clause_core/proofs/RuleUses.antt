-- Uses of the rules of an admitted specification rank lower, since no term of theirs is deeper than 100.
use Rattle.std.proofs.Common.{ℕ, List, [], ◌∷◌, arith}
use Rattle.std.specs.List.{AllByRecursion}
use Rattle.term_core.specs.Tree.{Tree}
use Rattle.spec_core.specs.declared.records.Guard.{Guard}
use Rattle.spec_core.specs.declared.records.Spec.{Spec}
use Rattle.spec_core.specs.Gives.{boolean}
use Rattle.spec_core.specs.WellSorted.{IsShallow}
use Rattle.term_order.specs.Laws.{HasRanks}
use Rattle.clause_core.specs.Admitted.{GuardIsOrdered}
use Rattle.clause_core.specs.RuleUses.{InstancesRankLower, GuardRanksLower, RulesRankLower}

module _ (above : Tree → Tree → Type 0) (rank : ℕ → ℕ → Tree → ℕ → Type 0) (laws : HasRanks above rank) where
  pub instances_rank_lower : (spec : Spec) (t s : Tree) → above t s → IsShallow s → InstancesRankLower rank spec t s
  instances_rank_lower spec t s a d xs c r q g h = laws.in_contexts _ _ t s xs c r q (omega arith) a d g h

  constant_is_shallow : (g : Guard) → IsShallow (boolean g.wanted)
  constant_is_shallow g = omega arith

  guards_rank_lower :
      (spec : Spec) (left : Tree) (gs : List Guard) → AllByRecursion (GuardIsOrdered above left) gs →
      AllByRecursion (λ (g : Guard). IsShallow g.test) gs → AllByRecursion (GuardRanksLower rank spec left) gs
  guards_rank_lower spec left [] a d = tt
  guards_rank_lower spec left (g ∷ gs) a d = (
    (
      instances_rank_lower spec left g.test a.0.0 d.0,
      instances_rank_lower spec left (boolean g.wanted) a.0.1 (constant_is_shallow g),
    ),
    guards_rank_lower spec left gs a.1 d.1,
  )

  pub rules_rank_lower : RulesRankLower above rank
  rules_rank_lower spec fine admitted k rule at =
      let ordered = admitted.ordered k rule at in
      let sorted = fine.rules k rule at in
      record {
        right = instances_rank_lower spec rule.left rule.right ordered.right sorted.shallow_right;
        guards = guards_rank_lower spec rule.left rule.guards ordered.guards sorted.shallow_guards;
      }
