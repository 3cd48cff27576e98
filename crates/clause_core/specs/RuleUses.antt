-- Uses of the rules of an admitted specification rank lower.
use Rattle.std.specs.Prelude.{◌≡◌, ℕ, ◌<◌, List, Some, slice_get}
use Rattle.std.specs.List.{AllByRecursion}
use Rattle.term_core.specs.Tree.{Tree, instance}
use Rattle.term_core.specs.Contexts.{Context, plug}
use Rattle.spec_core.specs.declared.records.Rule.{Rule}
use Rattle.spec_core.specs.declared.records.Guard.{Guard}
use Rattle.spec_core.specs.declared.records.Spec.{Spec}
use Rattle.spec_core.specs.Gives.{boolean}
use Rattle.spec_core.specs.WellSorted.{IsWellSorted}
use Rattle.clause_core.specs.Admitted.{IsAdmitted}
use Rattle.clause_core.specs.Ranks.{IsGround, HasRank}

module _ (rank : ℕ → ℕ → Tree → ℕ → Type 0) (spec : Spec) where
  -- in each ground context an instance of s ranks lower than that of t
  abbrev pub InstancesRankLower : Tree → Tree → Type 0
  InstancesRankLower t s =
      (xs : List Tree) (c : Context) (r q : ℕ) →
      IsGround spec (plug c (instance xs t)) → IsGround spec (plug c (instance xs s)) →
      HasRank rank spec (plug c (instance xs t)) r → HasRank rank spec (plug c (instance xs s)) q
      → q < r

  -- the test and the constant that it wants do so after the left side
  abbrev pub GuardRanksLower : Tree → Guard → Type 0
  GuardRanksLower left g =
      InstancesRankLower left g.test × InstancesRankLower left (boolean g.wanted)

  -- the right side does so after the left side, and each guard does
  pub record RuleRanksLower (rule : Rule) : Type 0 where
    pub right : InstancesRankLower rule.left rule.right
    pub guards : AllByRecursion (GuardRanksLower rule.left) rule.guards

abbrev pub RulesRankLower : (Tree → Tree → Type 0) → (ℕ → ℕ → Tree → ℕ → Type 0) → Type 0
RulesRankLower above rank =
    (spec : Spec) → IsWellSorted spec → IsAdmitted above spec → (k : ℕ) (rule : Rule)
    → slice_get spec.rules k ≡ Some rule → RuleRanksLower rank spec rule
