-- Accepted reports are true, by what descends for an order.
use Rattle.std.specs.Prelude.{ℕ}
use Rattle.term_core.specs.Tree.{Tree}
use Rattle.term_order.specs.Laws.{HasRanks}
use Rattle.descent.specs.Descent.{StepsDescend}
use Rattle.descent.specs.OneValue.{ValuesRankLower}
use Rattle.descent.specs.SortedChildren.{ChildrenAreSorted}
use Rattle.soundness.specs.AcceptedAreTrue.{AcceptedAreTrue}
use Rattle.soundness.proofs.TrueClaims.{all_claims_true}

module _ (above : Tree → Tree → Type 0) (rank : ℕ → ℕ → Tree → ℕ → Type 0) (laws : HasRanks above rank) where
  pub accepted_true :
      ValuesRankLower above rank → StepsDescend above rank → ChildrenAreSorted above → AcceptedAreTrue above
  accepted_true lower descend keep spec report fine admitted accepted =
      all_claims_true above rank laws descend keep spec fine admitted
      (λ t s sorted. let v = lower spec fine admitted t s sorted in (v.value, v.cost, v.gives))
      report.steps report.claims accepted
