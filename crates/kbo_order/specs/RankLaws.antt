-- The laws of ranks, for the ordering by weights.
use Rattle.std.proofs.Common.{ℕ, ◌≤◌, ◌<◌, List}
use Rattle.term_core.specs.Tree.{Tree, Trees, app, instance}
use Rattle.term_core.specs.Contexts.{Context, hole, around, plug}
use Rattle.term_core.specs.Ground.{IsGroundIn}
use Rattle.longest_chains.proofs.Accessible.{Accessible, fewer-below}
use Rattle.longest_chains.proofs.LongestChains.{longest-exists, longest-is-one, longest-falls}
use Rattle.term_order.specs.Laws.{HasRanks}
use Rattle.term_order.proofs.Instances.{ground-argument}
use Rattle.kbo_order.specs.Above.{AboveByWeight}
use Rattle.kbo_order.specs.Rank.{GroundAbove, IsRank}
use Rattle.kbo_order.specs.OrderLaws.{above-instance, above-part, in-context}
use Rattle.kbo_order.specs.LightTerms.{smaller-terms}
use Rattle.kbo_order.specs.AccessibleTerms.{each-way-ends}

module _ (w : ℕ → ℕ) (positive : (f : ℕ) → 1 ≤ w f) where
  some-rank : (n k : ℕ) (t : Tree) → IsGroundIn n t → (r : ℕ) × IsRank w n k t r
  some-rank n k t g =
      let ends : Accessible (GroundAbove w n) t = fewer-below (λ x y a. a.2) (each-way-ends w positive t) in
      longest-exists (GroundAbove w n) (IsGroundIn n) (λ x y p a. a.1) (smaller-terms w positive n) ends g

  on-arguments :
      (n k f : ℕ) (before after : Trees) (s : Tree) (r q : ℕ) →
      IsGroundIn n (app f (around before s after)) →
      IsRank w n k (app f (around before s after)) r → IsRank w n k s q → q < r
  on-arguments n k f before after s r q g =
      longest-falls (GroundAbove w n) (app f (around before s after)) s r q
      (g, ground-argument n before s after g.2, above-part w positive f before after hole s)

  in-contexts :
      (n k : ℕ) (t s : Tree) (xs : List Tree) (c : Context) (r q : ℕ) → AboveByWeight w t s →
      IsGroundIn n (plug c (instance xs t)) → IsGroundIn n (plug c (instance xs s)) →
      IsRank w n k (plug c (instance xs t)) r → IsRank w n k (plug c (instance xs s)) q → q < r
  in-contexts n k t s xs c r q p g h =
      longest-falls (GroundAbove w n) (plug c (instance xs t)) (plug c (instance xs s)) r q
      (g, h, in-context w positive c (instance xs t) (instance xs s) (above-instance w positive xs p))

  pub weight_order_ranks : HasRanks (AboveByWeight w) (IsRank w)
  weight_order_ranks =
      record {
        some_rank = λ n k t l g. some-rank n k t g;
        one_rank = λ n k t r q l g a b. longest-is-one (GroundAbove w n) t r q a b;
        on_arguments = λ n k f before after s r q l g. on-arguments n k f before after s r q g;
        in_contexts = λ n k t s xs c r q l p d g h. in-contexts n k t s xs c r q p g h;
      }
