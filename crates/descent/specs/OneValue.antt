-- Every sorted ground term of an admitted specification has one value, which ranks no higher in any
-- context.
use Rattle.std.specs.Prelude.{◌≡◌, ℕ, ◌≤◌, []}
use Rattle.term_core.specs.Tree.{Tree}
use Rattle.term_core.specs.Contexts.{Context, plug}
use Rattle.term_core.specs.declared.ids.SortId.{SortId}
use Rattle.spec_core.specs.declared.records.Spec.{Spec}
use Rattle.spec_core.specs.Sorts.{Sorted, IsValue}
use Rattle.spec_core.specs.Gives.{Gives}
use Rattle.spec_core.specs.WellSorted.{IsWellSorted}
use Rattle.clause_core.specs.Admitted.{IsAdmitted}
use Rattle.clause_core.specs.Ranks.{IsGround, HasRank}

-- in each ground context the second term ranks no higher than the first
abbrev pub RanksNoHigher : (ℕ → ℕ → Tree → ℕ → Type 0) → Spec → Tree → Tree → Type 0
RanksNoHigher rank spec t v =
    (c : Context) (r q : ℕ) → IsGround spec (plug c t) →
    HasRank rank spec (plug c t) r → HasRank rank spec (plug c v) q → q ≤ r

-- the term gives a value of its sort at a cost, and gives nothing else; the value ranks no higher
pub record HasOneValue
    (rank : ℕ → ℕ → Tree → ℕ → Type 0) (spec : Spec) (t : Tree) (s : SortId) : Type 0 where
  pub value : Tree
  pub cost : ℕ
  pub gives : Gives spec t value cost
  pub is_value : IsValue spec.sig s value
  pub alone : (w : Tree) (m : ℕ) → Gives spec t w m → (value ≡ w) × (cost ≡ m)
  pub lower : RanksNoHigher rank spec t value

-- each term of a sort without variables has one value, if the specification is admitted
abbrev pub ValuesRankLower : (Tree → Tree → Type 0) → (ℕ → ℕ → Tree → ℕ → Type 0) → Type 0
ValuesRankLower above rank =
    (spec : Spec) → IsWellSorted spec → IsAdmitted above spec →
    (t : Tree) (s : SortId) → Sorted spec.sig [] t s → HasOneValue rank spec t s
