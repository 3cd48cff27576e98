-- Two clauses compare in one way.
use Rattle.std.proofs.Common.{◌≡◌, List, [], IsPermutation, refl}
use Rattle.term_core.specs.Tree.{Tree}
use Rattle.term_core.proofs.SameTrees.{same_tree_or_not}
use Rattle.clause_core.specs.declared.clauses.Relation.{Relation}
use Rattle.clause_core.specs.declared.clauses.Relation.TheVariants.{Less, Same, Neither}
use Rattle.clause_core.specs.Clauses.{sides}
use Rattle.clause_core.specs.Multisets.{Exceeds}
use Rattle.clause_core.specs.Comparing.{MultisetsCompare}
use Rattle.clause_core.specs.ClauseLaws.{OneRelation}
use Rattle.clause_core.proofs.Multisets.{all_cancel, something_left}

module _ (above : Tree → Tree → Type 0) where
  not_both : (xs ys : List Tree) → IsPermutation xs ys → Exceeds above xs ys → ⊥
  not_both xs ys p e = something_left same_tree_or_not xs ys [] [] (all_cancel xs ys p) above e refl

  one : (xs ys : List Tree) (r q : Relation) → MultisetsCompare above xs ys r → MultisetsCompare above xs ys q → r ≡ q
  one xs ys Same Same a b = refl
  one xs ys Less Less a b = refl
  one xs ys Neither Neither a b = refl
  one xs ys Same Less a b = absurd (not_both xs ys a b)
  one xs ys Less Same a b = absurd (not_both xs ys b a)
  one xs ys Same Neither a b = absurd (b.0 a)
  one xs ys Neither Same a b = absurd (a.0 b)
  one xs ys Less Neither a b = absurd (b.1 a)
  one xs ys Neither Less a b = absurd (a.1 b)

  pub one_relation : OneRelation above
  one_relation c d r q a b = one (sides c) (sides d) r q a b
