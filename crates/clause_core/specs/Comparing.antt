-- Comparing clauses by an order on terms.
use Rattle.std.specs.Prelude.{◌≤◌, List, IsPermutation, Contains}
use Rattle.term_core.specs.Tree.{Tree, tree_size}
use Rattle.clause_core.specs.declared.clauses.Clause.{Clause}
use Rattle.clause_core.specs.declared.clauses.Relation.{Relation}
use Rattle.clause_core.specs.declared.clauses.Relation.TheVariants.{Less, Same, Neither}
use Rattle.clause_core.specs.Clauses.{sides}
use Rattle.clause_core.specs.Multisets.{Exceeds}

-- comparing the first multiset with the second: Same if they are equal, Less if the first is
-- greater, else Neither
abbrev pub MultisetsCompare : (Tree → Tree → Type 0) → List Tree → List Tree → Relation → Type 0
MultisetsCompare above xs ys Same = IsPermutation xs ys
MultisetsCompare above xs ys Less = Exceeds above xs ys
MultisetsCompare above xs ys Neither =
    (IsPermutation xs ys → ⊥) × (Exceeds above xs ys → ⊥)

-- comparing the first clause with the second, by the multisets of all sides
abbrev pub Compares : (Tree → Tree → Type 0) → Clause → Clause → Relation → Type 0
Compares above c d relation = MultisetsCompare above (sides c) (sides d) relation

-- the order's test finds what is above in terms of this size
abbrev pub IsTestable : Tree → Type 0
IsTestable t = tree_size t ≤ 4294967295

abbrev pub AreTestable : List Tree → Type 0
AreTestable ts = (t : Tree) → Contains ts t → IsTestable t

abbrev pub SidesAreTestable : Clause → Type 0
SidesAreTestable c = AreTestable (sides c)
