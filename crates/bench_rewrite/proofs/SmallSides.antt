-- The sides of a clause within the limits are small.
use Rattle.std.proofs.Common.{◌≤◌, List, [], ◌∷◌, inl, inr, ap, arith}
use Rattle.term_core.specs.Tree.{Tree, trees_of, tree_size, sizes}
use Rattle.term_core.proofs.Members.{In, in_contained}
use Rattle.clause_core.specs.declared.clauses.Clause.{Clause}
use Rattle.clause_core.specs.Clauses.{sides}
use Rattle.clause_core.specs.Limits.{IsWithin}
use Rattle.clause_core.specs.Comparing.{SidesAreTestable}

size_in : (ts : List Tree) (t : Tree) → In t ts → tree_size t ≤ sizes (trees_of ts)
size_in [] t i = absurd i
size_in (s ∷ ts) t (inl e) = omega (arith, ap tree_size e)
size_in (s ∷ ts) t (inr i) = omega (arith, size_in ts t i)

pub testable : (c : Clause) → IsWithin c → SidesAreTestable c
testable c h t i = omega (arith, size_in (sides c) t (in_contained (sides c) t i), h.size)
