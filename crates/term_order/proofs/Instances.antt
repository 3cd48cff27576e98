-- Lists of instances, and arguments of ground terms.
use Rattle.std.proofs.Common.{◌≡◌, ℕ, List, length, refl, arith}
use Rattle.term_core.specs.Tree.{Tree, Trees, none, some, list_of, instances}
use Rattle.term_core.specs.Contexts.{around}
use Rattle.term_core.specs.Ground.{IsGroundIn, AreGroundIn}

pub length-instances :
    (xs : List Tree) (ts : Trees) → length (list_of (instances xs ts)) ≡ length (list_of ts)
length-instances xs none = refl
length-instances xs (some t ts) = omega (arith, length-instances xs ts)

-- one of some ground terms is ground
pub ground-argument :
    (n : ℕ) (before : Trees) (s : Tree) (after : Trees) → AreGroundIn n (around before s after) →
    IsGroundIn n s
ground-argument n none s after g = g.0
ground-argument n (some b before) s after g = ground-argument n before s after g.1
