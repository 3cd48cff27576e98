-- An instance of the pattern has such a spine.
use Rattle.std.proofs.Common.{subst}
use Rattle.fitting_lists.specs.Spines.{spine_of, MayBecome}
use Rattle.fitting_lists.proofs.FittingSpines.{spines_fit}
use Rattle.fitting_lists.proofs.laws.spines_may_become.Goals as goal

pub returns : goal.returns
returns c =
    λ list p t is. subst (λ u. MayBecome (spine_of p) (spine_of u)) is (spines_fit list p)
