-- No symbol of a pattern's spine is missing in its instance.
use Rattle.std.proofs.Common.{◌≡◌, subst}
use Rattle.fitting_lists.specs.Spines.{spine_of, missing_in}
use Rattle.fitting_lists.proofs.FittingSpines.{none_missing}
use Rattle.fitting_lists.proofs.laws.nothing_is_missing.Goals as goal

pub returns : goal.returns
returns c =
    λ list p t is. subst (λ u. missing_in (spine_of p) u ≡ 0) is (none_missing list p)
