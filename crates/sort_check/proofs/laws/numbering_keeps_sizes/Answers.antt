use Rattle.sort_check.proofs.RuleSizes.{rules_are_within}
use Rattle.sort_check.proofs.laws.numbering_keeps_sizes.Goals as goal

pub returns : goal.returns
returns c = rules_are_within
