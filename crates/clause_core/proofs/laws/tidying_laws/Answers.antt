use Rattle.clause_core.proofs.Numbering.{is_tidied, stays}
use Rattle.clause_core.proofs.TidiedFails.{keeps_failing}
use Rattle.clause_core.proofs.TidiedLimits.{tidied_within}
use Rattle.clause_core.proofs.TidiedSorts.{keeps_sorts}
use Rattle.clause_core.proofs.laws.tidying_laws.Goals as goal

pub returns : goal.returns
returns c = record {
  is_tidied = is_tidied;
  stays = stays;
  keeps_limits = tidied_within;
  keeps_sorts = keeps_sorts;
  keeps_failing = keeps_failing;
}
