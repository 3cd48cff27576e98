-- Which specifications have reports.
use Rattle.std.specs.Prelude.{◌≤◌, ◌<◌, length}
use Rattle.spec_core.specs.declared.records.Spec.{Spec}
use Rattle.spec_core.specs.WellSorted.{IsWellSorted}
use Rattle.spec_order.specs.Orders.{above_of}
use Rattle.clause_core.specs.Admitted.{IsAdmitted}
use Rattle.search_claims.specs.Names.{NamesStand}

-- its own order admits the specification, a report may have its names, and it has no more rules and goals
-- than a text declares
pub record HasReports (spec : Spec) : Type 0 where
  pub fine : IsWellSorted spec
  pub admitted : IsAdmitted (above_of spec) spec
  pub names : NamesStand spec
  pub few_rules : length spec.rules < 9999
  pub few_goals : length spec.goals ≤ 200
