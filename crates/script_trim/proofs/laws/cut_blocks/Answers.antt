use Rattle.std.specs.Prelude.{take}
use Rattle.clause_core.specs.Tidied.{goal_clause}
use Rattle.acceptance.specs.Claims.{ProvedBefore}
use Rattle.script_trim.proofs.CutBlocks.{cut_makes, cut_nodes, cut_finished}
use Rattle.script_trim.proofs.QuickTests.{finished}
use Rattle.script_trim.proofs.laws.cut_blocks.Goals as goal

pub returns : goal.returns
returns g c =
    let above = g.O.TermOrder.above c.args.order.now in
    let one = c.one_relation.ensures in
    record {
      makes = λ spec report number i step rest claim cut closed fine a within none closes. (
          let n = finished above one spec fine report a number claim in
          cut_makes above spec (ProvedBefore spec (take number report.claims)) (goal_clause claim.goal) claim.steps
          claim.made claim.makes n i within step rest cut closed none closes
          );
      nodes = λ spec report number i step rest claim cut closed fine a within none. (
          let n = finished above one spec fine report a number claim in (
            cut_nodes above spec (ProvedBefore spec (take number report.claims)) (goal_clause claim.goal) claim.steps
                claim.made claim.makes n i within step rest cut closed none,
            cut_finished above spec (ProvedBefore spec (take number report.claims)) (goal_clause claim.goal)
                claim.steps claim.made claim.makes n i within step rest cut closed none,
          )
          );
    }
