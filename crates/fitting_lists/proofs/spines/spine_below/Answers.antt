-- What ends the spine ends the walk.
use Rattle.std.proofs.Common.{◌∙◌}
use Rattle.term_core.specs.Tree.{trees_of}
use Rattle.fitting_lists.specs.Spines.{last_run}
use Rattle.fitting_lists.proofs.FittingSpines.{all_counted}
use Rattle.fitting_lists.proofs.spines.spine_below.Goals as goal

pub returns-in-Err : goal.returns-in-Err
returns-in-Err c =
    let f = c.args.symbol.0 in
    all_counted f c.along.length (last_run f (trees_of c.along.rest.now)) c.in-Err.end c.along.invariant.in_range
    c.in-Err.ensures.run
    ∙ c.along.invariant.counts
