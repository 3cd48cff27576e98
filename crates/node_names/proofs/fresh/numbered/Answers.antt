use Rattle.std.proofs.Common.{rules}
use Rattle.std.specs.Fmt.{decimal}
use Rattle.node_names.proofs.Marks.{decimal_marked}
use Rattle.node_names.proofs.fresh.numbered.Goals as goal

pub returns : goal.returns
returns c = (decimal c.args.number, search rules, decimal_marked c.args.number c.ranges.number.fits)
