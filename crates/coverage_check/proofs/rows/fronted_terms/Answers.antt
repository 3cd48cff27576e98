use Rattle.coverage_check.proofs.Fronts.{row_made}
use Rattle.coverage_check.proofs.rows.fronted_terms.Goals as goal

pub returns : goal.returns
returns c =
    row_made c.args.column c.args.patterns.now c.index-patterns-column.result c.in_ok-made.made c.push.new.self
    c.extend.new.self c.extend-2.new.self c.requires c.index-patterns-column.is c.in_ok-made.ensures
    c.in_ok-push.ensures c.in_ok-extend.ensures c.in_ok-extend-2.ensures
