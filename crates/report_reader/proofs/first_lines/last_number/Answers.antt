use Rattle.std.proofs.Common.{[]}
use Rattle.proof_script.proofs.LineParts.{not_empty}
use Rattle.report_reader.proofs.NumberReads.{one_number}
use Rattle.report_reader.proofs.first_lines.last_number.Goals as goal

pub returns-else-is_empty : goal.returns-else-is_empty
returns-else-is_empty c =
    let w = c.in_ok-number in
    λ n k. not_empty w.rest.now c.is_empty.result c.is_empty.ensures c.if-is_empty.false
    (one_number c.args.sign.now c.args.words.now w.number w.rest.now n [] w.ensures k).1
