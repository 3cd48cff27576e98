use Rattle.report_reader.proofs.NumberReads.{number_found}
use Rattle.report_reader.proofs.first_lines.number_behind.Goals as goal

pub returns : goal.returns
returns c = number_found c.args.sign.now c.args.words.now c.in_ok-after.field-0.now c.in_ok-after.ensures
    c.next_number.result c.next_number.ensures
