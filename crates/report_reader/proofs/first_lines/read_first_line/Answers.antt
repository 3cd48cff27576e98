use Rattle.std.proofs.Common.{codes}
use Rattle.report_reader.proofs.FirstReads.{by_head, is_proved, is_refuted, is_open, no_first}
use Rattle.report_reader.proofs.first_lines.read_first_line.Goals as goal

pub returns-in-Some : goal.returns-in-Some
returns-in-Some c =
    let line = c.args.line.now in
    let w = c.in-Some in
    by_head line (codes "proved") w.words.now w.ensures
    (λ sig first h. is_proved sig line w.words.now first w.ensures h) c.proved_claim.result c.proved_claim.ensures

pub returns-in-Some-after : goal.returns-in-Some-after
returns-in-Some-after c =
    let line = c.args.line.now in
    let w = c.in-Some-after in
    by_head line (codes "refuted") w.words.now w.ensures
    (λ sig first h. is_refuted sig line w.words.now first w.ensures h) c.refuted_claim.result
    c.refuted_claim.ensures

pub returns-in-Some-after-2 : goal.returns-in-Some-after-2
returns-in-Some-after-2 c =
    let line = c.args.line.now in
    let w = c.in-Some-after-2 in
    by_head line (codes "open") w.words.now w.ensures
    (λ sig first h. is_open sig line w.words.now first w.ensures h) c.open_claim.result c.open_claim.ensures

pub returns : goal.returns
returns c = λ sig d first h. no_first sig c.args.line.now c.in_default.ensures c.in_default-after.ensures
    c.in_default-after-2.ensures first h
