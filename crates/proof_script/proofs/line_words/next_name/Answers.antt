use Rattle.std.proofs.Common.{sym, ◌∙◌, subst}
use Rattle.proof_script.specs.Names.{IsReportName}
use Rattle.proof_script.specs.Words.{name}
use Rattle.proof_script.proofs.Runs.{true_false}
use Rattle.proof_script.proofs.NextWords.{as_plain, same_plain}
use Rattle.proof_script.proofs.line_words.next_name.Goals as goal

pub returns-in_default : goal.returns-in_default
returns-in_default c = λ sig text rest h. c.in_default.ensures text rest
    (as_plain sig c.args.bytes.now (name text) rest tt h)

pub returns-then-not-is_report_name : goal.returns-then-not-is_report_name
returns-then-not-is_report_name c =
    let w = c.in-Some in
    λ sig text rest h. true_false
    (sym (c.is_report_name.ensures.1
    (subst IsReportName (sym (same_plain sig c.args.bytes.now w.word.now w.rest.now (name text) rest
    w.ensures tt h)) h.stands)) ∙ c.if-not-is_report_name.true)
