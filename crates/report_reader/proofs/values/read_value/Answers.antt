use Rattle.std.proofs.Common.{◌∷◌, ◌++◌, [], ap, sym, ◌∙◌, subst}
use Rattle.spec_core.specs.TermText.{term_text}
use Rattle.proof_script.specs.Names.{IsReportName}
use Rattle.proof_script.specs.Reports.{IsClosed}
use Rattle.proof_script.proofs.LineParts.{not_empty}
use Rattle.proof_script.proofs.Runs.{true_false}
use Rattle.proof_script.proofs.SameTerms.{names_differ}
use Rattle.proof_script.proofs.StepReads.{term_in}
use Rattle.report_reader.proofs.ValueReads.{named_value, value_word, one_value}
use Rattle.report_reader.proofs.values.read_value.Goals as goal

pub returns-then-not-is_report_name : goal.returns-then-not-is_report_name
returns-then-not-is_report_name c =
    let s = c.split_word in
    λ name value h. true_false
    (sym (c.is_report_name.ensures.1
    (subst IsReportName (sym (named_value c.args.sig.now c.args.line.now s.result.0.now s.result.1.now
    s.ensures name value h).text) h.stands.name)) ∙ c.if-not-is_report_name.true)

pub returns-in_default : goal.returns-in_default
returns-in_default c =
    let s = c.split_word in
    λ name value h. c.in_default.ensures (32 ∷ (term_text c.args.sig.now [] value ++ []))
    (named_value c.args.sig.now c.args.line.now s.result.0.now s.result.1.now s.ensures name value h).rest

pub returns-in_default-2 : goal.returns-in_default-2
returns-in_default-2 c =
    let s = c.split_word in
    λ name value h. (rw c.in_default-2.is at c.in_ok-value.ensures) value []
    (value_word c.args.sig.now c.args.line.now s.result.0.now s.result.1.now s.ensures c.in-Some.behind.now
    c.in-Some.ensures name value h)

pub returns-then-not-is_empty : goal.returns-then-not-is_empty
returns-then-not-is_empty c =
    let s = c.split_word in
    let v = c.in-Some-2 in
    λ name value h. not_empty v.rest.now c.is_empty.result c.is_empty.ensures c.if-not-is_empty.true
    (one_value c.args.sig.now c.args.line.now s.result.0.now s.result.1.now s.ensures c.in-Some.behind.now
    c.in-Some.ensures (names_differ c.args.sig.now c.requires) v.value v.rest.now
    (rw v.is at c.in_ok-value.ensures) name value h).1

pub returns-then-not-is_closed : goal.returns-then-not-is_closed
returns-then-not-is_closed c =
    let s = c.split_word in
    let v = c.in-Some-2 in
    λ name value h.
    let one = one_value c.args.sig.now c.args.line.now s.result.0.now s.result.1.now s.ensures
    c.in-Some.behind.now c.in-Some.ensures (names_differ c.args.sig.now c.requires) v.value v.rest.now
    (rw v.is at c.in_ok-value.ensures) name value h in
    true_false (sym (c.is_closed.ensures.1
    (subst (λ t. IsClosed c.args.sig.now t) (sym (ap (λ w. term_in w) one.0)) h.stands.closed))
    ∙ c.if-not-is_closed.true)
