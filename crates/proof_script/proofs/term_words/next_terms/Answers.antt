use Rattle.std.proofs.Common.{sym, ◌∙◌}
use Rattle.proof_script.proofs.Runs.{true_false}
use Rattle.proof_script.proofs.SameTerms.{names_differ}
use Rattle.proof_script.proofs.NextTerms.{terms_found, no_terms, terms_go_on}
use Rattle.proof_script.proofs.term_words.next_terms.Goals as goal

pub returns-in_default-2 : goal.returns-in_default-2
returns-in_default-2 c = no_terms c.args.sig.now c.args.bytes.now c.in-Some.text.now c.in-Some.ensures
    (rw c.in_default-2.is at c.in_ok-terms.ensures)

pub returns-then-not-ends : goal.returns-then-not-ends
returns-then-not-ends c =
    let got = rw c.in-Some-2.is at c.in_ok-terms.ensures in
    terms_go_on c.args.sig.now (names_differ c.args.sig.now c.requires) c.args.bytes.now c.in-Some.text.now
    c.in-Some-2.terms c.in-Some-2.rest.now c.in-Some.ensures got
    (λ e. true_false (sym (c.ends.ensures.1 e) ∙ c.if-not-ends.true))

pub returns : goal.returns
returns c =
    let got = rw c.in-Some-2.is at c.in_ok-terms.ensures in
    terms_found c.args.sig.now c.args.bytes.now c.in-Some.text.now c.in-Some-2.terms c.in-Some-2.rest.now
    c.in-Some.ensures got (c.ends.ensures.0 c.if-not-ends.false)
