use Rattle.std.proofs.Common.{subst, sym, ◌∙◌}
use Rattle.proof_script.specs.Delimiters.{Ends}
use Rattle.proof_script.proofs.Runs.{true_false}
use Rattle.proof_script.proofs.SameTerms.{names_differ}
use Rattle.proof_script.proofs.NextTerms.{patterns_found, no_patterns, one_list}
use Rattle.proof_script.proofs.LineParts.{few_terms, some_terms}
use Rattle.proof_script.proofs.term_words.next_patterns.Goals as goal

pub returns-in_default-2 : goal.returns-in_default-2
returns-in_default-2 c = no_patterns c.args.sig.now c.args.bytes.now c.in-Some.text.now c.in-Some.ensures
    (rw c.in_default-2.is at c.in_ok-patterns.ensures)

pub returns-then-is_empty : goal.returns-then-is_empty
returns-then-is_empty c =
    let got = rw c.in-Some-2.is at c.in_ok-patterns.ensures in
    λ us last k.
    let one = one_list c.args.sig.now (names_differ c.args.sig.now c.requires) c.args.bytes.now
    c.in-Some.text.now c.in-Some-2.patterns c.in-Some-2.rest.now c.in-Some.ensures got us last k in
    few_terms us (sym one.0 ∙ c.is_empty.ensures.0 c.if-is_empty.true) k.stands.0

pub returns-then-not-ends : goal.returns-then-not-ends
returns-then-not-ends c =
    let got = rw c.in-Some-2.is at c.in_ok-patterns.ensures in
    λ us last k.
    let one = one_list c.args.sig.now (names_differ c.args.sig.now c.requires) c.args.bytes.now
    c.in-Some.text.now c.in-Some-2.patterns c.in-Some-2.rest.now c.in-Some.ensures got us last k in
    true_false (sym (c.ends.ensures.1 (subst Ends (sym one.1) k.ends)) ∙ c.if-not-ends.true)

pub returns : goal.returns
returns c =
    let got = rw c.in-Some-2.is at c.in_ok-patterns.ensures in
    patterns_found c.args.sig.now c.args.bytes.now c.in-Some.text.now c.in-Some-2.patterns c.in-Some-2.rest.now
    c.in-Some.ensures got (some_terms c.in-Some-2.patterns c.is_empty.result c.is_empty.ensures.1
    c.if-is_empty.false) (c.ends.ensures.0 c.if-not-ends.false)
