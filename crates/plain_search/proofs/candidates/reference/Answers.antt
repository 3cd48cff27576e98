-- The reference is by the only terms that fit.
use Rattle.std.proofs.Common.{Some, None, sym, ◌∙◌, subst}
use Rattle.fitting_lists.specs.Questions.{Question}
use Rattle.fitting_lists.specs.Answering.{IsOnlyAnswer}
use Rattle.plain_search.specs.Candidates.{wanted}
use Rattle.plain_search.proofs.ReferenceTerms.{start_variables, asked_of_one, only_reference, no_reference, not_one}
use Rattle.plain_search.proofs.candidates.reference.Goals as goal

pub returns-in_default-only : goal.returns-in_default-only
returns-in_default-only c =
    not_one c.args.start.now c.requires c.args.swapped c.args.here.now.conclusions
    (λ d e. c.in_default-only.ensures d (c.as_slice-2.ensures ∙ e))

pub fitting_terms-requires : goal.fitting_terms-requires
fitting_terms-requires c =
    start_variables c.args.start.now c.requires c.len-count.result c.in-Some.equation.now
    c.len-count.ensures (sym c.as_slice.ensures ∙ c.in-Some.ensures)

pub returns-in-None : goal.returns-in-None
returns-in-None c =
    let start = c.args.start.now in
    let es = c.args.here.now.conclusions in
    let asks =
    asked_of_one start es c.args.swapped c.in-Some.equation.now c.in-Some-only.conclusion.now
    c.len-count.result c.side-left.result.now c.side-right.result.now c.len-count.ensures
    (sym c.as_slice.ensures ∙ c.in-Some.ensures)
    (sym c.as_slice-2.ensures ∙ c.in-Some-only.ensures)
    c.side-left.ensures c.side-right.ensures in
    no_reference start (wanted c.args.swapped es) (
    subst (λ (q : Question). IsOnlyAnswer q None) asks (
    rw c.in-None.is at c.in_ok-fitting_terms.ensures))

pub returns-in-Some-2 : goal.returns-in-Some-2
returns-in-Some-2 c =
    let start = c.args.start.now in
    let es = c.args.here.now.conclusions in
    let asks =
    asked_of_one start es c.args.swapped c.in-Some.equation.now c.in-Some-only.conclusion.now
    c.len-count.result c.side-left.result.now c.side-right.result.now c.len-count.ensures
    (sym c.as_slice.ensures ∙ c.in-Some.ensures)
    (sym c.as_slice-2.ensures ∙ c.in-Some-only.ensures)
    c.side-left.ensures c.side-right.ensures in
    only_reference start (wanted c.args.swapped es) c.in-Some-2.terms (
    subst (λ (q : Question). IsOnlyAnswer q (Some c.in-Some-2.terms)) asks (
    rw c.in-Some-2.is at c.in_ok-fitting_terms.ensures))
