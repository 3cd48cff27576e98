use Rattle.std.proofs.Common.{[], refl}
use Rattle.proof_script.specs.Words.{terms}
use Rattle.proof_script.proofs.SameTerms.{names_differ}
use Rattle.proof_script.proofs.LineParts.{behind, joined, no_more, none_front, empty_is, not_empty}
use Rattle.proof_script.proofs.last_words.only_terms.Goals as goal

pub returns-in_default : goal.returns-in_default
returns-in_default c = λ ts. none_front c.args.sig.now c.args.words.now (terms ts) []
    ((rw c.in_default.is at c.in_ok-terms.ensures) ts)

pub returns-then-is_empty : goal.returns-then-is_empty
returns-then-is_empty c =
    let w = c.in-Some in
    joined c.args.sig.now c.args.words.now (terms w.terms) w.rest.now [] (rw w.is at c.in_ok-terms.ensures)
    (no_more c.args.sig.now w.rest.now (empty_is w.rest.now c.if-is_empty.ensures))

pub returns-else-is_empty : goal.returns-else-is_empty
returns-else-is_empty c =
    let sig = c.args.sig.now in
    let w = c.in-Some in
    λ ts l.
    not_empty w.rest.now c.is_empty.result c.is_empty.ensures c.if-is_empty.false
    (behind sig (names_differ sig c.requires) c.args.words.now (terms w.terms) w.rest.now (terms ts) [] refl tt tt
    (rw w.is at c.in_ok-terms.ensures) l).1.is
