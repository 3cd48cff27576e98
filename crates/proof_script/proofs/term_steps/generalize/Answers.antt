use Rattle.std.proofs.Common.{[], refl}
use Rattle.proof_script.specs.Words.{term}
use Rattle.proof_script.proofs.SameTerms.{names_differ}
use Rattle.proof_script.proofs.WordReads.{words_text}
use Rattle.proof_script.proofs.LineParts.{front, behind, joined, no_more, empty_is, not_empty}
use Rattle.proof_script.proofs.StepsByName.{no_generalize}
use Rattle.proof_script.proofs.term_steps.generalize.Goals as goal

pub returns-in_default : goal.returns-in_default
returns-in_default c =
    let sig = c.args.sig.now in
    let d = names_differ sig c.requires in
    let words = c.args.words.now in
    λ step h. no_generalize sig words (λ t l.
    (rw c.in_default.is at c.in_ok-term.ensures) t (words_text sig ([])) (front sig words (term t) ([]) l)) step h

pub returns-then-is_empty : goal.returns-then-is_empty
returns-then-is_empty c =
    let sig = c.args.sig.now in
    let words = c.args.words.now in
    record {
      named = refl;
      stand = joined sig words (term c.in-Some.term) c.in-Some.rest.now ([])
          (rw c.in-Some.is at c.in_ok-term.ensures)
          (no_more sig c.in-Some.rest.now (empty_is c.in-Some.rest.now c.if-is_empty.ensures));
    }

pub returns-else-is_empty : goal.returns-else-is_empty
returns-else-is_empty c =
    let sig = c.args.sig.now in
    let d = names_differ sig c.requires in
    let words = c.args.words.now in
    λ step h. no_generalize sig words (λ t l.
    let b1 = behind sig d words (term c.in-Some.term) c.in-Some.rest.now (term t) ([]) refl tt tt
    (rw c.in-Some.is at c.in_ok-term.ensures) l in
    not_empty c.in-Some.rest.now c.is_empty.result c.is_empty.ensures c.if-is_empty.false b1.1.is) step h
