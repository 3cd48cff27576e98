use Rattle.std.proofs.Common.{◌∷◌, [], refl}
use Rattle.proof_script.specs.Words.{patterns, variable}
use Rattle.proof_script.proofs.SameTerms.{names_differ}
use Rattle.proof_script.proofs.WordReads.{words_text}
use Rattle.proof_script.proofs.LineParts.{front, behind, joined, no_more, empty_is, not_empty}
use Rattle.proof_script.proofs.StepsByName.{no_cover}
use Rattle.proof_script.proofs.term_steps.cover.Goals as goal

pub returns-in_default : goal.returns-in_default
returns-in_default c =
    let sig = c.args.sig.now in
    let d = names_differ sig c.requires in
    let words = c.args.words.now in
    λ step h. no_cover sig words (λ x ps l.
    c.in_default.ensures sig x.0 (words_text sig ((patterns ps) ∷ []))
    (front sig words (variable x.0) ((patterns ps) ∷ []) l)) step h

pub returns-in_default-2 : goal.returns-in_default-2
returns-in_default-2 c =
    let sig = c.args.sig.now in
    let d = names_differ sig c.requires in
    let words = c.args.words.now in
    λ step h. no_cover sig words (λ x ps l.
    let b1 = behind sig d words (variable c.in-Some.var.0) c.in-Some.others.now (variable x.0)
    ((patterns ps) ∷ []) refl tt tt (c.in-Some.ensures sig) l in
    (rw c.in_default-2.is at c.in_ok-patterns.ensures) ps (words_text sig ([]))
    (front sig c.in-Some.others.now (patterns ps) ([]) b1.1)) step h

pub returns-then-is_empty : goal.returns-then-is_empty
returns-then-is_empty c =
    let sig = c.args.sig.now in
    let words = c.args.words.now in
    record {
      named = refl;
      stand = joined sig words (variable c.in-Some.var.0) c.in-Some.others.now
          ((patterns c.in-Some-2.patterns) ∷ []) (c.in-Some.ensures sig)
          (joined sig c.in-Some.others.now (patterns c.in-Some-2.patterns) c.in-Some-2.rest.now ([])
          (rw c.in-Some-2.is at c.in_ok-patterns.ensures)
          (no_more sig c.in-Some-2.rest.now (empty_is c.in-Some-2.rest.now c.if-is_empty.ensures)));
    }

pub returns-else-is_empty : goal.returns-else-is_empty
returns-else-is_empty c =
    let sig = c.args.sig.now in
    let d = names_differ sig c.requires in
    let words = c.args.words.now in
    λ step h. no_cover sig words (λ x ps l.
    let b1 = behind sig d words (variable c.in-Some.var.0) c.in-Some.others.now (variable x.0)
    ((patterns ps) ∷ []) refl tt tt (c.in-Some.ensures sig) l in
    let b2 = behind sig d c.in-Some.others.now (patterns c.in-Some-2.patterns) c.in-Some-2.rest.now
    (patterns ps) ([]) refl tt tt (rw c.in-Some-2.is at c.in_ok-patterns.ensures) b1.1 in
    not_empty c.in-Some-2.rest.now c.is_empty.result c.is_empty.ensures c.if-is_empty.false b2.1.is) step h
