use Rattle.std.proofs.Common.{◌∷◌, [], refl}
use Rattle.proof_script.specs.Words.{name, terms}
use Rattle.proof_script.proofs.SameTerms.{names_differ}
use Rattle.proof_script.proofs.LineParts.{joined, none_front, none_behind}
use Rattle.proof_script.proofs.StepsByName.{no_by_lemma}
use Rattle.proof_script.proofs.term_steps.by_lemma.Goals as goal

pub returns-in_default : goal.returns-in_default
returns-in_default c =
    let sig = c.args.sig.now in
    λ step h. no_by_lemma sig c.args.words.now
    (λ n ts. none_front sig c.args.words.now (name n) (terms ts ∷ []) ((rw c.in_default.is at c.in_ok-goal.ensures) sig n)) step h

pub returns-in-Some-2 : goal.returns-in-Some-2
returns-in-Some-2 c =
    let sig = c.args.sig.now in
    let w = c.in-Some in
    record {
      named = refl;
      stand = joined sig c.args.words.now (name w.goal) w.others.now (terms c.in-Some-2.terms ∷ [])
          ((rw w.is at c.in_ok-goal.ensures) sig) (rw c.in-Some-2.is at c.in_ok-terms.ensures);
    }

pub returns-in-None : goal.returns-in-None
returns-in-None c =
    let sig = c.args.sig.now in
    let w = c.in-Some in
    λ step h. no_by_lemma sig c.args.words.now (λ n ts. none_behind sig (names_differ sig c.requires) c.args.words.now
    (name w.goal) w.others.now (name n) (terms ts ∷ []) refl tt tt ((rw w.is at c.in_ok-goal.ensures) sig)
    ((rw c.in-None.is at c.in_ok-terms.ensures) ts)) step h
