use Rattle.std.proofs.Common.{◌∷◌, [], refl}
use Rattle.proof_script.specs.Words.{number, terms}
use Rattle.proof_script.proofs.SameTerms.{names_differ}
use Rattle.proof_script.proofs.LineParts.{joined, none_front, none_behind}
use Rattle.proof_script.proofs.StepsByName.{no_subsume}
use Rattle.proof_script.proofs.term_steps.subsume.Goals as goal

pub returns-in_default : goal.returns-in_default
returns-in_default c =
    let sig = c.args.sig.now in
    λ step h. no_subsume sig c.args.words.now
    (λ n ts. none_front sig c.args.words.now (number n) (terms ts ∷ []) (c.in_default.ensures sig n)) step h

pub returns-in-Some-2 : goal.returns-in-Some-2
returns-in-Some-2 c =
    let sig = c.args.sig.now in
    let w = c.in-Some in
    record {
      named = refl;
      stand = joined sig c.args.words.now (number w.node) w.others.now (terms c.in-Some-2.terms ∷ [])
          (w.ensures sig) (rw c.in-Some-2.is at c.in_ok-terms.ensures);
    }

pub returns-in-None : goal.returns-in-None
returns-in-None c =
    let sig = c.args.sig.now in
    let w = c.in-Some in
    λ step h. no_subsume sig c.args.words.now (λ n ts. none_behind sig (names_differ sig c.requires) c.args.words.now
    (number w.node) w.others.now (number n) (terms ts ∷ []) refl tt tt (w.ensures sig)
    ((rw c.in-None.is at c.in_ok-terms.ensures) ts)) step h
