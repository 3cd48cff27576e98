use Rattle.std.proofs.Common.{◌∷◌, [], Bool, true, false, ap, refl, sym, ◌∙◌, subst}
use Rattle.proof_script.specs.Words.{equation}
use Rattle.proof_script.specs.LineWords.{IsWordAt}
use Rattle.proof_script.proofs.Runs.{true_false}
use Rattle.proof_script.proofs.SameTerms.{names_differ}
use Rattle.proof_script.proofs.LineParts.{front, behind, joined}
use Rattle.proof_script.proofs.WordReads.{words_text}
use Rattle.proof_script.proofs.StepReads.{flag_in}
use Rattle.proof_script.proofs.StepsByName.{no_match}
use Rattle.proof_script.proofs.equation_steps.match_premise.Goals as goal

pub returns-in_err-first : goal.returns-in_err-first
returns-in_err-first c =
    let words = c.args.words.now in
    rw c.from_residual.ensures
    (λ sig d step h. no_match sig words
    (λ k j l. c.in_err-first.ensures sig true k (words_text sig (equation false j ∷ []))
    (front sig words (equation true k) (equation false j ∷ []) l)) step h)

pub returns-in_err-premise : goal.returns-in_err-premise
returns-in_err-premise c =
    let words = c.args.words.now in
    let w = c.in_ok-first in
    rw c.from_residual-in_err-premise.ensures (λ sig d step h. no_match sig words (λ k j l.
    c.in_err-premise.ensures sig d j (behind sig (names_differ sig d) words (equation w.first w.conclusion)
    w.rest.now (equation true k) (equation false j ∷ []) refl tt tt (w.ensures sig) l).1) step h)

pub returns-then-first : goal.returns-then-first
returns-then-first c =
    let words = c.args.words.now in
    let w = c.in_ok-first in
    let p = c.in_ok-premise in
    λ sig. record {
      named = refl;
      stand = joined sig words (equation true w.conclusion) w.rest.now (equation false p.premise ∷ [])
          (subst (λ (b : Bool). IsWordAt sig words (equation b w.conclusion) w.rest.now) c.if-first.true
          (w.ensures sig)) (p.ensures sig);
    }

pub returns-else-first : goal.returns-else-first
returns-else-first c =
    let words = c.args.words.now in
    let w = c.in_ok-first in
    λ sig d step h. no_match sig words (λ k j l.
    let one = (behind sig (names_differ sig d) words (equation w.first w.conclusion) w.rest.now
    (equation true k) (equation false j ∷ []) refl tt tt (w.ensures sig) l).0 in
    true_false (sym (ap (λ z. flag_in z) one) ∙ c.if-first.false)) step h
