use Rattle.std.proofs.Common.{◌∷◌, [], Bool, ap, refl, sym, ◌∙◌, subst}
use Rattle.std.specs.Cmp.{booleans_Decides}
use Rattle.proof_script.specs.Words.{equation}
use Rattle.proof_script.specs.LineWords.{AreWords}
use Rattle.proof_script.proofs.Runs.{true_false}
use Rattle.proof_script.proofs.SameTerms.{names_differ}
use Rattle.proof_script.proofs.LineParts.{one_words}
use Rattle.proof_script.proofs.StepReads.{flag_in, word_first}
use Rattle.proof_script.proofs.step_words.only_number.Goals as goal

pub returns-then-found-conclusion : goal.returns-then-found-conclusion
returns-then-found-conclusion c =
    let w = c.in_ok-found in
    let same = (booleans_Decides w.found c.args.conclusion).0 c.if-found-conclusion.true in
    λ sig. subst (λ (b : Bool). AreWords sig c.args.words.now (equation b w.number ∷ [])) same (w.ensures sig)

pub returns-else-found-conclusion : goal.returns-else-found-conclusion
returns-else-found-conclusion c =
    let w = c.in_ok-found in
    λ sig d n l.
    let one = one_words sig (names_differ sig d) c.args.words.now (equation w.found w.number ∷ [])
    (equation c.args.conclusion n ∷ []) refl (tt, tt) (tt, tt) (w.ensures sig) l in
    true_false (sym ((booleans_Decides w.found c.args.conclusion).1 (ap (λ ws. flag_in (word_first ws)) one))
    ∙ c.if-found-conclusion.false)
