use Rattle.std.proofs.Common.{[], refl}
use Rattle.proof_script.specs.Words.{equation}
use Rattle.proof_script.proofs.SameTerms.{names_differ}
use Rattle.proof_script.proofs.LineParts.{front, behind, joined, no_more, empty_is, not_empty}
use Rattle.proof_script.proofs.step_words.only_equation.Goals as goal

pub returns-in_err-conclusion : goal.returns-in_err-conclusion
returns-in_err-conclusion c = rw c.from_residual.ensures (λ sig d b n l. c.in_err-conclusion.ensures sig b n []
    (front sig c.args.words.now (equation b n) [] l))

pub returns-then-is_empty : goal.returns-then-is_empty
returns-then-is_empty c =
    let w = c.in_ok-conclusion in
    λ sig. joined sig c.args.words.now (equation w.conclusion w.number) w.rest.now [] (w.ensures sig)
    (no_more sig w.rest.now (empty_is w.rest.now c.if-is_empty.ensures))

pub returns-else-is_empty : goal.returns-else-is_empty
returns-else-is_empty c =
    let w = c.in_ok-conclusion in
    λ sig d b n l.
    not_empty w.rest.now c.is_empty.result c.is_empty.ensures c.if-is_empty.false
    (behind sig (names_differ sig d) c.args.words.now (equation w.conclusion w.number) w.rest.now
    (equation b n) [] refl tt tt (w.ensures sig) l).1.is
