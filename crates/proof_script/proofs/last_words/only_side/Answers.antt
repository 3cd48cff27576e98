use Rattle.std.proofs.Common.{[], refl}
use Rattle.proof_script.specs.Words.{side}
use Rattle.proof_script.proofs.SameTerms.{names_differ}
use Rattle.proof_script.proofs.LineParts.{behind, joined, no_more, none_front, empty_is, not_empty}
use Rattle.proof_script.proofs.last_words.only_side.Goals as goal

pub returns-in_err-left : goal.returns-in_err-left
returns-in_err-left c =
    rw c.from_residual.ensures
    (λ sig d s. none_front sig c.args.words.now (side s) [] (c.in_err-left.ensures sig s))

pub returns-then-is_empty : goal.returns-then-is_empty
returns-then-is_empty c =
    let w = c.in_ok-left in
    λ sig. joined sig c.args.words.now (side w.left) w.rest.now [] (w.ensures sig)
    (no_more sig w.rest.now (empty_is w.rest.now c.if-is_empty.ensures))

pub returns-else-is_empty : goal.returns-else-is_empty
returns-else-is_empty c =
    let w = c.in_ok-left in
    λ sig d s l.
    not_empty w.rest.now c.is_empty.result c.is_empty.ensures c.if-is_empty.false
    (behind sig (names_differ sig d) c.args.words.now (side w.left) w.rest.now (side s) [] refl tt tt
    (w.ensures sig) l).1.is
