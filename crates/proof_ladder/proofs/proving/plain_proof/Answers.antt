use Rattle.std.proofs.Common.{◌≡◌, ◌∙◌, ◌<◌, List, Some, ap, length, refl, slice_get, subst, sym}
use Rattle.std.proofs.lemmas.Option.{slice_get_read}
use Rattle.spec_core.specs.declared.records.Goal.{Goal}
use Rattle.proof_ladder.proofs.PrintedProofs.{by_plain}
use Rattle.proof_ladder.proofs.proving.plain_proof.Goals as goal

pub returns-in-Some : goal.returns-in-Some
returns-in-Some g c =
    let slice = c.as_slice-goals.result.now in
    let number = c.args.goal in
    let one = c.index-goals-goal.result in
    let same = c.as_slice-goals.ensures ∙ ap (λ a. a.spec.goals) c.admitted.view_is in
    let within = subst (λ (xs : List Goal). number < length xs) (sym same) c.requires in
    let at = slice_get_read slice (length slice) number one refl within c.index-goals-goal.is in
    let listed = subst (λ (xs : List Goal). slice_get xs number ≡ Some one) same at in
    let admitted = c.args.admitted.now in
    λ lemmas it at_it.
    by_plain (g.O.TermOrder.above admitted.order) admitted.spec lemmas one it number _
    c.in-Some.block listed at_it (rw c.in-Some.is at c.in_ok-block.ensures)
