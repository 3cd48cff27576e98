use Rattle.std.proofs.Common.{◌≡◌, ◌∙◌, ◌<◌, List, Some, ap, length, refl, slice_get, subst, sym}
use Rattle.std.proofs.lemmas.Option.{slice_get_read}
use Rattle.spec_core.specs.declared.records.Goal.{Goal}
use Rattle.lemma_search.proofs.proving.proof_of.Goals as goal

pub proved_by-requires : goal.proved_by-requires
proved_by-requires c =
    let slice = c.as_slice-goals.result.now in
    let number = c.args.number in
    let goal = c.index-goals-number.result in
    let same = c.as_slice-goals.ensures ∙ ap (λ a. a.spec.goals) c.admitted.view_is in
    let within = subst (λ (xs : List Goal). number < length xs) (sym same) c.requires in
    let at = slice_get_read slice (length slice) number goal refl within c.index-goals-number.is in
    let listed = subst (λ (xs : List Goal). slice_get xs number ≡ Some goal) same at in
    let found = rw c.in-Block.is at c.in_ok-block.ensures goal listed in
    found.0
