use Rattle.std.proofs.Common.{◌∙◌, ◌<◌, ap, rules, length}
use Rattle.substitutions.specs.Substitution.{entry}
use Rattle.substitutions.proofs.Entries.{grown, set_to}
use Rattle.substitutions.proofs.subst.put.Goals.{then-len-place+in_ok-resize_with, else-len-place}
use Rattle.substitutions.proofs.subst.put.Goals as goal

pub returns-clause-set : goal.returns-clause-set
returns-clause-set c =
    let room : c.args.place < length c.if-len-place.terms.items = elim c.if-len-place.branch
    [ then-len-place+in_ok-resize_with w ↦ search rules | else-len-place w ↦ search rules ] in
    set_to _ _ _ _ room (elim c.if-len-place.branch [
      | then-len-place+in_ok-resize_with w ↦ λ m. ap (λ v. entry v.items m) w.terms-is
          ∙ grown _ (λ f o g k. search rules) _ _ _ _ (search rules) (w.in_ok-resize_with.ensures.items) m
      | else-len-place w ↦ λ m. ap (λ v. entry v.items m) w.terms-is
    ])
