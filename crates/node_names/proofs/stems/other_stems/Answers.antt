use Rattle.std.proofs.Common.{ℕ, List, ◌∙◌, subst, sym}
use Rattle.std.specs.Prelude.{All, Contains}
use Rattle.std.proofs.lemmas.List.Elements.{All-push}
use Rattle.node_names.proofs.stems.other_stems.Goals as goal

pub loop-preserved : goal.loop-preserved
loop-preserved c = λ known there.
    let name = c.in_ok-of.field-0 in
    let named : Contains known name =
    subst (λ (n : List ℕ). Contains known n) (sym (c.in_ok-of.ensures ∙ c.other_stem.ensures)) there in
    subst (λ (ns : List (List ℕ)). All (Contains known) ns) (sym c.in_ok-push.ensures.items)
    (All-push (Contains known) c.loop.made.items name (c.loop.invariant known there) named)
