use Rattle.std.proofs.Common.{[], ◌∷◌, sym, subst}
use Rattle.std.specs.List.{AllByRecursion}
use Rattle.term_core.proofs.Items.{all_append}
use Rattle.open_goals.specs.Stops.{IsNear}
use Rattle.open_goals.proofs.near.lemma_nears.Goals as goal

pub loop-place-preserved : goal.loop-place-preserved
loop-place-preserved g c =
    let lemmas = c.args.lemmas.now in
    subst (AllByRecursion (IsNear lemmas)) (sym c.in_ok-push.ensures.items)
    (all_append (IsNear lemmas) c.loop-place.made.items (c.in-Some.near ∷ []) c.loop-place.invariant
    (rw c.in-Some.is at c.in_ok-found.ensures, tt))
