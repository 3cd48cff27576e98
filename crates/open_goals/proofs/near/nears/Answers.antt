use Rattle.std.proofs.Common.{sym, subst}
use Rattle.std.specs.List.{AllByRecursion}
use Rattle.term_core.proofs.Items.{all_append}
use Rattle.open_goals.specs.Stops.{IsNear}
use Rattle.open_goals.proofs.near.nears.Goals as goal

pub returns : goal.returns
returns g c =
    let lemmas = c.args.lemmas.now in
    subst (AllByRecursion (IsNear lemmas)) (sym c.in_ok-push.ensures.items)
    (all_append (IsNear lemmas) c.in_ok-made.made.items _ c.in_ok-made.ensures (tt, tt))
