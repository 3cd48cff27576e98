use Rattle.std.proofs.Common.{◌∷◌, sym, subst}
use Rattle.std.specs.Prelude.{◌↔◌}
use Rattle.added_goals.specs.Additions.{AreKept}
use Rattle.added_goals.proofs.KeptGoals.{kept_by_next}
use Rattle.added_goals.proofs.keeping.behind.Goals as goal

pub returns-then-is_same : goal.returns-then-is_same
returns-then-is_same c =
    λ new. subst (λ gs. AreKept gs (c.args.next.now ∷ new) ↔ AreKept c.in-Some.rest.now new)
    (sym c.in-Some.ensures)
    (kept_by_next c.in-Some.goal.now c.args.next.now c.in-Some.rest.now new
    (c.is_same.ensures.0 c.if-is_same.true))
