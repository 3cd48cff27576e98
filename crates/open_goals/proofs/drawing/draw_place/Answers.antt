use Rattle.std.proofs.Common.{[], ◌∷◌}
use Rattle.std.specs.Prelude.{codes}
use Rattle.std.proofs.lemmas.Result.{on_ok_weaker}
use Rattle.page_core.specs.declared.parts.Part.TheVariants.{Note}
use Rattle.proof_words.specs.ClauseEvents.{clause_events}
use Rattle.proof_words.specs.ListEvents.{plain}
use Rattle.proof_words.proofs.Joined.{joined}
use Rattle.std.specs.Prelude.{None}
use Rattle.open_goals.proofs.Enclosed.{enclosed}
use Rattle.open_goals.proofs.drawing.draw_place.Goals as goal

pub returns : goal.returns
returns c =
    let naming = c.args.naming.now in
    let clause = clause_events naming.sig.now naming.names.now None c.args.clause.now in
    let p = c.begin.new.self in
    let q = c.text.new.self in
    let r = c.draw_clause.new.page in
    on_ok_weaker c.end.result
    (λ last. enclosed Note c.args.page.now p r c.end.new.self (plain (codes "stops at ") ∷ clause)
    c.in_ok-begin.ensures
    (joined p q r (plain (codes "stops at ") ∷ []) clause c.in_ok-text.ensures c.in_ok-draw_clause.ensures)
    last)
    c.end.ensures
