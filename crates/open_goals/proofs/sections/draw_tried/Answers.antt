use Rattle.std.proofs.Common.{[], ◌∷◌}
use Rattle.std.specs.Prelude.{codes}
use Rattle.std.proofs.lemmas.Result.{on_ok_weaker}
use Rattle.std.specs.Fmt.{decimal}
use Rattle.proof_words.specs.ListEvents.{plain}
use Rattle.proof_words.proofs.Joined.{joined}
use Rattle.open_goals.proofs.sections.draw_tried.Goals as goal

pub returns : goal.returns
returns c =
    let budget = c.args.budget in
    let depth = plain (decimal budget.depth) ∷ [] in
    let rest = plain (codes " substitutions up to depth ") ∷ depth in
    let end = c.number-2.new.self in
    on_ok_weaker c.number-2.result
    (λ last. joined c.args.page.now c.text.new.self end (plain (codes "open after ") ∷ [])
    (plain (decimal budget.tried) ∷ rest) c.in_ok-text.ensures
    (joined c.text.new.self c.number.new.self end (plain (decimal budget.tried) ∷ []) rest
    c.in_ok-number.ensures
    (joined c.number.new.self c.text-2.new.self end (plain (codes " substitutions up to depth ") ∷ []) depth
    c.in_ok-text-2.ensures last)))
    c.number-2.ensures
