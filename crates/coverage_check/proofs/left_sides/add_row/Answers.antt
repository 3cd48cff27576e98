use Rattle.std.proofs.Common.{rules, ◌≡◌, ◌++◌, ◌∷◌, [], ap, sym, ◌∙◌}
use Rattle.term_core.specs.View.{tree_of}
use Rattle.coverage_check.proofs.LeftSides.{row_here}
use Rattle.coverage_check.proofs.left_sides.add_row.Goals as goal

pub returns-in_ok-push-in-App : goal.returns-in_ok-push-in-App
returns-in_ok-push-in-App c =
    let call = ap tree_of (sym c.in-App.is) ∙ c.left.view_is in
    let same : c.in-App.sym.0 ≡ c.args.function.0 = search rules in
    c.in_ok-push-in-App.ensures.items
    ∙ ap (λ row. c.args.rows.now.items ++ row ∷ []) c.in_ok-copy-in-App.ensures
    ∙ ap (λ rows. c.args.rows.now.items ++ rows) (row_here c.args.function.0 c.in-App.sym.0 c.in-App.args _ call same)
