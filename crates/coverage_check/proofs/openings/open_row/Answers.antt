use Rattle.std.proofs.Common.{◌≡◌, ap, sym, ◌∙◌}
use Rattle.term_core.specs.Tree.{var, app, trees_of}
use Rattle.term_core.specs.View.{tree_of}
use Rattle.coverage_check.proofs.OpenedRows.{opened_variable, opened_constructor}
use Rattle.coverage_check.proofs.openings.open_row.Goals as goal
use Rattle.coverage_check.proofs.openings.open_row.Goals.{in-Var+in_ok-push_times-in-Var}
use Rattle.coverage_check.proofs.openings.open_row.Goals.{in-App+else-other-sym+in_ok-push_all-in-App}

pub returns-in_ok-extend-in-Some : goal.returns-in_ok-extend-in-Some
returns-in_ok-extend-in-Some c =
    let refs = c.args.patterns.now in
    let first = c.in-Some.first.now in
    let others = c.in-Some.others.now in
    λ rows. elim c.match-first.branch [
      | in-Var+in_ok-push_times-in-Var w ↦
          let is : first.now ≡ var w.in-Var.field-0.0 = sym c.first.view_is ∙ ap (λ n. tree_of n) w.in-Var.is in
          opened_variable c.args.sym.0 c.args.count refs first others _ c.args.any.now c.new-made.result
          c.match-first.made w.push_times.new.row c.extend.new.self c.in-Some.ensures is c.requires
          c.new-made.ensures w.in_ok-push_times-in-Var.ensures w.made-is c.in_ok-extend-in-Some.ensures rows
      | in-App+else-other-sym+in_ok-push_all-in-App w ↦
          let is : first.now ≡ app w.in-App.other.0 (trees_of w.in-App.args) = sym c.first.view_is
          ∙ ap (λ n. tree_of n) w.in-App.is in
          opened_constructor c.args.sym.0 w.in-App.other.0 c.args.count refs first others w.in-App.args
          w.as_slice.result.now c.new-made.result c.match-first.made w.push_all.new.self c.extend.new.self
          c.in-Some.ensures is w.if-other-sym.false c.new-made.ensures w.as_slice.ensures
          w.in_ok-push_all-in-App.ensures w.made-is c.in_ok-extend-in-Some.ensures rows
    ]
