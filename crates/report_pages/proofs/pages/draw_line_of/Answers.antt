use Rattle.std.proofs.Common.{arith}
use Rattle.std.proofs.lemmas.Option.{slice_get_within}
use Rattle.report_pages.proofs.pages.draw_line_of.Goals as goal

pub overflow_cast-number : goal.overflow_cast-number
overflow_cast-number c =
    omega (
      arith,
      slice_get_within c.args.spec.now.goals c.in-Some.number c.in-Some.goal.now c.in-Some.ensures.0,
      c.requires.fine.few_goals,
    )
