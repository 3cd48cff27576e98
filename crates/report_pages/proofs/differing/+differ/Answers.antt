use Rattle.std.proofs.Common.{sym, ◌∙◌, ap, arith}
use Rattle.term_core.specs.Measure.{weight, list_weight_is}
use Rattle.term_core.specs.Tree.{app, trees_of}
use Rattle.term_core.specs.View.{tree_of}
use Rattle.report_pages.proofs.Differences.{arguments_narrow}
use Rattle.report_pages.proofs.differing.+differ.Goals as goal

pub push_difference-push_difference_from-requires : goal.push_difference-push_difference_from-requires
push_difference-push_difference_from-requires t c =
    let ts = c.as_slice.result.now in
    let f = c.in-App-App.f.0 in
    let view =
    ap (λ us. app f (trees_of us)) c.as_slice.ensures ∙ ap tree_of (sym c.in-App-App.is-0)
    ∙ c.left.view_is in (
      omega (arith, ap weight view, list_weight_is ts),
      arguments_narrow c.args.left.now f ts view c.requires,
    )
