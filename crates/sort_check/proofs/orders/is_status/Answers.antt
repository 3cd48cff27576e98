use Rattle.std.proofs.Common.{◌∙◌, ap, length}
use Rattle.std.specs.Prelude.{◌==◌}
use Rattle.std.specs.List.{list_all}
use Rattle.sort_check.proofs.Counting.{once-counts}
use Rattle.sort_check.proofs.orders.is_status.Goals as goal

pub returns : goal.returns
returns c =
    c.are_ones.ensures
    ∙ ap (λ ns. list_all (λ n. n == 1) ns) (c.deref.ensures.value ∙ c.in_ok-counts.ensures)
    ∙ once-counts (length c.args.numbers.now) c.args.numbers.now
