use Rattle.std.proofs.Common.{rules, ◌≡◌, length}
use Rattle.std.specs.Prelude.{codes}
use Rattle.std.proofs.lemmas.List.{nil_from_length}
use Rattle.sort_check.proofs.OrdersMade.{line_answers}
use Rattle.sort_check.proofs.weights.weights_of.Goals as goal

pub returns : goal.returns
returns c =
    let named : c.args.line.now.name.name ≡ codes "kbo" = search rules in
    let no_equals : length c.args.equals.now ≡ 0 = search rules in
    let no_statuses : length c.args.statuses.now ≡ 0 = search rules in
    line_answers c.args.sig.now c.args.equals.now c.args.statuses.now c.args.line.now named
    (nil_from_length c.args.equals.now no_equals) (nil_from_length c.args.statuses.now no_statuses)
    c.as_slice-2.result.now c.weights_in.result c.as_slice-2.ensures c.weights_in.ensures
