use Rattle.std.proofs.Common.{◌↔◌, ap, sym, ◌∙◌, subst}
use Rattle.std.specs.List.{AllByRecursion}
use Rattle.std.proofs.lemmas.List.{take_all}
use Rattle.term_core.specs.Tree.{trees_of}
use Rattle.spec_core.specs.Covering.{IsMatched}
use Rattle.coverage_check.specs.LeftSides.{rows_of as rows_of_function}
use Rattle.coverage_check.specs.Rows.{IsRow}
use Rattle.coverage_check.specs.Values.{MatchesSome}
use Rattle.coverage_check.proofs.LeftSides.{are_rows, some_calls, calls_match}
use Rattle.coverage_check.proofs.left_sides.rows_of.Goals as goal

pub returns-clause-rows : goal.returns-clause-rows
returns-clause-rows c i info =
    let all = c.loop-rule.invariant ∙ ap (λ rs. rows_of_function c.args.function.0 rs)
    (take_all c.loop-rule.rule-index _ c.loop-rule-test.false ∙ c.as_slice-rule-items.ensures) in
    subst (λ rows. AllByRecursion (IsRow c.args.spec.now.sig i.args) rows) (sym all)
    (are_rows c.args.spec.now.sig c.args.function.0 i info c.args.spec.now.rules c.requires.fine.rules
    c.requires.linear)

pub returns-clause-matched : goal.returns-clause-matched
returns-clause-matched c vs =
    let all = c.loop-rule.invariant ∙ ap (λ rs. rows_of_function c.args.function.0 rs)
    (take_all c.loop-rule.rule-index _ c.loop-rule-test.false ∙ c.as_slice-rule-items.ensures) in
    subst (λ rows. MatchesSome rows vs ↔ IsMatched c.args.spec.now c.args.function.0 (trees_of vs)) (sym all) (
      some_calls c.args.function.0 vs c.args.spec.now.rules,
      calls_match c.args.function.0 vs c.args.spec.now.sig c.args.spec.now.rules c.requires.fine.rules,
    )
