use Rattle.spike_cli.proofs.EvaluationLemmas.{refused_result, value_told, large_told, none_told, found_printable}
use Rattle.spike_cli.proofs.evaluating.evaluation_of.Goals as goal

pub returns-in-Err : goal.returns-in-Err
returns-in-Err c = refused_result c.args.spec.now c.args.bytes.now c.args.steps c.in-Err.refusal
    c.refused.result c.in-Err.ensures.refused c.refused.ensures

pub value_lines-requires : goal.value_lines-requires
value_lines-requires c =
    found_printable c.args.spec.now c.in-Ok.term c.in-Value.value c.args.steps c.in-Value.cost _ c.requires.fine
    c.in-Ok.ensures.sorted c.in-Value.is c.in_ok-value.ensures.found

pub returns-in-Value : goal.returns-in-Value
returns-in-Value c =
    value_told c.args.spec.now c.args.bytes.now c.in-Ok.term c.args.steps c.in-Ok.ensures.stands
    c.in-Value.value c.in-Value.cost _ _ c.in-Value.is c.in_ok-value.ensures.found
    c.in_ok-value_lines-in-Value.ensures

pub returns-in-Large : goal.returns-in-Large
returns-in-Large c =
    large_told c.args.spec.now c.args.bytes.now c.in-Ok.term c.args.steps c.in-Ok.ensures.stands c.in-Large.cost
    _ _ c.in-Large.is c.in_ok-value.ensures.found c.in_ok-large_lines-in-Large.ensures

pub returns : goal.returns
returns c =
    none_told c.args.spec.now c.args.bytes.now c.in-Ok.term c.args.steps c.in-Ok.ensures.stands _ _
    c.requires.admitted c.in-Spent.is c.in_ok-value.ensures.found c.in_ok-spent_line-in-Spent.ensures
