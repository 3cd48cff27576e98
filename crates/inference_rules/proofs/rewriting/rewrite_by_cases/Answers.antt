use Rattle.std.proofs.lemmas.Result.{err_from_is_err_and}
use Rattle.clause_core.specs.CaseSplitting.{case_row}
use Rattle.inference_rules.proofs.BlockAnswers.{case_in_block, block_made, block_refused}
use Rattle.inference_rules.proofs.rewriting.rewrite_by_cases.Goals as goal

pub returns-in_err-made : goal.returns-in_err-made
returns-in_err-made c =
    let p = err_from_is_err_and c.from_residual.result c.from_residual.ensures.1 in
    rw p.1 (block_refused c.args.here.now (case_row c.args.spec.now c.args.here.now c.args.place.now
    c.args.rule) (case_in_block c.args.spec.now c.args.here.now c.args.place.now c.args.rule)
    c.in_err-made.field-0.0 c.in_err-made.ensures.refused p.0 p.2)

pub returns : goal.returns
returns c =
    block_made c.args.here.now (case_row c.args.spec.now c.args.here.now c.args.place.now c.args.rule)
    (case_in_block c.args.spec.now c.args.here.now c.args.place.now c.args.rule) c.in_ok-made.made.items
    c.in_ok-made.ensures.made
    c.in_ok-children.children c.in_ok-children.ensures c.counted.result c.counted.ensures
