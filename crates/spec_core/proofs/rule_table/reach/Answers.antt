use Rattle.std.proofs.Common.{◌++◌, ◌∷◌, [], ap, ◌∙◌, arith, get_or, length, length-append}
use Rattle.spec_core.proofs.RuleTables.{empty_more}
use Rattle.spec_core.proofs.rule_table.reach.Goals as goal

pub loop-preserved : goal.loop-preserved
loop-preserved c =
    let old = c.loop.lists.items in
    let pushed = c.in_ok-push.ensures.items ∙ ap (λ x. old ++ x ∷ []) c.new.ensures in
    record {
      same = λ g. ap (λ xs. get_or xs g []) pushed ∙ empty_more old g ∙ c.loop.invariant.same g;
      count = omega (arith, ap length pushed, length-append old ([] ∷ []), c.loop.invariant.count);
    }
