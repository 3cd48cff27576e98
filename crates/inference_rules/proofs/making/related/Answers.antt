use Rattle.std.proofs.Common.{map, []}
use Rattle.clause_core.specs.Rows.{child}
use Rattle.inference_rules.proofs.Ends.{made_answered, nothing_referred}
use Rattle.inference_rules.proofs.making.related.Goals as goal

pub returns : goal.returns
returns c = λ d. made_answered (λ t s. ⊥) d (map (child c.args.relation) c.args.clauses.items) [] _
    c.limited.result (c.in_ok-tidied_all.ensures d) (nothing_referred (λ t s. ⊥) d c.new.result c.new.ensures)
    c.limited.ensures
