use Rattle.rule_code.proofs.Branching.{with_arguments, no_boolean}
use Rattle.rule_code.proofs.following.Branch.answered.Goals as goal

pub returns-then-count-ne0 : goal.returns-then-count-ne0
returns-then-count-ne0 c rules rule k args b e = with_arguments rules rule k c.args.sym c.args.count args
    c.if-count-ne0.true e

pub returns-else-sym-eq1 : goal.returns-else-sym-eq1
returns-else-sym-eq1 c rules rule k args b e = no_boolean rules rule k c.args.sym args c.if-sym-eq0.false
    c.if-sym-eq1.false
