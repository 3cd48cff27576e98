use Rattle.std.proofs.Common.{sym, subst}
use Rattle.term_core.specs.Tree.{some}
use Rattle.kbo_order.specs.Standing.{TermsStand, ArgumentsStand}
use Rattle.kbo_order.proofs.Standings.{same-before, greater-before}
use Rattle.kbo_order.proofs.compare.Standing.before.Goals as goal

pub returns-in-Same : goal.returns-in-Same
returns-in-Same c =
    λ w x a b ts ss p q l.
    same-before w x a b ts ss c.args.others (subst (λ r. TermsStand w x a b r) c.in-Same.is p) q

pub returns-in-Greater : goal.returns-in-Greater
returns-in-Greater c =
    λ w x a b ts ss p q l.
    subst (λ r. ArgumentsStand w x (some a ts) (some b ss) r) (sym c.greater_or_neither.ensures)
    (greater-before w x a b ts ss c.args.are_as_many (subst (λ r. TermsStand w x a b r) c.in-Greater.is p) l)
