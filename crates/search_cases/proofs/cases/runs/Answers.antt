use Rattle.std.proofs.Common.{sym, subst}
use Rattle.term_core.specs.Tree.{instance}
use Rattle.value_bank.proofs.Placed.{term_within}
use Rattle.bank_machine.specs.declared.answers.BankEval.TheVariants.{Value}
use Rattle.bank_machine.specs.Runs.{StandAt, IsBankEval}
use Rattle.search_cases.proofs.cases.runs.Goals as goal

pub term-requires : goal.term-requires
term-requires c =
    let stand = subst (λ ids. StandAt c.placed.new.bank ids c.args.values.now) (sym c.deref.ensures.value)
    c.in_ok-places.ensures.stand in
    let h : IsBankEval c.args.spec.now c.run.new.self (instance c.args.values.now c.in-Some.conclusion.now.left)
    c.args.budget (Value c.in-Value.id c.in-Value.steps) = subst
    (λ r. IsBankEval c.args.spec.now c.run.new.self
    (instance c.args.values.now c.in-Some.conclusion.now.left) c.args.budget r) c.in-Value.is
    (c.in_ok-run.ensures.found c.args.values.now stand) in
    term_within c.run.new.self c.in-Value.id.0 h.0 h.1
