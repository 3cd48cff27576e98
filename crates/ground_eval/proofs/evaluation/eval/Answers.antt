use Rattle.std.proofs.Common.{[], Err, subst}
use Rattle.term_core.specs.Tree.{instance}
use Rattle.value_bank.specs.Answers.{IsAnswer}
use Rattle.value_bank.proofs.Placed.{term_within}
use Rattle.bank_machine.specs.declared.answers.BankEval.TheVariants as found
use Rattle.bank_machine.specs.Runs.{IsBankEval}
use Rattle.ground_eval.specs.declared.answers.Eval.TheVariants.{Value, Large}
use Rattle.ground_eval.proofs.Same.{eval_only, value_read, value_large, none_found}
use Rattle.ground_eval.proofs.evaluation.eval.Goals as goal

pub run-requires-clause-values : goal.run-requires-clause-values
run-requires-clause-values c =
    ([], record { sorts = []; sort = c.requires.sorted.0; sorted = c.requires.sorted.1; stand = tt; are = tt })

pub returns-in-Spent-clause-found : goal.returns-in-Spent-clause-found
returns-in-Spent-clause-found c =
    none_found c.args.spec.now c.run.new.self c.args.term.now c.args.budget
    (subst (λ r. IsBankEval c.args.spec.now c.run.new.self (instance [] c.args.term.now) c.args.budget r)
    c.in-Spent.is (c.in_ok-run.ensures.found [] tt))

pub term-requires : goal.term-requires
term-requires c =
    let h : IsBankEval c.args.spec.now c.run.new.self (instance [] c.args.term.now) c.args.budget
    (found.Value c.in-Value.id c.in-Value.steps) = subst
    (λ r. IsBankEval c.args.spec.now c.run.new.self (instance [] c.args.term.now) c.args.budget r)
    c.in-Value.is (c.in_ok-run.ensures.found [] tt) in
    term_within c.run.new.self c.in-Value.id.0 h.0 h.1

pub returns-in-Ok-clause-found : goal.returns-in-Ok-clause-found
returns-in-Ok-clause-found c =
    let h = subst (λ r. IsBankEval c.args.spec.now c.run.new.self (instance [] c.args.term.now) c.args.budget r)
    c.in-Value.is (c.in_ok-run.ensures.found [] tt) in
    value_read c.args.spec.now c.run.new.self c.args.term.now c.args.budget c.in-Value.id c.in-Value.steps h
    c.in-Ok.value c.in-Ok.ensures

pub returns-in-Ok-clause-only : goal.returns-in-Ok-clause-only
returns-in-Ok-clause-only c =
    let h = subst (λ r. IsBankEval c.args.spec.now c.run.new.self (instance [] c.args.term.now) c.args.budget r)
    c.in-Value.is (c.in_ok-run.ensures.found [] tt) in
    eval_only c.args.spec.now c.requires.fine c.args.term.now c.requires.sorted.0 c.args.budget
    (Value c.in-Ok.value c.in-Value.steps) c.requires.sorted.1
    (value_read c.args.spec.now c.run.new.self c.args.term.now c.args.budget c.in-Value.id c.in-Value.steps
    h c.in-Ok.value c.in-Ok.ensures)

pub returns-in-Err-Large-clause-found : goal.returns-in-Err-Large-clause-found
returns-in-Err-Large-clause-found c =
    let h = subst (λ r. IsBankEval c.args.spec.now c.run.new.self (instance [] c.args.term.now) c.args.budget r)
    c.in-Value.is (c.in_ok-run.ensures.found [] tt) in
    value_large c.args.spec.now c.run.new.self c.args.term.now c.args.budget c.in-Value.id c.in-Value.steps h
    (subst (λ e. IsAnswer c.run.new.self c.in-Value.id.0 (Err e)) c.in-Err-Large.field-0-is c.in-Err-Large.ensures)

pub returns-in-Err-Large-clause-only : goal.returns-in-Err-Large-clause-only
returns-in-Err-Large-clause-only c =
    let h = subst (λ r. IsBankEval c.args.spec.now c.run.new.self (instance [] c.args.term.now) c.args.budget r)
    c.in-Value.is (c.in_ok-run.ensures.found [] tt) in
    eval_only c.args.spec.now c.requires.fine c.args.term.now c.requires.sorted.0 c.args.budget
    (Large c.in-Value.steps) c.requires.sorted.1 (value_large c.args.spec.now c.run.new.self c.args.term.now
    c.args.budget c.in-Value.id c.in-Value.steps h
    (subst (λ e. IsAnswer c.run.new.self c.in-Value.id.0 (Err e)) c.in-Err-Large.field-0-is c.in-Err-Large.ensures))
