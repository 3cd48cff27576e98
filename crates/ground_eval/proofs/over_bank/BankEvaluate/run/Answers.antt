use Rattle.std.proofs.Common.{sym, ◌∙◌, subst, arith}
use Rattle.term_core.proofs.Items.{if_ok_map}
use Rattle.spec_core.specs.declared.records.Spec.{Spec}
use Rattle.spec_core.specs.TermText.{SymbolsAreInRange}
use Rattle.spec_core.proofs.Determined.{occurs_within}
use Rattle.rule_code.proofs.Ranges.{sorted_in_range}
use Rattle.ground_eval.proofs.LentBanks.{places_of_all, term_runs, run_found, run_only}
use Rattle.ground_eval.proofs.over_bank.BankEvaluate.run.Goals as goal

pub with_term-requires-clause-symbols : goal.with_term-requires-clause-symbols
with_term-requires-clause-symbols c =
    let can = c.requires.values.1 in
    let here = sorted_in_range c.args.spec.now.sig can.sorts c.args.term.now can.sort can.sorted in
    subst (λ (z : Spec). SymbolsAreInRange z.sig c.args.term.now) (sym c.in_ok-machine.ensures.spec) here

pub with_term-requires-clause-variables : goal.with_term-requires-clause-variables
with_term-requires-clause-variables c n o =
    let spec = c.args.spec.now in
    let t = c.args.term.now in
    let v = c.requires.values in
    let below = occurs_within spec.sig v.1.sorts t v.1.sort v.1.sorted n o in
    omega (arith, below, places_of_all spec c.args.self.now t c.args.values.now v.0 v.1)

pub run-requires-clause-sorted : goal.run-requires-clause-sorted
run-requires-clause-sorted c =
    let t = c.args.term.now in
    let v = c.requires.values in
    let same = c.in_ok-machine-2.ensures.spec ∙ c.in_ok-machine.ensures.spec in
    let runs = term_runs c.args.spec.now c.args.self.now t c.args.values.now
    c.in_ok-machine-2.machine c.in_ok-machine-2.side same c.in_ok-machine-2.ensures.side v.0 v.1 in
    (t, v.0, v.1.sort, runs)

pub returns-clause-found : goal.returns-clause-found
returns-clause-found c =
    let v = c.requires.values in
    let same = c.in_ok-machine-2.ensures.spec ∙ c.in_ok-machine.ensures.spec in
    if_ok_map c.run.result _ _
    (run_found c.args.spec.now c.args.self.now c.args.term.now c.args.values.now
    c.in_ok-machine-2.machine c.in_ok-machine-2.side same c.in_ok-machine-2.ensures.side v.0 v.1
    c.run.new.bank c.args.budget)
    c.run.ensures.found

pub returns-clause-only : goal.returns-clause-only
returns-clause-only c =
    let v = c.requires.values in
    let same = c.in_ok-machine-2.ensures.spec ∙ c.in_ok-machine.ensures.spec in
    if_ok_map c.run.result _ _
    (λ found ran terms stand.
    run_only c.args.spec.now c.args.self.now c.args.term.now c.args.values.now
    c.in_ok-machine-2.machine c.in_ok-machine-2.side same c.in_ok-machine-2.ensures.side v.0 v.1
    c.run.new.bank c.args.budget found ran terms stand c.requires.fine)
    c.run.ensures.found
