use Rattle.std.proofs.Common.{◌<◌, sym, subst, length}
use Rattle.term_core.proofs.Items.{if_ok_map}
use Rattle.rule_code.specs.Programs.{Program}
use Rattle.bank_machine.proofs.Fuelled.{code_there}
use Rattle.bank_machine.proofs.RightCalls.{right_kept}
use Rattle.bank_machine.proofs.machine.Machine.turn.Goals as goal

pub at-kind-requires : goal.at-kind-requires
at-kind-requires c =
    let q = c.requires.works in
    subst (λ (p : Program). c.args.stack.now.next < length p.code) (sym c.self.view_is)
    (code_there c.args.self.now.code c.args.stack.now.next q.0.top.steps q.0.top.end q.2.at.code)

pub build-requires-clause-works : goal.build-requires-clause-works
build-requires-clause-works c =
    let q = c.requires.works in
    (q.0, q.1, q.2)

pub call-requires-clause-works : goal.call-requires-clause-works
call-requires-clause-works c =
    let q = c.requires.works in
    (q.0, q.1, q.2)

pub call_last-requires-clause-works : goal.call_last-requires-clause-works
call_last-requires-clause-works c =
    let q = c.requires.works in
    (q.0, q.1, q.2)

pub decide-requires-clause-works : goal.decide-requires-clause-works
decide-requires-clause-works c =
    let q = c.requires.works in
    (q.0, q.1, q.2)

pub returns-in-Build-clause-turn : goal.returns-in-Build-clause-turn
returns-in-Build-clause-turn c = if_ok_map c.build.result _ _ (λ turn h. h c.args.left) c.build.ensures.turn

pub returns-in-Build-clause-kept : goal.returns-in-Build-clause-kept
returns-in-Build-clause-kept c = right_kept c.args.self.now.spec c.args.bank.now c.build.new.bank
    c.args.kept.now c.build.ensures.adds c.requires.kept

pub returns-in-Decide-clause-turn : goal.returns-in-Decide-clause-turn
returns-in-Decide-clause-turn c = c.decide.ensures c.args.left
