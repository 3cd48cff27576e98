use Rattle.std.proofs.Common.{◌≡◌, ◌-◌, Some, ap, sym, ◌∙◌, subst}
use Rattle.std.specs.Prelude.{slice_get}
use Rattle.rule_code.specs.Instructions.{instruction}
use Rattle.rule_code.specs.Programs.{Program}
use Rattle.bank_machine.specs.KeptCalls.{IsRight}
use Rattle.bank_machine.specs.Stacks.{gathered}
use Rattle.bank_machine.proofs.RightCalls.{step_before, right_also}
use Rattle.bank_machine.proofs.machine.Machine.keep.Goals as goal

pub returns-in_ok-gather-in-Call : goal.returns-in_ok-gather-in-Call
returns-in_ok-gather-in-Call c =
    let spec = c.args.self.now.spec in
    let cells = c.args.bank.now in
    let stack = c.args.stack.now in
    let q = c.requires.called in
    let at : slice_get c.args.self.now.code (stack.next - 1) ≡ Some
    (instruction c.at-kind.result.0 c.at-kind.result.1.now) = subst
    (λ (z : Program). slice_get z.code (stack.next - 1) ≡ Some
    (instruction c.at-kind.result.0 c.at-kind.result.1.now)) c.self.view_is c.at-kind.ensures.is in
    let same = step_before c.args.self.now.code q.2.place stack.next q.0 c.in-Call.sym q.1
    c.at-kind.result.1.now c.at-kind.result.0 q.2.next q.2.there at c.in-Call.is in
    let args : c.deref.result.now ≡ gathered stack.places.items stack.base q.1 = c.deref.ensures.value
    ∙ c.in_ok-gather-in-Call.ensures ∙ ap (λ ss. gathered stack.places.items stack.base ss) same.1 in
    let right : IsRight spec cells c.in-Call.sym c.deref.result.now c.args.known = subst
    (λ f. IsRight spec cells f c.deref.result.now c.args.known) (sym same.0)
    (subst (λ ps. IsRight spec cells q.0 ps c.args.known) (sym args) q.3) in
    right_also spec cells c.args.kept.now c.keep.new.self c.in-Call.sym c.deref.result.now c.args.known
    c.requires.kept right c.keep.ensures
