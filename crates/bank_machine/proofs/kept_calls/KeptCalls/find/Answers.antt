use Rattle.std.proofs.Common.{sym, ◌∙◌}
use Rattle.rule_code.proofs.Ranges.{item_listed}
use Rattle.bank_machine.proofs.RightCalls.{says_known}
use Rattle.bank_machine.proofs.kept_calls.KeptCalls.find.Goals as goal

pub returns-then-same : goal.returns-then-same
returns-then-same c =
    let at = item_listed c.as_slice.result.now c.args.self.now.calls.items c.place_of-place.result
    c.in-Some.call.now c.as_slice.ensures.value c.in-Some.ensures.lookup.3.0 c.in-Some.ensures.lookup.1 in
    says_known c.args.self.now c.place_of-place.result c.in-Some.call.now c.args.sym c.args.args.now
    at c.if-call-sym.true (sym c.deref.ensures.value ∙ c.same.ensures.0 c.if-same.true)
