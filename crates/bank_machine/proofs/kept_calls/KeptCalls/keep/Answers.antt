use Rattle.std.proofs.Common.{refl, arith}
use Rattle.std.specs.Vec.{with_item}
use Rattle.bank_machine.specs.declared.kept_calls.KeptCalls.{KeptCalls}
use Rattle.bank_machine.proofs.RightCalls.{says_also, says_before, says_less}
use Rattle.bank_machine.proofs.kept_calls.KeptCalls.keep.Goals as goal

pub returns-in_ok-replace : goal.returns-in_ok-replace
returns-in_ok-replace c =
    let new : KeptCalls = record {
      alloc = c.begin.new.self.alloc;
      calls = with_item c.begin.new.self.calls
          c.place_of-place.result c.replace.new.self;
    } in
    says_also c.args.self.now c.begin.new.self new c.place_of-place.result c.replace.new.self c.args.sym
    c.args.args.now c.args.known c.begin.ensures (omega (arith, c.len.ensures)) refl c.in_ok-replace.ensures.kept

pub returns-in_err-replace : goal.returns-in_err-replace
returns-in_err-replace c =
    let new : KeptCalls = record {
      alloc = c.begin.new.self.alloc;
      calls = with_item c.begin.new.self.calls
          c.place_of-place.result c.replace.new.self;
    } in
    says_before c.args.self.now new c.args.sym c.args.args.now c.args.known
    (says_less c.args.self.now c.begin.new.self new c.place_of-place.result c.replace.new.self
    c.begin.ensures (omega (arith, c.len.ensures)) refl c.in_err-replace.ensures.cleared)
