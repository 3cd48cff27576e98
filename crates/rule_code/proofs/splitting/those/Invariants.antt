use Rattle.std.proofs.Common.{take}
use Rattle.rule_code.specs.Growing.{AreThose}
use Rattle.rule_code.proofs.splitting.those.Given as goal

abbrev pub invariant-loop-number : goal.invariant-loop-number
invariant-loop-number l = AreThose l.rules (take l.number-index l.numbers) l.path l.wanted l.those.items
