use Rattle.std.proofs.Common.{take}
use Rattle.rule_code.specs.Growing.{NoneHas}
use Rattle.rule_code.proofs.splitting.stands.Given as goal

abbrev pub invariant-loop-number : goal.invariant-loop-number
invariant-loop-number l = NoneHas l.rules (take l.number-index l.numbers) l.path l.sym
