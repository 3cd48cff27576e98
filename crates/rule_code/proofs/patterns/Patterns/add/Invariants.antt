use Rattle.std.proofs.Common.{◌≡◌, ◌++◌, take}
use Rattle.rule_code.proofs.patterns.Patterns.add.Given as goal

abbrev pub invariant-loop-pattern : goal.invariant-loop-pattern
invariant-loop-pattern l = l.self ≡ l.initial.self ++ take l.pattern-index l.patterns
