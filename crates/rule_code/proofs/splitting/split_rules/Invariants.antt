use Rattle.rule_code.proofs.Parts.{IsSplitting}
use Rattle.rule_code.proofs.splitting.split_rules.Given as goal

abbrev pub invariant-loop-sym : goal.invariant-loop-sym
invariant-loop-sym l = IsSplitting l.rules l.first l.numbers l.path l.low l.end l.sym l.cases.items l.nodes.items
