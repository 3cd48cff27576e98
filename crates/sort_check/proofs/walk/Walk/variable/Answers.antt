use Rattle.std.proofs.Common.{rules}
use Rattle.sort_check.specs.declared.faults.SortKind.TheVariants.{WrongSort}
use Rattle.sort_check.proofs.Walks.{known_answers, new_answers}
use Rattle.sort_check.proofs.walk.Walk.variable.Goals as goal

pub returns-in_ok-known_variable-in-Some-clause-answer :
    goal.returns-in_ok-known_variable-in-Some-clause-answer
returns-in_ok-known_variable-in-Some-clause-answer c =
    known_answers c.args.self.now.part c.args.entries.now.items c.known_variable.new.entries.items c.args.wrong
    c.args.name.now c.args.at c.args.place c.in-Some.number (search rules)
    c.in_ok-known_variable-in-Some.ensures.0 c.in_ok-known_variable-in-Some.ensures.1

pub returns-in-None-clause-answer : goal.returns-in-None-clause-answer
returns-in-None-clause-answer c =
    new_answers c.args.self.now.part c.args.entries.now.items c.new_variable.new.entries.items c.args.wrong
    c.args.name.now c.args.at c.args.place WrongSort c.new_variable.result (search rules)
    c.new_variable.ensures.answer
