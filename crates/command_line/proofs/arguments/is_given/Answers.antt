use Rattle.std.proofs.Common.{◌∙◌, codes}
use Rattle.clap.specs.Words.{found_of, first_of, rows_of}
use Rattle.clap.proofs.WalkLemmas.{first_value-rows}
use Rattle.command_line.proofs.ReadLemmas.{text_compared, none_compared}
use Rattle.command_line.proofs.arguments.is_given.Goals as goal

pub returns-in-Some : goal.returns-in-Some
returns-in-Some c =
    text_compared (first_of c.args.name.now (rows_of (found_of c.args.matches.now))) c.in-Some.text.now
    (codes "true") c.eq.result
    (c.in-Some.ensures ∙ first_value-rows (found_of c.args.matches.now) c.args.name.now) c.eq.ensures

pub returns-in-None : goal.returns-in-None
returns-in-None c =
    none_compared (first_of c.args.name.now (rows_of (found_of c.args.matches.now))) (codes "true")
    (c.in-None.ensures ∙ first_value-rows (found_of c.args.matches.now) c.args.name.now)
