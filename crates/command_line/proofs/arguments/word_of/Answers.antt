use Rattle.std.proofs.Common.{◌∙◌}
use Rattle.clap.specs.Words.{found_of, first_of, rows_of}
use Rattle.clap.proofs.WalkLemmas.{first_value-rows}
use Rattle.command_line.proofs.ReadLemmas.{text_is}
use Rattle.command_line.proofs.arguments.word_of.Goals as goal

pub returns : goal.returns
returns c =
    text_is c.get_str.result _ c.unwrap_or.result (first_of c.args.name.now (rows_of (found_of c.args.matches.now)))
    (c.get_str.ensures ∙ first_value-rows (found_of c.args.matches.now) c.args.name.now) c.requires c.unwrap_or.ensures
