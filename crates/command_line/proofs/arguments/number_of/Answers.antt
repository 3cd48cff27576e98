use Rattle.std.proofs.Common.{◌∙◌}
use Rattle.std.specs.Str.Parse.{ParsesUnsigned, ExplainsUnsignedError, HasUnsignedDigitsIfOk}
use Rattle.clap.specs.Words.{found_of, rows_of}
use Rattle.clap.proofs.WalkLemmas.{one_text-rows}
use Rattle.command_line.proofs.ReadLemmas.{number_is}
use Rattle.command_line.proofs.arguments.number_of.Goals as goal

pub returns : goal.returns
returns c =
    let found = one_text-rows (found_of c.args.matches.now) c.args.name.now ∙ c.requires.there.found in
    number_is (λ bs r. ParsesUnsigned 32 10 bs r × ExplainsUnsignedError 10 bs r × HasUnsignedDigitsIfOk bs r)
    (rows_of (found_of c.args.matches.now)) c.args.name.now c.args.range c.get_one.result c.unwrap_or.result
    c.requires.there c.requires.small
    (c.get_one.ensures.value c.requires.there.text found) (λ x g. g.0) c.unwrap_or.ensures
