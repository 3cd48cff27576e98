use Rattle.clap.specs.Words.{app_of}
use Rattle.command_line.proofs.FlatApps.{is_simple_too, word_there, number_there, numeral_there}
use Rattle.command_line.proofs.matching.reading_of.Goals as goal

pub returns-in-Ok : goal.returns-in-Ok
returns-in-Ok c =
    let flat = c.requires in
    record {
      taken = c.in-Ok.ensures.kinds flat.simple;
      are = (c.in-Ok.ensures.matches (is_simple_too (app_of c.args.app) flat)).0;
      arguments = record {
        has_words = word_there c.args.app c.in-Ok.matches flat c.in-Ok.ensures.parsed;
        has_numbers = number_there c.args.app c.in-Ok.matches flat c.in-Ok.ensures.parsed;
        has_numerals = numeral_there c.args.app c.in-Ok.matches flat c.in-Ok.ensures.parsed;
      };
    }
