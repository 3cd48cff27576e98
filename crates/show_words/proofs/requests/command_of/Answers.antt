use Rattle.std.proofs.Common.{◌∙◌, codes, sym}
use Rattle.clap.specs.Words.{found_of}
use Rattle.clap.proofs.WalkLemmas.{first_value-rows}
use Rattle.show_words.proofs.Askings.{file_first}
use Rattle.show_words.proofs.requests.command_of.Goals as goal

pub word_of-requires : goal.word_of-requires
word_of-requires c = c.requires.has_words 0 (codes "FILE") (file_first c.args.word)

pub returns-clause-says : goal.returns-clause-says
returns-clause-says c =
    let found = found_of c.args.matches.now in
    record {
      file = c.word_of.ensures;
      goal = sym (c.get_str.ensures ∙ first_value-rows found (codes "goal"));
      view = c.view_of.ensures.says;
    }
