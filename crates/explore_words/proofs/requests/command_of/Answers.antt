use Rattle.std.proofs.Common.{◌∙◌, codes, refl, sym}
use Rattle.clap.specs.Words.{found_of}
use Rattle.clap.proofs.WalkLemmas.{first_value-rows}
use Rattle.explore_words.specs.declared.ranges.TheConstants.{SAMPLES, SIZES, USUAL_SAMPLES, USUAL_SIZE}
use Rattle.explore_words.specs.declared.ranges.TheConstants.{USUAL_WORK, WORK}
use Rattle.explore_words.proofs.requests.command_of.Goals as goal

pub word_of-requires : goal.word_of-requires
word_of-requires c = c.requires.has_words 0 (codes "FILE") refl

pub number_of-requires-clause-there : goal.number_of-requires-clause-there
number_of-requires-clause-there c =
    c.requires.has_numbers 2 (codes "work") USUAL_WORK.now WORK refl

pub number_of-requires-2-clause-there : goal.number_of-requires-2-clause-there
number_of-requires-2-clause-there c =
    c.requires.has_numbers 3 (codes "size") USUAL_SIZE.now SIZES refl

pub number_of-requires-3-clause-there : goal.number_of-requires-3-clause-there
number_of-requires-3-clause-there c =
    c.requires.has_numbers 4 (codes "samples") USUAL_SAMPLES.now SAMPLES refl

pub returns-clause-says : goal.returns-clause-says
returns-clause-says c =
    let found = found_of c.args.matches.now in
    record {
      file = c.word_of.ensures;
      goal = sym (c.get_str.ensures ∙ first_value-rows found (codes "goal"));
      work = c.number_of.ensures;
      size = c.number_of-2.ensures;
      samples = c.number_of-3.ensures;
      no_lemmas = c.is_given.ensures;
      quiet = c.is_given-2.ensures;
    }
