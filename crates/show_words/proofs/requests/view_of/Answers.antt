use Rattle.std.proofs.Common.{codes, refl, subst}
use Rattle.clap.specs.Words.{found_of, rows_of}
use Rattle.command_line.specs.Readings.{HasArguments}
use Rattle.command_line.specs.declared.ranges.TheConstants.{DEPTHS, NODES, PLAIN, STEPS, TRIES, USUAL_DEPTH}
use Rattle.command_line.specs.declared.ranges.TheConstants.{USUAL_NODES, USUAL_PLAIN, USUAL_STEPS, USUAL_TRIES}
use Rattle.show_words.specs.declared.requests.CommandWord.{CommandWord}
use Rattle.show_words.specs.Words.{app_for}
use Rattle.show_words.proofs.requests.view_of.Goals as goal

pub word_of-requires : goal.word_of-requires
word_of-requires c =
    let there = subst (λ (w : CommandWord). HasArguments (app_for w) (rows_of (found_of c.args.matches.now)))
    c.in-Page.is c.requires in
    there.has_words 1 (codes "REPORT") refl

pub proof_bounds_of-requires : goal.proof_bounds_of-requires
proof_bounds_of-requires c =
    let there = subst (λ (w : CommandWord). HasArguments (app_for w) (rows_of (found_of c.args.matches.now)))
    c.in-Open.is c.requires in
    record {
      search = record {
        depth = there.has_numbers 2 (codes "depth") USUAL_DEPTH.now DEPTHS refl;
        tries = there.has_numbers 3 (codes "tries") USUAL_TRIES.now TRIES refl;
        steps = there.has_numbers 4 (codes "steps") USUAL_STEPS.now STEPS refl;
      };
      plain = there.has_numbers 5 (codes "plain") USUAL_PLAIN.now PLAIN refl;
      nodes = there.has_numbers 6 (codes "nodes") USUAL_NODES.now NODES refl;
    }
