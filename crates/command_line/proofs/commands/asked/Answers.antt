-- Each command has the words and the numbers that it takes.
use Rattle.std.proofs.Common.{refl, codes}
use Rattle.clap.specs.Words.{found_of, rows_of}
use Rattle.command_line.specs.declared.ranges.TheConstants.{GOALS, NODES, PLAIN, STEPS, USUAL_NODES, USUAL_PLAIN}
use Rattle.command_line.specs.declared.ranges.TheConstants.{USUAL_STEPS}
use Rattle.command_line.specs.declared.table.CommandWord.TheVariants.{Check, Eval, Prove, Refute, Replay, Load}
use Rattle.command_line.specs.declared.table.CommandWord.TheVariants.{Upgrade, Trim, Session}
use Rattle.command_line.proofs.Askings.{bounds_at, number_at, numeral_at, word_at}
use Rattle.command_line.proofs.commands.asked.Goals as goal

pub word_of-requires : goal.word_of-requires
word_of-requires c =
    word_at c.args.command Check (rows_of (found_of c.args.matches.now)) c.in-Check.is c.requires 0
    (codes "FILE") refl

pub word_of-requires-in-Eval : goal.word_of-requires-in-Eval
word_of-requires-in-Eval c =
    word_at c.args.command Eval (rows_of (found_of c.args.matches.now)) c.in-Eval.is c.requires 0
    (codes "FILE") refl

pub word_of-requires-in-Eval-2 : goal.word_of-requires-in-Eval-2
word_of-requires-in-Eval-2 c =
    word_at c.args.command Eval (rows_of (found_of c.args.matches.now)) c.in-Eval.is c.requires 1
    (codes "TERM") refl

pub number_of-requires-clause-there : goal.number_of-requires-clause-there
number_of-requires-clause-there c =
    number_at c.args.command Eval (rows_of (found_of c.args.matches.now)) c.in-Eval.is c.requires 2
    (codes "steps") USUAL_STEPS.now STEPS refl

pub word_of-requires-in-Prove : goal.word_of-requires-in-Prove
word_of-requires-in-Prove c =
    word_at c.args.command Prove (rows_of (found_of c.args.matches.now)) c.in-Prove.is c.requires 0
    (codes "FILE") refl

pub proof_bounds_of-requires : goal.proof_bounds_of-requires
proof_bounds_of-requires c =
    let rows = rows_of (found_of c.args.matches.now) in
    record {
      search = bounds_at c.args.command Prove rows c.in-Prove.is c.requires refl refl refl;
      plain =
          number_at c.args.command Prove rows c.in-Prove.is c.requires 4 (codes "plain")
          USUAL_PLAIN.now PLAIN refl;
      nodes =
          number_at c.args.command Prove rows c.in-Prove.is c.requires 5 (codes "nodes")
          USUAL_NODES.now NODES refl;
    }

pub word_of-requires-in-Refute : goal.word_of-requires-in-Refute
word_of-requires-in-Refute c =
    word_at c.args.command Refute (rows_of (found_of c.args.matches.now)) c.in-Refute.is c.requires 0
    (codes "FILE") refl

pub search_bounds_of-requires : goal.search_bounds_of-requires
search_bounds_of-requires c =
    bounds_at c.args.command Refute (rows_of (found_of c.args.matches.now)) c.in-Refute.is c.requires
    refl refl refl

pub word_of-requires-in-Replay : goal.word_of-requires-in-Replay
word_of-requires-in-Replay c =
    word_at c.args.command Replay (rows_of (found_of c.args.matches.now)) c.in-Replay.is c.requires 0
    (codes "FILE") refl

pub word_of-requires-in-Replay-2 : goal.word_of-requires-in-Replay-2
word_of-requires-in-Replay-2 c =
    word_at c.args.command Replay (rows_of (found_of c.args.matches.now)) c.in-Replay.is c.requires 1
    (codes "REPORT") refl

pub number_of-requires-in-Load-clause-there : goal.number_of-requires-in-Load-clause-there
number_of-requires-in-Load-clause-there c =
    numeral_at c.args.command Load (rows_of (found_of c.args.matches.now)) c.in-Load.is c.requires 0
    (codes "N") GOALS refl

pub word_of-requires-in-Upgrade : goal.word_of-requires-in-Upgrade
word_of-requires-in-Upgrade c =
    word_at c.args.command Upgrade (rows_of (found_of c.args.matches.now)) c.in-Upgrade.is c.requires 0
    (codes "FILE") refl

pub word_of-requires-in-Trim : goal.word_of-requires-in-Trim
word_of-requires-in-Trim c =
    word_at c.args.command Trim (rows_of (found_of c.args.matches.now)) c.in-Trim.is c.requires 0
    (codes "FILE") refl

pub word_of-requires-in-Trim-2 : goal.word_of-requires-in-Trim-2
word_of-requires-in-Trim-2 c =
    word_at c.args.command Trim (rows_of (found_of c.args.matches.now)) c.in-Trim.is c.requires 1
    (codes "REPORT") refl

pub word_of-requires-in-Session : goal.word_of-requires-in-Session
word_of-requires-in-Session c =
    word_at c.args.command Session (rows_of (found_of c.args.matches.now)) c.in-Session.is c.requires 0
    (codes "FILE") refl

pub word_of-requires-in-Session-2 : goal.word_of-requires-in-Session-2
word_of-requires-in-Session-2 c =
    word_at c.args.command Session (rows_of (found_of c.args.matches.now)) c.in-Session.is c.requires 1
    (codes "COMMANDS") refl
