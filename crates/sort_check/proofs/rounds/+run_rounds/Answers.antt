use Rattle.std.proofs.Common.{rules, arith, Err, ◌≡◌, ◌∙◌, ap, suc, ◌-◌, length}
use Rattle.sort_check.specs.Rounds.{after_rounds, rounds_tests}
use Rattle.sort_check.proofs.Telling.{answer_err}
use Rattle.sort_check.proofs.RoundLaws.{rounds_fault, rounds_stop, rounds_next, within_long, round_long}
use Rattle.sort_check.proofs.rounds.+run_rounds.Goals as goal

pub returns-in_err-changed : goal.returns-in_err-changed
returns-in_err-changed t c =
    let e = c.in_err-changed.field-0.0 in
    let q : c.from_residual.result ≡ Err e = search rules in
    let n : c.args.count ≡ suc (c.args.count - 1) = omega arith in
    answer_err (rounds_tests c.args.count c.args.known.now c.args.pairs.now)
    (λ x. c.round.new.known ≡ after_rounds c.args.count c.args.known.now c.args.pairs.now)
    c.from_residual.result e q (rounds_fault c.args.count (c.args.count - 1) c.args.known.now
    c.args.pairs.now e n c.in_err-changed.ensures)

pub returns-then-not-changed : goal.returns-then-not-changed
returns-then-not-changed t c =
    let n : c.args.count ≡ suc (c.args.count - 1) = omega arith in
    let h = c.in_ok-changed.ensures in
    rounds_stop c.args.count (c.args.count - 1) c.args.known.now c.round.new.known c.args.pairs.now n h.0 h.1.0
    (h.1.1 (search rules))

pub run_rounds-requires : goal.run_rounds-requires
run_rounds-requires t c =
    let h = c.in_ok-changed.ensures in (
      omega arith,
      within_long c.args.known.now c.round.new.known c.args.pairs.now (ap (λ ks. length ks) h.1.0
          ∙ round_long c.args.known.now c.args.pairs.now) c.requires,
    )

pub returns : goal.returns
returns t c =
    let n : c.args.count ≡ suc (c.args.count - 1) = omega arith in
    let h = c.in_ok-changed.ensures in
    rounds_next c.args.count (c.args.count - 1) c.args.known.now c.round.new.known c.run_rounds.new.known
    c.args.pairs.now c.run_rounds.result n h.0 h.1.0 c.run_rounds.ensures
