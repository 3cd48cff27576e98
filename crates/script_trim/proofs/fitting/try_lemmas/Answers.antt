use Rattle.std.proofs.Common.{refl, ap, arith, length}
use Rattle.std.proofs.lemmas.List.{length-map}
use Rattle.std.proofs.lemmas.Option.{slice_get_read}
use Rattle.script_trim.specs.declared.lemmas.LemmaClause.{LemmaClause}
use Rattle.script_trim.specs.Closing.{by_whole_lemma, by_each_lemma}
use Rattle.script_trim.proofs.Adding.{adds_none, adds_all}
use Rattle.script_trim.proofs.Passing.{as_many_lemmas, skip_goal, take_goal}
use Rattle.script_trim.proofs.Whole.{lemma_there}
use Rattle.script_trim.proofs.fitting.try_lemmas.Goals as goal

pub try_lemma-requires-clause-there : goal.try_lemma-requires-clause-there
try_lemma-requires-clause-there g c = omega (
  arith,
  c.loop-number-test.true,
  as_many_lemmas c.args.lemmas.now c.args.spot.now.spec.now.goals c.requires.lemmas,
)

pub try_lemma-requires-clause-clause : goal.try_lemma-requires-clause-clause
try_lemma-requires-clause-clause g c = λ made at.
    let lemmas = c.args.lemmas.now in
    let k = c.loop-number.number in
    let item = c.index-lemmas-number.result in
    ap (λ (l : LemmaClause). l.clause) (lemma_there lemmas c.args.spot.now.spec.now.goals k made item
    c.requires.lemmas at
    (slice_get_read lemmas (length lemmas) k item refl c.loop-number-test.true c.index-lemmas-number.is))

pub loop-number-init : goal.loop-number-init
loop-number-init g c = adds_none (g.O.TermOrder.above c.args.order.now) c.args.spot.now c.args.fits.now.items

pub loop-number-preserved : goal.loop-number-preserved
loop-number-preserved g c =
    take_goal (g.O.TermOrder.above c.args.order.now) c.args.spot.now c.loop-number.number c.args.fits.now.items
    c.loop-number.fits.items _
    (omega (
      arith,
      c.loop-number-test.true,
      as_many_lemmas c.args.lemmas.now c.args.spot.now.spec.now.goals
          c.requires.lemmas,
    ))
    c.loop-number.invariant c.in_ok-try_lemma.ensures

pub loop-number-preserved-then-not-may_close : goal.loop-number-preserved-then-not-may_close
loop-number-preserved-then-not-may_close g c =
    skip_goal (g.O.TermOrder.above c.args.order.now) c.args.spot.now c.requires.spot c.args.wanted.now
    c.requires.wanted c.args.lemmas.now c.loop-number.number
    c.index-lemmas-number.result c.may_close.result c.args.fits.now.items c.loop-number.fits.items c.requires.lemmas
    c.loop-number-test.true c.index-lemmas-number.is
    c.may_close.ensures c.if-not-may_close.true c.loop-number.invariant

pub returns : goal.returns
returns g c =
    let goals = c.args.spot.now.spec.now.goals in
    adds_all (g.O.TermOrder.above c.args.order.now) c.args.spot.now (by_each_lemma goals) c.loop-number.number
    c.args.fits.now.items c.loop-number.fits.items
    (omega (
      arith,
      c.loop-number-test.false,
      as_many_lemmas c.args.lemmas.now goals c.requires.lemmas,
      length-map goals by_whole_lemma,
    )) c.loop-number.invariant
