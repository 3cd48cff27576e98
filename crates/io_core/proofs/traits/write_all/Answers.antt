use Rattle.std.proofs.Common.{◌≡◌, ◌-◌, length, take, drop, take_all, length-drop, arith}
use Rattle.io_core.proofs.Pieces.{Appended-take}
use Rattle.io_core.proofs.traits.write_all.Goals as goal

pub loop-at-preserved : goal.loop-at-preserved
loop-at-preserved g c =
    let piece = c.args.piece.now in
    let at = c.loop-at.at in
    let rest : take (length piece - at) (drop at piece) ≡ drop at piece = take_all (length piece - at)
    (drop at piece) (omega (arith, length-drop at piece)) in
    record {
      within = omega (arith, rw rest at c.in_ok-n.ensures.within, length-drop at piece);
      done = Appended-take _ (g.S.Sink.written c.loop-at.out) _ piece at c.in_ok-n.n c.loop-at.invariant.done
          (rw rest at c.in_ok-n.ensures.appended);
      counts = omega (arith, c.in_ok-n.ensures.counts, c.loop-at.invariant.counts);
      bound = λ _. c.in_ok-n.ensures.bound;
    }
