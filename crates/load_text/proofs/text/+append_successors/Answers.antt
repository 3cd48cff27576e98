use Rattle.std.proofs.Common.{◌≢◌, arith}
use Rattle.load_text.proofs.Bytes.{successors_text}
use Rattle.load_text.proofs.text.+append_successors.Goals as goal

pub returns : goal.returns
returns t c =
    let h : c.args.height ≢ 0 = omega arith in
    successors_text _ _ _ _ c.args.inner.now c.args.height h
    c.in_ok-extend_from_slice-2.ensures.items c.in_ok-append_successors.ensures
    c.in_ok-push.ensures.items
