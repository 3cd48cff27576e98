use Rattle.std.proofs.Common.{◌≡◌, ◌/◌, min, max, ap}
use Rattle.script_trim.specs.Keys.{stirred, both_hashed}
use Rattle.script_trim.proofs.keys.both.Goals as goal

pub returns : goal.returns
unfolding both_hashed
returns c =
    let e : c.stir.result ≡ stirred (min c.args.hash c.args.other) (max c.args.hash c.args.other) = cc in
    ap (λ n. n / 4294967296) e
