use Rattle.std.proofs.Common.{◌≡◌, ap, ◌∙◌, arith, length, take}
use Rattle.rule_code.proofs.Testing.{not_fits}
use Rattle.rule_code.proofs.left_sides.LeftSide.matches.Goals as goal

pub returns-then-not-fits : goal.returns-then-not-fits
returns-then-not-fits c =
    let top : c.len-top.result ≡ length c.args.places.now.items = omega (
      arith,
      c.len-top.ensures,
      c.args.places.now.ok,
    ) in
    not_fits c.args.bank.now c.args.self.now c.args.base c.args.places.now.items c.fits.new.places.items
    c.truncate.new.self.items c.in_ok-fits.fits c.in_ok-fits.ensures c.if-not-fits.true
    (c.truncate.ensures.items ∙ ap (λ n. take n c.fits.new.places.items) top)
