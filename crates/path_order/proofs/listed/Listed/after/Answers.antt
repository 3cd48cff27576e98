use Rattle.std.proofs.Common.{◌∙◌, ap, sym, map, drop, ◌+◌}
use Rattle.std.proofs.lemmas.List.{drop-map}
use Rattle.path_order.specs.Arranged.{numbered}
use Rattle.path_order.specs.Listed.{listed}
use Rattle.path_order.proofs.Deciding.{whole-rest}
use Rattle.path_order.proofs.listed.Listed.after.Goals as goal

pub returns-in-Some : goal.returns-in-Some
returns-in-Some c =
    let f = numbered c.args.self.terms.now in
    let ns = c.in-Some.numbers.now in
    ap (map f) (whole-rest ns (c.args.index + 1)) ∙ sym (drop-map f (c.args.index + 1) ns)
    ∙ ap (λ n. drop (c.args.index + 1) (listed n c.args.self.terms.now)) (sym c.in-Some.is)
