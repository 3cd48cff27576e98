use Rattle.std.proofs.Common.{◌∙◌, ap, sym, map, ◌+◌}
use Rattle.std.proofs.lemmas.List.{drop-map}
use Rattle.path_order.specs.Listed.{listed}
use Rattle.term_order.specs.Operands.{read}
use Rattle.path_order.proofs.operands.Operands.after.Goals as goal

pub returns : goal.returns
returns c =
    λ values.
    let terms = listed c.args.self.terms.numbers c.args.self.terms.terms.now in
    let f = read values c.args.self.are_patterns in
    ap (map f) c.after.ensures ∙ sym (drop-map f (c.args.index + 1) terms)
