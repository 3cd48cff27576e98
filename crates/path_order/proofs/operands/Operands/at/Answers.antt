use Rattle.std.proofs.Common.{◌∙◌, [], ap, sym, arith}
use Rattle.std.proofs.lemmas.List.{get_or-map, length-map}
use Rattle.path_order.specs.Listed.{listed}
use Rattle.term_order.specs.Operands.{read}
use Rattle.path_order.proofs.operands.Operands.at.Goals as goal

pub returns : goal.returns
returns c =
    λ values x.
    let terms = listed c.args.self.terms.numbers c.args.self.terms.terms.now in
    let f = read values c.args.self.are_patterns in
    ap f (c.at.ensures x)
    ∙ sym (get_or-map f terms c.args.index x x (omega
    (arith, c.requires, length-map terms (read [] c.args.self.are_patterns))))
