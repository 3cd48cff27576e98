use Rattle.std.proofs.Common.{rules, ◌≡◌, ◌∷◌}
use Rattle.spec_core.proofs.OneSort.{other_sort}
use Rattle.spec_core.proofs.symbols.Signature.+sort.Goals as goal

pub are_sorted-returns-else-found-sort : goal.are_sorted-returns-else-found-sort
are_sorted-returns-else-found-sort t c =
    let e : c.args.terms.now ≡ c.in-Some-Some.term.now ∷ c.in-Some-Some.terms.now = search rules in
    let d : c.args.sorts.now ≡ c.in-Some-Some.sort.now ∷ c.in-Some-Some.sorts.now = search rules in
    other_sort c.args.self.now c.args.ctx.now c.args.terms.now c.args.sorts.now c.in-Some-Some.term.now
    c.in-Some-Some.terms.now c.in-Some-Some.sort.now c.in-Some.found c.in-Some-Some.sorts.now e d
    c.in-Some.ensures c.if-found-sort.false
