use Rattle.substitutions.proofs.SortedEntries.{has_sort}
use Rattle.substitutions.proofs.subst.Subst.has_sort.Goals as goal

pub returns-in-Some-sort_of : goal.returns-in-Some-sort_of
returns-in-Some-sort_of c = has_sort c.args.sig.now c.args.ctx.now c.args.self.now.terms c.args.place
    c.in-Some.term.now c.in-Some-sort_of.found c.args.sort c.in-Some.ensures c.in-Some-sort_of.ensures
