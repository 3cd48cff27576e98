use Rattle.inference_rules.proofs.SortedTerms.{sort_is}
use Rattle.inference_rules.proofs.terms.has_sort.Goals as goal

pub returns-in-Some : goal.returns-in-Some
returns-in-Some c = sort_is c.args.sig.now c.args.ctx.now c.args.term.now c.in-Some.found c.args.sort c.in-Some.ensures
