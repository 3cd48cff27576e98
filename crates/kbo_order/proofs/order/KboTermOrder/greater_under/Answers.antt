use Rattle.std.proofs.Common.{◌∙◌, subst}
use Rattle.term_core.specs.References.{terms_of}
use Rattle.term_core.specs.Tree.{instance}
use Rattle.term_core.specs.Weights.{AreWeights}
use Rattle.kbo_order.proofs.Small.{small-told}
use Rattle.kbo_order.proofs.order.KboTermOrder.greater_under.Goals as goal

pub returns-clause-complete : goal.returns-clause-complete
returns-clause-complete c =
    let by = instance (terms_of c.args.list.now) in
    λ l m p.
    small-told (by c.args.t.now) (by c.args.s.now) c.above.result (c.as_slice.ensures ∙ c.self.view_is)
    (subst AreWeights c.self.view_is c.self.invariant) l c.above.ensures p
