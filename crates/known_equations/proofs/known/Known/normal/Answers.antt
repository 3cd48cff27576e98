use Rattle.std.proofs.Common.{ap, subst, ◌∙◌}
use Rattle.std.specs.Prelude.{IfOk}
use Rattle.substitutions.specs.Substitution.{apply}
use Rattle.substitutions.proofs.Instances.{apply_nothing}
use Rattle.known_equations.specs.Uses.{Rewrites}
use Rattle.known_equations.specs.Chains.{Chain}
use Rattle.known_equations.proofs.known.Known.normal.Goals as goal

pub returns-clause-chain : goal.returns-clause-chain
returns-clause-chain g c =
    let r = c.normal_instance.result in
    let t = c.args.term.now in
    let store = c.self.inside.store in
    subst (λ k. IfOk r (Chain (Rewrites (g.O.TermOrder.above k.order) k) t)) c.self.view_is
    (subst (λ u. IfOk r (Chain (Rewrites (g.O.TermOrder.above store.order) store) u))
    (ap (λ s. apply s t) c.new-entries.ensures ∙ apply_nothing t) c.normal_instance.ensures.chain)
