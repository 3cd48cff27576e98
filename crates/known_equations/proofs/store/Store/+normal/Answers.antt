use Rattle.std.proofs.Common.{◌≡◌, ap, subst, sym, ◌∙◌, map, arith}
use Rattle.std.specs.Prelude.{IfOk, IfSome}
use Rattle.term_core.specs.Tree.{app, trees_of}
use Rattle.term_core.specs.View.{tree_of}
use Rattle.substitutions.specs.Substitution.{apply, apply_all}
use Rattle.substitutions.proofs.Instances.{apply_all-trees_of}
use Rattle.known_equations.specs.Uses.{Rewrites}
use Rattle.known_equations.specs.Found.{IsUse}
use Rattle.known_equations.specs.Chains.{Chain, stays, nothing}
use Rattle.known_equations.proofs.ChainLists.{stays_if_ok, below_if_ok, at_root_if_ok, instances_more}
use Rattle.known_equations.proofs.store.Store.+normal.Goals as goal

pub normal_at_root-returns-then-fuel-eq0-clause-chain :
    goal.normal_at_root-returns-then-fuel-eq0-clause-chain
normal_at_root-returns-then-fuel-eq0-clause-chain g t c = stays _

pub normal_at_root-returns-in_default-clause-chain :
    goal.normal_at_root-returns-in_default-clause-chain
normal_at_root-returns-in_default-clause-chain g t c = stays _

pub normal_at_root-returns-clause-chain : goal.normal_at_root-returns-clause-chain
normal_at_root-returns-clause-chain g t c =
    let k = c.args.self.now in
    let above = g.O.TermOrder.above k.order in
    at_root_if_ok (Rewrites above k) c.normal_instance.result c.args.term
    (apply c.in-Some.found.entries.terms c.in-Some.found.to)
    (subst (λ found. IfSome found (IsUse above k c.args.term)) c.in-Some.is c.in_ok-found.ensures)
    c.normal_instance.ensures.chain

pub normal_instance-returns-then-fuel-eq0-clause-chain :
    goal.normal_instance-returns-then-fuel-eq0-clause-chain
normal_instance-returns-then-fuel-eq0-clause-chain g t c =
    let k = c.args.self.now in
    stays_if_ok (Rewrites (g.O.TermOrder.above k.order) k) _ _ c.apply-then-fuel-eq0.ensures

pub normal_instance-returns-in-Var-clause-chain : goal.normal_instance-returns-in-Var-clause-chain
normal_instance-returns-in-Var-clause-chain g t c =
    let k = c.args.self.now in
    stays_if_ok (Rewrites (g.O.TermOrder.above k.order) k) _ _ c.apply.ensures

pub normal_instance-returns-in_ok-made-in-App-clause-chain :
    goal.normal_instance-returns-in_ok-made-in-App-clause-chain
normal_instance-returns-in_ok-made-in-App-clause-chain g t c =
    let k = c.args.self.now in
    let uses = Rewrites (g.O.TermOrder.above k.order) k in
    let s = c.args.entries.now.terms in
    let ps = c.as_slice-patterns.result.now in
    let us = c.in_ok-made-in-App.made in
    let f = c.in-App.sym.0 in
    let view : app f (trees_of c.in-App.patterns) ≡ c.args.pattern.now = ap tree_of (sym c.in-App.is)
    ∙ c.pattern.view_is in
    let is : app f (trees_of (map (apply s) ps)) ≡ apply s c.args.pattern.now =
    ap (λ xs. app f xs) (sym (apply_all-trees_of s ps)) ∙ ap (λ xs. app f (apply_all s (trees_of xs))) c.as_slice-patterns.ensures
    ∙ ap (apply s) view in
    subst (λ x. IfOk c.normal_at_root.result (Chain uses x)) is
    (below_if_ok uses c.normal_at_root.result f (map (apply s) ps) us c.in_ok-made-in-App.ensures.chains
    (subst (λ x. IfOk c.normal_at_root.result (Chain uses x)) c.app.ensures c.normal_at_root.ensures.chain))

pub normal_instances-loop-pattern-init : goal.normal_instances-loop-pattern-init
normal_instances-loop-pattern-init g t c = record { fuel = omega arith; chains = rw c.in_ok-made.ensures nothing }

pub normal_instances-loop-pattern-preserved : goal.normal_instances-loop-pattern-preserved
normal_instances-loop-pattern-preserved g t c =
    let k = c.args.self.now in
    record {
      fuel = omega (arith, c.in_ok-normal_instance.ensures.fuel);
      chains =
          instances_more (Rewrites (g.O.TermOrder.above k.order) k) c.args.entries.now.terms
          c.args.patterns.now c.loop-pattern.made c.push.new.self c.loop-pattern.pattern-index
          c.pattern-item.result c.in_ok-normal_instance.field-0 c.loop-pattern-test.true
          c.pattern-item.is c.in_ok-push.ensures.pushed c.loop-pattern.invariant.chains
          c.in_ok-normal_instance.ensures.chain;
    }
