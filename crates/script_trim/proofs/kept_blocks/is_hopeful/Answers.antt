use Rattle.std.proofs.Common.{◌≡◌, Some, arith, length, sym, subst}
use Rattle.std.specs.Prelude.{Contains, IsTrue, slice_get}
use Rattle.clause_core.specs.declared.clauses.Clause.{Clause}
use Rattle.inference_rules.specs.Answers.{clauses_of}
use Rattle.inference_rules.specs.Nodes.{AreNodes}
use Rattle.script_trim.specs.Fitting.{own_steps, other_steps, AreFitting}
use Rattle.script_trim.specs.Sharing.{IsAlone}
use Rattle.script_trim.proofs.HopefulNodes.{itself_where_empty}
use Rattle.script_trim.proofs.kept_blocks.is_hopeful.Goals as goal

pub own_fits-requires-clause-nodes : goal.own_fits-requires-clause-nodes
own_fits-requires-clause-nodes g c =
    subst (λ ns. AreNodes c.args.admitted.now.spec.sig (clauses_of ns)) (sym c.as_slice-nodes.ensures.value)
    c.requires.nodes

pub other_fits-requires-clause-nodes : goal.other_fits-requires-clause-nodes
other_fits-requires-clause-nodes g c =
    subst (λ ns. AreNodes c.args.admitted.now.spec.sig (clauses_of ns)) (sym c.as_slice-nodes.ensures.value)
    c.requires.nodes

pub other_fits-requires-clause-alone : goal.other_fits-requires-clause-alone
other_fits-requires-clause-alone g c =
    subst (λ ns. IsTrue c.args.at.alone → (d : Clause) → slice_get (clauses_of ns) c.args.at.number ≡ Some d →
    IsAlone (clauses_of ns) c.args.at.number d) (sym c.as_slice-nodes.ensures.value) c.requires.alone

pub returns : goal.returns
returns g c = λ off.
    let above = g.O.TermOrder.above c.args.admitted.now.order in
    let spec = c.args.admitted.now.spec in
    let numbers = c.args.lemmas.now.numbers.items in
    let nodes = c.args.taken.now.nodes.items in
    let own = c.in_ok-own.own.items in
    let others = c.in_ok-others.others.items in
    let i = c.args.at.number in
    let before = c.args.at.before in
    let none_own : length c.in_ok-own.own.items ≡ 0 =
    grind (arith, c.if-not-is_empty.false, c.if-not-is_empty.ensures, c.is_empty-2.ensures) in
    let none_other : length c.in_ok-others.others.items ≡ 0 = grind (arith, off, c.is_empty-3.ensures) in
    itself_where_empty above spec numbers nodes c.args.taken.now.links.items i before own others
    (subst (λ ns. AreFitting above spec (Contains numbers) own_steps (clauses_of ns) before i own)
    c.as_slice-nodes.ensures.value c.in_ok-own.ensures) none_own
    (subst (λ ns. AreFitting above spec (Contains numbers) other_steps (clauses_of ns) before i others)
    c.as_slice-nodes.ensures.value c.in_ok-others.ensures) none_other
