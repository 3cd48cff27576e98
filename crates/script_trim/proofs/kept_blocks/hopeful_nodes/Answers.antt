use Rattle.std.proofs.Common.{◌≡◌, ℕ, ◌+◌, ◌<◌, ◌≤◌, Some, true, false, length, get_or, sym, ◌∙◌, ap, subst}
use Rattle.std.proofs.Common.{arith}
use Rattle.std.specs.Prelude.{slice_get}
use Rattle.clause_core.specs.declared.clauses.Clause.{Clause}
use Rattle.inference_rules.specs.Answers.{clauses_of}
use Rattle.script_trim.specs.Sharing.{IsAlone}
use Rattle.script_trim.proofs.HopefulNodes.{TellHopeless, node_within, one_told, within}
use Rattle.script_trim.proofs.SharedKeys.{flag_there}
use Rattle.script_trim.proofs.kept_blocks.hopeful_nodes.Goals as goal

pub overflow_add-after : goal.overflow_add-after
overflow_add-after g c =
    let links = c.args.taken.now.links.items in
    let lt : c.loop-node.node < length c.args.taken.now.links.items =
    omega (arith, c.loop-node-test.true, ap length c.as_slice-made-items.ensures.value) in
    let is : c.made-item.result ≡ get_or c.args.taken.now.links.items c.loop-node.node c.made-item.result =
    c.made-item.is ∙ ap (λ ls. get_or ls c.loop-node.node c.made-item.result)
    c.as_slice-made-items.ensures.value in
    let few : c.loop-node.before + length c.made-item.result.clauses ≤ length c.args.taken.now.nodes.items =
    within (g.O.TermOrder.above c.args.admitted.now.order) c.args.admitted.now.spec
    c.args.lemmas.now.numbers.items c.args.taken.now.nodes.items links c.loop-node.node c.loop-node.before
    c.loop-node.flags.items c.loop-node.invariant c.made-item.result lt is c.requires.within in
    omega (arith, few, c.len-in-loop-node.ensures, c.args.taken.now.nodes.ok.0, c.args.taken.now.nodes.small)

pub is_hopeful-requires-clause-before : goal.is_hopeful-requires-clause-before
is_hopeful-requires-clause-before g c =
    let links = c.args.taken.now.links.items in
    let lt : c.loop-node.node < length c.args.taken.now.links.items =
    omega (arith, c.loop-node-test.true, ap length c.as_slice-made-items.ensures.value) in
    let is : c.made-item.result ≡ get_or c.args.taken.now.links.items c.loop-node.node c.made-item.result =
    c.made-item.is ∙ ap (λ ls. get_or ls c.loop-node.node c.made-item.result)
    c.as_slice-made-items.ensures.value in
    let few : c.loop-node.before + length c.made-item.result.clauses ≤ length c.args.taken.now.nodes.items =
    within (g.O.TermOrder.above c.args.admitted.now.order) c.args.admitted.now.spec
    c.args.lemmas.now.numbers.items c.args.taken.now.nodes.items links c.loop-node.node c.loop-node.before
    c.loop-node.flags.items c.loop-node.invariant c.made-item.result lt is c.requires.within in
    omega (arith, few)

pub loop-node-preserved : goal.loop-node-preserved
loop-node-preserved g c =
    let links = c.args.taken.now.links.items in
    let lt : c.loop-node.node < length c.args.taken.now.links.items =
    omega (arith, c.loop-node-test.true, ap length c.as_slice-made-items.ensures.value) in
    let is : c.made-item.result ≡ get_or c.args.taken.now.links.items c.loop-node.node c.made-item.result =
    c.made-item.is ∙ ap (λ ls. get_or ls c.loop-node.node c.made-item.result)
    c.as_slice-made-items.ensures.value in
    let told = one_told (g.O.TermOrder.above c.args.admitted.now.order) c.args.admitted.now.spec
    c.args.lemmas.now.numbers.items c.args.taken.now.nodes.items links c.loop-node.node c.loop-node.before
    c.loop-node.flags.items c.loop-node.invariant c.made-item.result lt is c.in_ok-is_hopeful.field-0
    (c.loop-node.before + c.len-in-loop-node.result) (ap (λ n. c.loop-node.before + n) c.len-in-loop-node.ensures)
    c.in_ok-is_hopeful.ensures in
    subst (λ fs. TellHopeless (g.O.TermOrder.above c.args.admitted.now.order) c.args.admitted.now.spec
    c.args.lemmas.now.numbers.items c.args.taken.now.nodes.items links (c.loop-node.node + 1)
    (c.loop-node.before + c.len-in-loop-node.result) fs) (sym c.in_ok-push.ensures.items) told

pub bounds-alone-node : goal.bounds-alone-node
bounds-alone-node g c =
    let links = c.args.taken.now.links.items in
    let lt : c.loop-node.node < length c.args.taken.now.links.items =
    omega (arith, c.loop-node-test.true, ap length c.as_slice-made-items.ensures.value) in
    let is : c.made-item.result ≡ get_or c.args.taken.now.links.items c.loop-node.node c.made-item.result =
    c.made-item.is ∙ ap (λ ls. get_or ls c.loop-node.node c.made-item.result)
    c.as_slice-made-items.ensures.value in
    let there : c.loop-node.node < length c.args.taken.now.nodes.items =
    node_within (g.O.TermOrder.above c.args.admitted.now.order) c.args.admitted.now.spec
    c.args.lemmas.now.numbers.items c.args.taken.now.nodes.items links c.loop-node.node c.loop-node.before
    c.loop-node.flags.items c.loop-node.invariant c.made-item.result lt is c.requires.after c.requires.within in
    omega (
      arith,
      there,
      ap length c.as_slice.ensures.value,
      c.in_ok-alone.ensures.long,
      ap length c.as_slice-alone.ensures.value,
    )

pub is_hopeful-requires-clause-alone : goal.is_hopeful-requires-clause-alone
is_hopeful-requires-clause-alone g c = λ lone d at.
    let node = c.loop-node.node in
    let flags = c.in_ok-alone.alone.items in
    let alone = subst (λ ns. (i : ℕ) (x : Clause) → slice_get flags i ≡ Some true →
    slice_get (clauses_of ns) i ≡ Some x → IsAlone (clauses_of ns) i x) c.as_slice.ensures.value
    c.in_ok-alone.ensures.alone in
    let read : get_or c.in_ok-alone.alone.items c.loop-node.node false ≡ true =
    ap (λ fs. get_or fs c.loop-node.node false) (sym c.as_slice-alone.ensures.value) ∙ lone in
    alone node d (flag_there flags node read) at
