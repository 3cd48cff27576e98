use Rattle.std.proofs.Common.{◌≡◌, ◌++◌, List, ℕ, Some, refl, ap, subst, arith, length}
use Rattle.std.specs.Prelude.{slice_get}
use Rattle.rule_code.specs.Growing.{AreParts, IsPut}
use Rattle.rule_code.proofs.Parts.{put_grows, put_nodes}
use Rattle.rule_code.proofs.Ranges.{item_listed}
use Rattle.rule_code.proofs.growing.grow.Goals as goal

pub returns-clause-grow : goal.returns-clause-grow
returns-clause-grow c =
    let old = c.args.nodes.now.items in
    let parts = c.in_ok-split.parts.items in
    let joined : c.append.new.self.items ≡ old ++ parts = c.in_ok-append.ensures.items in
    let put : IsPut (old ++ parts) c.put.new.nodes.items c.args.at c.in_ok-split.split = subst
    (λ xs. IsPut xs c.put.new.nodes.items c.args.at c.in_ok-split.split) joined c.put.ensures in
    put_grows old c.put.new.nodes.items parts c.args.at c.in_ok-split.split put c.saturating_add-taken.result
    (omega (arith, c.saturating_add-taken.ensures, c.room_of.ensures, ap length c.deref.ensures.value))

pub returns-clause-nodes : goal.returns-clause-nodes
returns-clause-nodes c numbers h =
    let old = c.args.nodes.now.items in
    let parts = c.in_ok-split.parts.items in
    let split = c.in_ok-split.split in
    let node = c.index.result.now in
    let listed : slice_get old c.args.at ≡ Some node = item_listed old old c.args.at node refl c.requires
    c.index.ensures in
    let joined : c.append.new.self.items ≡ old ++ parts = c.in_ok-append.ensures.items in
    let put : IsPut (old ++ parts) c.put.new.nodes.items c.args.at split = subst
    (λ xs. IsPut xs c.put.new.nodes.items c.args.at split) joined c.put.ensures in
    let count : c.len.result ≡ length old = omega (arith, c.len.ensures, c.args.nodes.now.ok) in
    let made : AreParts c.args.rules.now (length old) node.rules.items split parts = subst
    (λ n. AreParts c.args.rules.now n node.rules.items split parts) count
    (subst (λ (ns : List ℕ). AreParts c.args.rules.now c.len.result ns split parts)
    c.as_slice-numbers.ensures.value c.in_ok-split.ensures) in
    put_nodes c.args.rules.now numbers old c.put.new.nodes.items parts c.args.at split node listed h made put
