use Rattle.std.proofs.Common.{◌≡◌, ◌∙◌, false, arith, ap, nat_eq, Some, Option, ℕ, None}
use Rattle.std.specs.HashSet.{contains}
use Rattle.std.proofs.lemmas.Option.{slice_get-get_or}
use Rattle.script_trim.proofs.SharedKeys.{none_told, told_new, told_again, all_told}
use Rattle.script_trim.proofs.lone_nodes.shared_keys.Goals as goal

pub loop-key-init : goal.loop-key-init
loop-key-init c = none_told c.args.keys.now _ _

pub loop-key-preserved-then-branch : goal.loop-key-preserved-then-branch
loop-key-preserved-then-branch c =
    let e = c.in_ok-insert.ensures in
    let first : contains nat_eq c.loop-key.seen c.in-Some.key ≡ false = grind (arith, e.added, c.if-branch.true) in
    let at = slice_get-get_or c.args.keys.now c.loop-key.key-index None c.loop-key-test.true
    ∙ ap (λ (o : Option ℕ). Some o) c.in-Some.is in
    told_new c.args.keys.now c.loop-key.key-index c.in-Some.key at c.loop-key.seen c.loop-key.shared c.insert.new.self
    c.loop-key.invariant e.updates.1 e.updates.0 first

pub loop-key-preserved : goal.loop-key-preserved
loop-key-preserved c =
    let e = c.in_ok-insert.ensures in
    let f = c.in_ok-insert-2.ensures in
    let at = slice_get-get_or c.args.keys.now c.loop-key.key-index None c.loop-key-test.true
    ∙ ap (λ (o : Option ℕ). Some o) c.in-Some.is in
    told_again c.args.keys.now c.loop-key.key-index c.in-Some.key at c.loop-key.seen c.loop-key.shared
    c.insert.new.self c.loop-key.invariant e.updates.1 e.updates.0 c.insert-in-loop-key.new.self f.updates.1 f.updates.0

pub returns : goal.returns
returns c =
    all_told c.args.keys.now c.loop-key.key-index c.loop-key.seen c.loop-key.shared c.loop-key-test.false
    c.loop-key.invariant
