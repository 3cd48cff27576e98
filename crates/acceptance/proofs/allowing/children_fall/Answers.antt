use Rattle.std.proofs.Common.{◌≡◌, ◌+◌, ◌<◌, false, true, length, refl, arith}
use Rattle.clause_core.specs.declared.answers.Child.{Child}
use Rattle.acceptance.specs.AllowedAnswers.{FallsBy}
use Rattle.acceptance.proofs.Flags.{read, first_more, all_children, one_child, child_within}
use Rattle.acceptance.proofs.allowing.children_fall.Goals as goal

pub overflow_add-first : goal.overflow_add-first
overflow_add-first c =
    let here : c.args.first + c.loop-place.place < length c.args.made.now = child_within c.args.made.now
    c.args.node c.requires.node c.index-made-node.result c.args.first c.requires.first
    c.as_slice-child-items.result.now c.as_slice-child-items.ensures c.requires.whole c.loop-place.place
    c.loop-place-test.true in
    omega (arith, here, c.requires.whole.few)

pub falls-requires : goal.falls-requires
falls-requires c =
    let here : c.args.first + c.loop-place.place < length c.args.made.now = child_within c.args.made.now
    c.args.node c.requires.node c.index-made-node.result c.args.first c.requires.first
    c.as_slice-child-items.result.now c.as_slice-child-items.ensures c.requires.whole c.loop-place.place
    c.loop-place-test.true in
    omega (arith, here, c.requires.strict.long)

pub returns-then-not-falls : goal.returns-then-not-falls
returns-then-not-falls c =
    let here = one_child c.args.made.now c.args.node c.requires.node c.index-made-node.result c.args.first
    c.requires.first c.as_slice-child-items.result.now c.as_slice-child-items.ensures c.loop-place.place
    c.child-item.result (read c.as_slice-child-items.result.now c.loop-place.place c.child-item.result
    c.loop-place-test.true c.child-item.is) in (
      λ f. absurd (let q : false ≡ true = f in cc),
      λ all. c.if-not-falls.ensures.1 (all (c.args.first + c.loop-place.place) c.child-item.result.relation here),
    )

pub loop-place-preserved : goal.loop-place-preserved
loop-place-preserved c =
    first_more (λ i (d : Child). FallsBy c.args.strict.now c.args.node (c.args.first + i) d.relation)
    c.as_slice-child-items.result.now c.loop-place.place c.child-item.result
    (read c.as_slice-child-items.result.now c.loop-place.place c.child-item.result c.loop-place-test.true
    c.child-item.is) (c.if-not-falls.ensures.0 refl) c.loop-place.invariant

pub returns : goal.returns
returns c = (
  λ t. all_children c.args.made.now c.args.node c.requires.node c.index-made-node.result c.args.first
      c.requires.first c.as_slice-child-items.result.now c.as_slice-child-items.ensures
      (FallsBy c.args.strict.now c.args.node) c.loop-place.place c.loop-place-test.false
      c.loop-place.invariant,
  λ h. refl,
)
