use Rattle.std.proofs.Common.{◌≡◌, ◌<◌, false, true, Some, length, get_or, refl, arith}
use Rattle.std.specs.Prelude.{slice_get}
use Rattle.std.proofs.lemmas.Option.{slice_get-get_or}
use Rattle.clause_core.specs.declared.answers.Reference.{Reference}
use Rattle.clause_core.specs.declared.clauses.Relation.TheVariants.{Less}
use Rattle.acceptance.specs.AllowedAnswers.{FallsBy}
use Rattle.acceptance.proofs.Flags.{first_more, all_references, one_reference}
use Rattle.acceptance.proofs.allowing.references_fall.Goals as goal

-- what the code reads past the end
abbrev past : Reference
past = record { node = 0; relation = Less }

pub falls-requires : goal.falls-requires
falls-requires c =
    let items = c.as_slice-reference-items.result.now in
    let i = c.loop-reference.reference-index in
    let at : slice_get items i ≡ Some (get_or items i past) = slice_get-get_or items i past
    c.loop-reference-test.true in
    let here = one_reference c.args.made.now c.args.node c.requires.node c.index-made-node.result items
    c.as_slice-reference-items.ensures i (get_or items i past) at in
    let lt : (get_or items i past).node < length c.args.made.now = c.requires.whole.refs c.args.node
    (get_or items i past).node (get_or items i past).relation here in
    omega (arith, lt, c.requires.strict.long)

pub returns-then-not-falls : goal.returns-then-not-falls
returns-then-not-falls c =
    let items = c.as_slice-reference-items.result.now in
    let i = c.loop-reference.reference-index in
    let at : slice_get items i ≡ Some (get_or items i past) = slice_get-get_or items i past
    c.loop-reference-test.true in
    let here = one_reference c.args.made.now c.args.node c.requires.node c.index-made-node.result items
    c.as_slice-reference-items.ensures i (get_or items i past) at in (
      λ f. absurd (let q : false ≡ true = f in cc),
      λ all. c.if-not-falls.ensures.1 (all (get_or items i past).node (get_or items i past).relation here),
    )

pub loop-reference-preserved : goal.loop-reference-preserved
loop-reference-preserved c =
    let items = c.as_slice-reference-items.result.now in
    let i = c.loop-reference.reference-index in
    let at : slice_get items i ≡ Some (get_or items i past) = slice_get-get_or items i past
    c.loop-reference-test.true in
    first_more (λ i (d : Reference). FallsBy c.args.strict.now c.args.node d.node d.relation) items i
    (get_or items i past) at (c.if-not-falls.ensures.0 refl) c.loop-reference.invariant

pub returns : goal.returns
returns c = (
  λ t. all_references c.args.made.now c.args.node c.requires.node c.index-made-node.result
      c.as_slice-reference-items.result.now c.as_slice-reference-items.ensures
      (FallsBy c.args.strict.now c.args.node) c.loop-reference.reference-index c.loop-reference-test.false
      c.loop-reference.invariant,
  λ h. refl,
)
