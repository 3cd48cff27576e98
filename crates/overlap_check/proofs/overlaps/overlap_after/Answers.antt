use Rattle.std.proofs.Common.{◌≡◌, ◌<◌, Some, refl, ap, sym, subst, arith, length}
use Rattle.std.specs.Prelude.{slice_get}
use Rattle.term_core.specs.Tree.{trees_of}
use Rattle.overlap_check.proofs.Pairs.{rule_at, none_in_common, none_more, first_after}
use Rattle.overlap_check.proofs.overlaps.overlap_after.Goals as goal
use Rattle.overlap_check.proofs.overlaps.overlap_after.Goals.{After-index-rules-other}

first_at : (c : After-index-rules-other) →
    slice_get c.args.spec.now.rules c.args.place ≡ Some c.index-rules-place.result
first_at c =
    let h : c.args.place < length c.as_slice-rules.result.now = subst (λ rs. c.args.place < length rs)
    (sym c.as_slice-rules.ensures) c.requires.within in
    rule_at c.as_slice-rules.result.now c.args.spec.now.rules c.args.place c.index-rules-place.result
    c.as_slice-rules.ensures h c.index-rules-place.is

second_at : (c : After-index-rules-other) →
    slice_get c.args.spec.now.rules c.loop-other.other ≡ Some c.index-rules-other.result
second_at c = rule_at c.as_slice-rules.result.now c.args.spec.now.rules c.loop-other.other
    c.index-rules-other.result c.as_slice-rules.ensures c.loop-other-test.true c.index-rules-other.is

pub loop-other-preserved-then-are_of_two_symbols : goal.loop-other-preserved-then-are_of_two_symbols
loop-other-preserved-then-are_of_two_symbols c =
    let b = (goal.at.loop-other-preserved-then-are_of_two_symbols c).After-index-rules-other in
    let r = c.index-rules-place.result in
    let q = c.index-rules-other.result in
    none_more c.args.spec.now c.args.place c.loop-other.other r q (first_at b) (second_at b)
    c.loop-other.invariant (none_in_common c.args.spec.now.sig r.left q.left (c.if-are_of_two_symbols.ensures refl))

pub common_values-requires-clause-first : goal.common_values-requires-clause-first
common_values-requires-clause-first c =
    let b = (goal.at.common_values-requires-clause-first c).After-index-rules-other in
    c.requires.fine.rules c.args.place c.index-rules-place.result (first_at b)

pub common_values-requires-clause-second : goal.common_values-requires-clause-second
common_values-requires-clause-second c =
    let b = (goal.at.common_values-requires-clause-second c).After-index-rules-other in
    c.requires.fine.rules c.loop-other.other c.index-rules-other.result (second_at b)

pub returns-in-Some : goal.returns-in-Some
returns-in-Some c =
    let b = (goal.at.returns-in-Some c).After-index-rules-other in
    first_after c.args.spec.now c.args.place c.loop-other.other c.index-rules-place.result
    c.index-rules-other.result (first_at b) (second_at b) (trees_of c.in-Some.values) (omega arith)
    c.loop-other.invariant (rw c.in-Some.is at c.in_ok-values.ensures)

pub loop-other-preserved : goal.loop-other-preserved
loop-other-preserved c =
    let b = (goal.at.loop-other-preserved c).After-index-rules-other in
    none_more c.args.spec.now c.args.place c.loop-other.other c.index-rules-place.result
    c.index-rules-other.result (first_at b) (second_at b) c.loop-other.invariant
    (rw c.in_default.is at c.in_ok-values.ensures)

pub returns : goal.returns
returns c k after within overlaps = c.loop-other.invariant k after
    (omega (arith, c.loop-other-test.false, ap length c.as_slice-rules.ensures)) overlaps
