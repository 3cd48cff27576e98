use Rattle.std.proofs.Common.{◌≡◌, Some, true, false, refl, subst, arith, get_or, inl, inr}
use Rattle.std.specs.Prelude.{slice_get}
use Rattle.std.proofs.lemmas.Option.{slice_get-get_or, slice_get_within}
use Rattle.term_core.proofs.Numbers.{below_or_last}
use Rattle.term_core.specs.Tree.{var, instance}
use Rattle.rule_code.specs.declared.tests.Repeat.{Repeat}
use Rattle.rule_code.specs.Homes.{repeat}
use Rattle.rule_code.proofs.Emitted.{not_is}
use Rattle.rule_code.proofs.Matches.{some_same}
use Rattle.rule_code.proofs.Testing.{slot_there, slot_within, slot_term, same_count}
use Rattle.rule_code.proofs.matching.are_same.Goals as goal

pub overflow_add-first : goal.overflow_add-first
overflow_add-first c =
    let q = c.requires in
    let at = slice_get-get_or c.args.repeats.now c.loop-repeat.repeat-index (repeat 0 0) c.loop-repeat-test.true in
    omega (
      arith,
      slot_within (slot_there c.args.bank.now c.args.base c.args.places.now q.0 q.1 _
          (q.2 c.loop-repeat.repeat-index _ at).0),
      c.type_inv.places,
    )

pub offset_bounds-places-base : goal.offset_bounds-places-base
offset_bounds-places-base c =
    let q = c.requires in
    let at = slice_get-get_or c.args.repeats.now c.loop-repeat.repeat-index (repeat 0 0) c.loop-repeat-test.true in
    omega (
      arith,
      slot_within (slot_there c.args.bank.now c.args.base c.args.places.now q.0 q.1 _
          (q.2 c.loop-repeat.repeat-index _ at).0),
      c.type_inv.places,
    )

pub bounds-places-base : goal.bounds-places-base
bounds-places-base c =
    let q = c.requires in
    let at = slice_get-get_or c.args.repeats.now c.loop-repeat.repeat-index (repeat 0 0) c.loop-repeat-test.true in
    slot_within (slot_there c.args.bank.now c.args.base c.args.places.now q.0 q.1 _
    (q.2 c.loop-repeat.repeat-index _ at).0)

pub overflow_add-again : goal.overflow_add-again
overflow_add-again c =
    let q = c.requires in
    let at = slice_get-get_or c.args.repeats.now c.loop-repeat.repeat-index (repeat 0 0) c.loop-repeat-test.true in
    omega (
      arith,
      slot_within (slot_there c.args.bank.now c.args.base c.args.places.now q.0 q.1 _
          (q.2 c.loop-repeat.repeat-index _ at).1),
      c.type_inv.places,
    )

pub offset_bounds-places-base-in-loop-repeat : goal.offset_bounds-places-base-in-loop-repeat
offset_bounds-places-base-in-loop-repeat c =
    let q = c.requires in
    let at = slice_get-get_or c.args.repeats.now c.loop-repeat.repeat-index (repeat 0 0) c.loop-repeat-test.true in
    omega (
      arith,
      slot_within (slot_there c.args.bank.now c.args.base c.args.places.now q.0 q.1 _
          (q.2 c.loop-repeat.repeat-index _ at).1),
      c.type_inv.places,
    )

pub bounds-places-base-in-loop-repeat : goal.bounds-places-base-in-loop-repeat
bounds-places-base-in-loop-repeat c =
    let q = c.requires in
    let at = slice_get-get_or c.args.repeats.now c.loop-repeat.repeat-index (repeat 0 0) c.loop-repeat-test.true in
    slot_within (slot_there c.args.bank.now c.args.base c.args.places.now q.0 q.1 _
    (q.2 c.loop-repeat.repeat-index _ at).1)

pub returns-then-not-same : goal.returns-then-not-same
returns-then-not-same c grown h =
    let q = c.requires in
    let i = c.loop-repeat.repeat-index in
    let at = slice_get-get_or c.args.repeats.now i (repeat 0 0) c.loop-repeat-test.true in
    let n = same_count c.args.bank.now c.args.base c.args.places.now grown h q.0 q.1 in
    let b = q.2 i _ at in
    let same = c.same.ensures _ _
    (slot_term (slot_there c.args.bank.now c.args.base c.args.places.now grown h _ (omega (arith, b.0, n))))
    (slot_term (slot_there c.args.bank.now c.args.base c.args.places.now grown h _ (omega (arith, b.1, n)))) in (
      λ t. absurd (let z : false ≡ true = t in cc),
      λ all. absurd (not_is c.same.result _ c.if-not-same.true same (all i _ at)),
    )

pub loop-repeat-preserved : goal.loop-repeat-preserved
loop-repeat-preserved c grown h k r lt at =
    elim (below_or_last k c.loop-repeat.repeat-index lt) [
      | inl l ↦ c.loop-repeat.invariant grown h k r l at
      | inr e ↦
          let q = c.requires in
          let i = c.loop-repeat.repeat-index in
          let here = slice_get-get_or c.args.repeats.now i (repeat 0 0) c.loop-repeat-test.true in
          let n = same_count c.args.bank.now c.args.base c.args.places.now grown h q.0 q.1 in
          let b = q.2 i _ here in
          let same = c.same.ensures _ _
          (slot_term (slot_there c.args.bank.now c.args.base c.args.places.now grown h _
          (omega (arith, b.0, n))))
          (slot_term (slot_there c.args.bank.now c.args.base c.args.places.now grown h _
          (omega (arith, b.1, n)))) in
          let is : get_or c.args.repeats.now i (repeat 0 0) ≡ r = some_same (slice_get c.args.repeats.now i) _ r
          here (subst (λ z. slice_get c.args.repeats.now z ≡ Some r) e at) in
          subst (λ (z : Repeat). instance grown (var z.first) ≡ instance grown (var z.again)) is
          (same.0 c.if-not-same.false)
    ]

pub returns : goal.returns
returns c grown h = (
  λ t k r at. c.loop-repeat.invariant grown h k r
      (omega (arith, slice_get_within c.args.repeats.now k r at, c.loop-repeat-test.false)) at,
  λ all. refl,
)
