use Rattle.std.proofs.Common.{rules, ◌≡◌, ◌≢◌, ◌↔◌, ◌+◌, ◌≤◌, ℕ, List, IsTrue, length, drop, take, map, ap, sym, ◌∙◌}
use Rattle.std.proofs.Common.{refl, arith}
use Rattle.std.proofs.lemmas.Bool.{eqb-true, eq-eqb, false≢true}
use Rattle.std.proofs.lemmas.List.{length-map, take_all}
use Rattle.term_core.specs.Measure.{weight, list_weight}
use Rattle.term_core.specs.References.{terms_of}
use Rattle.term_core.specs.Tree.{Tree, app, trees_of}
use Rattle.term_core.specs.View.{tree_of}
use Rattle.term_order.specs.Operands.{read, meaning}
use Rattle.path_order.specs.Operands.{meanings}
use Rattle.path_order.specs.declared.path.Standing.TheVariants.{Greater, Neither}
use Rattle.path_order.proofs.Deciding.{greater_test, neither_test, all-then, all-else, some-then, some-else, all-empty}
use Rattle.path_order.proofs.Deciding.{variable, smaller-head, other-head, at_greater, at_neither, all-same}
use Rattle.path_order.proofs.Deciding.{none-differs, list-falls, level-weight, arranged-weight, positive, stands-as}
use Rattle.path_order.proofs.Deciding.{same_more}
use Rattle.term_order.proofs.Readings.{operand_app}
use Rattle.path_order.proofs.Patterns.{app_weight}
use Rattle.path_order.proofs.path.+compare.Goals as goal
use Rattle.path_order.proofs.path.+compare.Goals.{compare-else-other_level-level-2-via-then-other_level-level-2+else-ts-ss}
use Rattle.path_order.proofs.path.+compare.Goals.{compare-else-other_level-level-2-via-else-other_level-level-2}

-- the measure of what a resolved operand means is that of the operand
same_weight : {t u : Tree} → u ≡ t → weight u ≡ weight t
same_weight p = ap (λ x. weight x) p

-- lists are the same that are the same as far as they go
taken_same :
    (xs ys : List Tree) (i : ℕ) → take i xs ≡ take i ys → length xs ≡ length ys → length xs ≤ i →
    xs ≡ ys
taken_same xs ys i w e l = sym (take_all i xs l) ∙ w ∙ take_all i ys (omega (arith, e, l))

pub above_all-returns-then-len-eq0 : goal.above_all-returns-then-len-eq0
above_all-returns-then-len-eq0 t c =
    let values = terms_of c.args.list.now in (
      λ h. all-empty c.args.order.now (meaning values c.args.t) (meanings values c.args.ss)
          (omega (arith, c.if-len-eq0.true, c.len.ensures values)),
      λ a. refl,
    )

pub above_all-compare-requires : goal.above_all-compare-requires
above_all-compare-requires t c =
    let values = terms_of c.args.list.now in (
      omega (
        arith,
        list-falls (meanings values c.args.ss) 0 (meaning values c.at.result)
            (drop 1 (meanings values c.args.ss)) (omega (arith, c.if-len-eq0.false, c.len.ensures values))
            (c.at.ensures values (meaning values c.at.result)) refl,
      ),
      tt,
    )

pub above_all-returns-then-eq : goal.above_all-returns-then-eq
above_all-returns-then-eq t c =
    let values = terms_of c.args.list.now in
    let q : IsTrue c.eq.result ↔ (c.compare.result ≡ Greater) = search rules in
    all-then c.args.order.now (meaning values c.args.t) (meanings values c.args.ss) (meaning values c.at.result)
    (meanings values c.after.result) c.eq.result c.above_all.result
    (omega (arith, c.if-len-eq0.false, c.len.ensures values)) (c.at.ensures values (meaning values c.at.result))
    (c.after.ensures values)
    (greater_test _ _ _ _ _ q c.compare.ensures) c.if-eq.true c.above_all.ensures

pub above_all-returns-else-eq : goal.above_all-returns-else-eq
above_all-returns-else-eq t c =
    let values = terms_of c.args.list.now in
    let q : IsTrue c.eq.result ↔ (c.compare.result ≡ Greater) = search rules in
    all-else c.args.order.now (meaning values c.args.t) (meanings values c.args.ss) (meaning values c.at.result)
    c.eq.result
    (omega (arith, c.if-len-eq0.false, c.len.ensures values)) (c.at.ensures values (meaning values c.at.result))
    (greater_test _ _ _ _ _ q c.compare.ensures) c.if-eq.false

pub compare-some_reaches-requires : goal.compare-some_reaches-requires
compare-some_reaches-requires t c =
    let values = terms_of c.args.list.now in
    let left = operand_app values c.resolved-t.result c.in-App-Var.field-0-0 c.as_slice.ensures
    c.in-App-Var.is-0 c.term.view_is in (
      omega (
        arith,
        app_weight _ _ _ left,
        ap list_weight (c.with-ts.ensures values),
        same_weight
            c.resolved-t.ensures.same,
        same_weight c.resolved-s.ensures.same,
      ),
      tt,
    )

pub compare-above_all-requires : goal.compare-above_all-requires
compare-above_all-requires t c =
    let values = terms_of c.args.list.now in
    let right = operand_app values c.resolved-s.result c.in-App-App.g c.as_slice-ss.ensures c.in-App-App.is-1
    c.other.view_is in (
      omega (
        arith,
        app_weight _ _ _ right,
        ap list_weight (c.with.ensures values),
        same_weight
            c.resolved-t.ensures.same,
        same_weight c.resolved-s.ensures.same,
      ),
      tt,
    )

pub compare-compare_arguments-requires : goal.compare-compare_arguments-requires
compare-compare_arguments-requires t c =
    let values = terms_of c.args.list.now in
    let left = operand_app values c.resolved-t.result c.in-App-App.f c.as_slice-ts.ensures c.in-App-App.is-0
    c.term.view_is in
    let right = operand_app values c.resolved-s.result c.in-App-App.g c.as_slice-ss.ensures c.in-App-App.is-1
    c.other.view_is in (
      omega (
        arith,
        app_weight _ _ _ left,
        app_weight _ _ _ right,
        arranged-weight c.args.order.now c.in-App-App.f.0 _ _ (c.arranged-first.ensures.ordered values),
        arranged-weight c.args.order.now c.in-App-App.g.0 _ _ (c.arranged-second.ensures.ordered values),
        same_weight c.resolved-t.ensures.same,
        same_weight c.resolved-s.ensures.same,
      ),
      record {
        head = c.in-App-App.f.0;
        other = c.in-App-App.g.0;
        arguments = trees_of (map (read values c.resolved-t.result.is_pattern) c.as_slice-ts.result.now);
        others = trees_of (map (read values c.resolved-s.result.is_pattern) c.as_slice-ss.result.now);
        is_first = left;
        is_second = right;
        one_level = sym c.level-other_level.ensures ∙ c.if-other_level-level-2.true ∙ c.level-level.ensures;
        ordered = c.arranged-first.ensures.ordered values;
        others_ordered = c.arranged-second.ensures.ordered values;
        as_many = c.arranged-first.ensures.as_many values ∙ c.if-ts-ss.true
            ∙ sym (c.arranged-second.ensures.as_many values);
        tells = (eqb-true _ _, eq-eqb _ _);
      },
    )

pub compare-some_reaches-requires-else-other_level-level-2 : goal.compare-some_reaches-requires-else-other_level-level-2
compare-some_reaches-requires-else-other_level-level-2 t c =
    let values = terms_of c.args.list.now in
    let left = operand_app values c.resolved-t.result c.in-App-App.f c.as_slice-ts.ensures c.in-App-App.is-0
    c.term.view_is in (
      omega (
        arith,
        app_weight _ _ _ left,
        ap list_weight (c.with-else-other_level-level-2.ensures values),
        same_weight
            c.resolved-t.ensures.same,
        same_weight c.resolved-s.ensures.same,
      ),
      tt,
    )

pub compare-returns-in-App-Var : goal.compare-returns-in-App-Var
compare-returns-in-App-Var t c =
    let values = terms_of c.args.list.now in
    let left = operand_app values c.resolved-t.result c.in-App-Var.field-0-0 c.as_slice.ensures
    c.in-App-Var.is-0 c.term.view_is in
    let right = c.resolved-s.ensures.variable c.in-App-Var.field-0-1.0
    (sym (ap tree_of (sym c.in-App-Var.is-1) ∙ c.other.view_is)) in
    stands-as c.args.order.now c.greater_or_neither.result c.resolved-t.ensures.same c.resolved-s.ensures.same
    (variable c.args.order.now (meaning values c.resolved-t.result) (meaning values c.resolved-s.result)
    c.in-App-Var.field-0-0.0 c.in-App-Var.field-0-1.0 (meanings values c.with-ts.result) c.some_reaches.result _
    (sym (left ∙ ap (λ us. app c.in-App-Var.field-0-0.0 (trees_of us)) (sym (c.with-ts.ensures values)))) (sym right)
    c.some_reaches.ensures c.greater_or_neither.ensures)

pub compare-returns-then-other_level-level : goal.compare-returns-then-other_level-level
compare-returns-then-other_level-level t c =
    let values = terms_of c.args.list.now in
    let left = operand_app values c.resolved-t.result c.in-App-App.f c.as_slice-ts.ensures c.in-App-App.is-0
    c.term.view_is in
    let right = operand_app values c.resolved-s.result c.in-App-App.g c.as_slice-ss.ensures c.in-App-App.is-1
    c.other.view_is in
    stands-as c.args.order.now c.greater_or_neither-then-other_level-level.result c.resolved-t.ensures.same
    c.resolved-s.ensures.same
    (smaller-head c.args.order.now (meaning values c.resolved-t.result) (meaning values c.resolved-s.result)
    c.in-App-App.f.0 c.in-App-App.g.0 (map (read values c.resolved-t.result.is_pattern) c.as_slice-ts.result.now)
    (meanings values c.with.result) c.above_all.result _
    (sym left) (sym (right ∙ ap (λ us. app c.in-App-App.g.0 (trees_of us))
    (sym (c.with.ensures values))))
    (omega (arith, c.if-other_level-level.true, c.level-level.ensures, c.level-other_level.ensures))
    c.above_all.ensures c.greater_or_neither-then-other_level-level.ensures)

pub compare-returns-else-other_level-level-2 : goal.compare-returns-else-other_level-level-2
compare-returns-else-other_level-level-2 t c =
    let values = terms_of c.args.list.now in
    let left = operand_app values c.resolved-t.result c.in-App-App.f c.as_slice-ts.ensures c.in-App-App.is-0
    c.term.view_is in
    let right = operand_app values c.resolved-s.result c.in-App-App.g c.as_slice-ss.ensures c.in-App-App.is-1
    c.other.view_is in
    stands-as c.args.order.now c.greater_or_neither-else-other_level-level-2.result c.resolved-t.ensures.same
    c.resolved-s.ensures.same
    (other-head c.args.order.now (meaning values c.resolved-t.result) (meaning values c.resolved-s.result)
    c.in-App-App.f.0 c.in-App-App.g.0 (meanings values c.with-else-other_level-level-2.result)
    (map (read values c.resolved-s.result.is_pattern) c.as_slice-ss.result.now)
    c.some_reaches-else-other_level-level-2.result _
    (sym (left ∙ ap (λ us. app c.in-App-App.f.0 (trees_of us))
    (sym (c.with-else-other_level-level-2.ensures values)))) (sym right)
    (λ l. omega (arith, l, c.if-other_level-level.false, c.level-level.ensures, c.level-other_level.ensures))
    (λ e n. elim c.else-other_level-level-2.branch [
      | compare-else-other_level-level-2-via-then-other_level-level-2+else-ts-ss w ↦ w.if-ts-ss.false
          (omega (
            arith,
            n,
            ap length (c.with-else-other_level-level-2.ensures values),
            length-map
                c.as_slice-ts.result.now (read values c.resolved-t.result.is_pattern),
            length-map c.as_slice-ss.result.now
                (read values c.resolved-s.result.is_pattern),
          ))
      | compare-else-other_level-level-2-via-else-other_level-level-2 w ↦ w.if-other_level-level-2.false
          (omega (arith, e, c.level-level.ensures, c.level-other_level.ensures))
    ])
    c.some_reaches-else-other_level-level-2.ensures c.greater_or_neither-else-other_level-level-2.ensures)

pub compare_arguments-returns-then-one_head : goal.compare_arguments-returns-then-one_head
compare_arguments-returns-then-one_head t c =
    let values = terms_of c.args.list.now in
    all-same _ _ _ (meanings values c.args.t.args) (meanings values c.args.s.args) _ c.requires
    (taken_same (meanings values c.args.t.args) (meanings values c.args.s.args) c.loop-i.i c.loop-i.invariant
    c.requires.as_many (omega (arith, c.loop-i-test.false, c.len-i-end.ensures values)))
    c.if-one_head.true

pub compare_arguments-returns-else-one_head : goal.compare_arguments-returns-else-one_head
compare_arguments-returns-else-one_head t c =
    let values = terms_of c.args.list.now in
    none-differs _ _ _ (meanings values c.args.t.args) (meanings values c.args.s.args) _ c.requires
    (taken_same (meanings values c.args.t.args) (meanings values c.args.s.args) c.loop-i.i c.loop-i.invariant
    c.requires.as_many (omega (arith, c.loop-i-test.false, c.len-i-end.ensures values)))
    (λ h. false≢true (sym c.if-one_head.false ∙ h))

pub compare_arguments-compare-requires : goal.compare_arguments-compare-requires
compare_arguments-compare-requires t c =
    let values = terms_of c.args.list.now in
    let ts = meanings values c.args.t.args in
    let ss = meanings values c.args.s.args in
    let x = meaning values c.at.result in
    let y = meaning values c.at-in-loop-i.result in (
      omega (
        arith,
        c.requires.as_many,
        c.loop-i-test.true,
        c.len-i-end.ensures values,
        list-falls ts c.loop-i.i x (drop (c.loop-i.i + 1) ts)
            (omega (arith, c.loop-i-test.true, c.len-i-end.ensures values)) (c.at.ensures values x) refl,
        list-falls ss c.loop-i.i y (drop (c.loop-i.i + 1) ss)
            (omega (arith, c.requires.as_many, c.loop-i-test.true, c.len-i-end.ensures values))
            (c.at-in-loop-i.ensures values y) refl,
      ),
      tt,
    )

pub compare_arguments-above_all-is_above-requires : goal.compare_arguments-above_all-is_above-requires
compare_arguments-above_all-is_above-requires t c =
    let values = terms_of c.args.list.now in
    let ss = meanings values c.args.s.args in
    let y = meaning values c.at-in-loop-i.result in (
      omega (
        arith,
        (level-weight _ _ _ _ _ _ c.requires).0,
        positive y,
        list-falls ss c.loop-i.i y (meanings values c.after.result)
            (omega (arith, c.requires.as_many, c.loop-i-test.true, c.len-i-end.ensures values))
            (c.at-in-loop-i.ensures values y) (c.after.ensures values),
      ),
      tt,
    )

pub compare_arguments-returns-in-Greater : goal.compare_arguments-returns-in-Greater
compare_arguments-returns-in-Greater t c =
    let values = terms_of c.args.list.now in
    at_greater _ _ _ (meanings values c.args.t.args) (meanings values c.args.s.args) _ c.requires c.loop-i.i
    (omega (arith, c.loop-i-test.true, c.len-i-end.ensures values)) c.loop-i.invariant (meaning values c.at.result)
    (meaning values c.at-in-loop-i.result)
    (c.at.ensures values (meaning values c.at.result))
    (c.at-in-loop-i.ensures values (meaning values c.at-in-loop-i.result))
    c.in-Greater.ensures c.above_all-is_above.result _ (meanings values c.after.result) (c.after.ensures values)
    c.above_all-is_above.ensures c.greater_or_neither.ensures

pub compare_arguments-some_reaches-reaches-requires : goal.compare_arguments-some_reaches-reaches-requires
compare_arguments-some_reaches-reaches-requires t c =
    let values = terms_of c.args.list.now in
    let ts = meanings values c.args.t.args in
    let x = meaning values c.at.result in (
      omega (
        arith,
        (level-weight _ _ _ _ _ _ c.requires).1,
        positive x,
        list-falls ts c.loop-i.i x (meanings values c.after-in-Neither.result)
            (omega (arith, c.loop-i-test.true, c.len-i-end.ensures values)) (c.at.ensures values x)
            (c.after-in-Neither.ensures values),
      ),
      tt,
    )

pub compare_arguments-returns-in-Neither : goal.compare_arguments-returns-in-Neither
compare_arguments-returns-in-Neither t c =
    let values = terms_of c.args.list.now in
    at_neither _ _ _ (meanings values c.args.t.args) (meanings values c.args.s.args) _ c.requires c.loop-i.i
    (omega (arith, c.loop-i-test.true, c.len-i-end.ensures values)) c.loop-i.invariant (meaning values c.at.result)
    (meaning values c.at-in-loop-i.result)
    (c.at.ensures values (meaning values c.at.result))
    (c.at-in-loop-i.ensures values (meaning values c.at-in-loop-i.result))
    c.in-Neither.ensures.0 c.in-Neither.ensures.1 c.some_reaches-reaches.result _
    (meanings values c.after-in-Neither.result)
    (c.after-in-Neither.ensures values) c.some_reaches-reaches.ensures c.greater_or_neither-in-Neither.ensures

pub compare_arguments-loop-i-preserved : goal.compare_arguments-loop-i-preserved
compare_arguments-loop-i-preserved t c =
    let values = terms_of c.args.list.now in
    same_more (meanings values c.args.t.args) (meanings values c.args.s.args) c.loop-i.i (meaning values c.at.result)
    (meaning values c.at-in-loop-i.result)
    (omega (arith, c.loop-i-test.true, c.len-i-end.ensures values))
    (omega (arith, c.requires.as_many, c.loop-i-test.true, c.len-i-end.ensures values))
    (c.at.ensures values (meaning values c.at.result))
    (c.at-in-loop-i.ensures values (meaning values c.at-in-loop-i.result))
    c.in-Same.ensures c.loop-i.invariant

pub some_reaches-compare-requires : goal.some_reaches-compare-requires
some_reaches-compare-requires t c =
    let values = terms_of c.args.list.now in (
      omega (
        arith,
        list-falls (meanings values c.args.ts) 0 (meaning values c.at.result)
            (drop 1 (meanings values c.args.ts)) (omega (arith, c.if-len-eq0.false, c.len.ensures values))
            (c.at.ensures values (meaning values c.at.result)) refl,
      ),
      tt,
    )

pub some_reaches-returns-then-ne : goal.some_reaches-returns-then-ne
some_reaches-returns-then-ne t c =
    let values = terms_of c.args.list.now in
    let q : IsTrue c.ne.result ↔ (c.compare.result ≢ Neither) = search rules in
    some-then c.args.order.now (meanings values c.args.ts) (meaning values c.args.s) (meaning values c.at.result)
    c.ne.result
    (omega (arith, c.if-len-eq0.false, c.len.ensures values)) (c.at.ensures values (meaning values c.at.result))
    (neither_test _ _ _ _ _ q c.compare.ensures) c.if-ne.true

pub some_reaches-returns-else-ne : goal.some_reaches-returns-else-ne
some_reaches-returns-else-ne t c =
    let values = terms_of c.args.list.now in
    let q : IsTrue c.ne.result ↔ (c.compare.result ≢ Neither) = search rules in
    some-else c.args.order.now (meanings values c.args.ts) (meaning values c.args.s) (meaning values c.at.result)
    (meanings values c.after.result) c.ne.result c.some_reaches.result
    (omega (arith, c.if-len-eq0.false, c.len.ensures values)) (c.at.ensures values (meaning values c.at.result))
    (c.after.ensures values)
    (neither_test _ _ _ _ _ q c.compare.ensures) c.if-ne.false c.some_reaches.ensures
