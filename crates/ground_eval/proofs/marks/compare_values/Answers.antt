use Rattle.std.proofs.Common.{◌≡◌, Some, inl, inr, sym, arith, subst}
use Rattle.std.specs.Prelude.{slice_get}
use Rattle.term_core.specs.Tree.{app}
use Rattle.value_bank.specs.Cells.{cell}
use Rattle.ground_eval.proofs.Marking.{place_within, term_there, constant_left, constant_right, same_heads, mark_at}
use Rattle.ground_eval.proofs.Marking.{not_the_same, is_false}
use Rattle.ground_eval.proofs.marks.compare_values.Goals as goal

pub number-requires : goal.number-requires
number-requires c = place_within c.args.bank.now c.args.left.0 c.requires.there.0 c.requires.there.2

pub cell-first-requires : goal.cell-first-requires
cell-first-requires c = omega (
  arith,
  c.number.ensures,
  place_within c.args.bank.now c.args.left.0 c.requires.there.0 c.requires.there.2,
)

pub number-requires-2 : goal.number-requires-2
number-requires-2 c = place_within c.args.bank.now c.args.right.0 c.requires.there.1 c.requires.there.3

pub cell-second-requires : goal.cell-second-requires
cell-second-requires c = omega (
  arith,
  c.number-2.ensures,
  place_within c.args.bank.now c.args.right.0 c.requires.there.1 c.requires.there.3,
)

pub index-requires : goal.index-requires
index-requires c = omega (
  arith,
  c.in_ok-grow.ensures.whole,
  place_within c.args.bank.now c.args.left.0 c.requires.there.0 c.requires.there.2,
)

pub index-requires-2 : goal.index-requires-2
index-requires-2 c = omega (
  arith,
  c.in_ok-grow.ensures.whole,
  place_within c.args.bank.now c.args.right.0 c.requires.there.1 c.requires.there.3,
)

pub returns-then-either-clause-are : goal.returns-then-either-clause-are
returns-then-either-clause-are c v w l r =
    let cells = c.args.bank.now in
    let a = term_there cells c.args.left.0 c.cell-first.result.0 c.cell-first.result.1.now v
    (subst (λ n. slice_get cells n ≡ Some (cell c.cell-first.result.0 c.cell-first.result.1.now))
    c.number.ensures c.cell-first.ensures) l in
    let b = term_there cells c.args.right.0 c.cell-second.result.0 c.cell-second.result.1.now w
    (subst (λ n. slice_get cells n ≡ Some (cell c.cell-second.result.0 c.cell-second.result.1.now))
    c.number-2.ensures c.cell-second.ensures) r in (
      not_the_same c.same.result v w (c.same.ensures v w l r) c.if-same.false,
      elim (c.either.ensures.0 c.if-either.true) [
        | inl h ↦ constant_left c.args.constants.from c.args.constants.to v w c.cell-first.result.0 a.0 a.1
            (c.has.ensures.0 h)
        | inr h ↦ constant_right c.args.constants.from c.args.constants.to v w c.cell-second.result.0 b.0 b.1
            (c.has-2.ensures.0 h)
      ],
    )

pub returns-then-either-2-clause-are : goal.returns-then-either-2-clause-are
returns-then-either-2-clause-are c v w l r =
    let cells = c.args.bank.now in
    let from = c.args.constants.from in
    let to = c.args.constants.to in
    let marks = c.grow.new.self.marks.items in
    let a = term_there cells c.args.left.0 c.cell-first.result.0 c.cell-first.result.1.now v
    (subst (λ n. slice_get cells n ≡ Some (cell c.cell-first.result.0 c.cell-first.result.1.now))
    c.number.ensures c.cell-first.ensures) l in
    let b = term_there cells c.args.right.0 c.cell-second.result.0 c.cell-second.result.1.now w
    (subst (λ n. slice_get cells n ≡ Some (cell c.cell-second.result.0 c.cell-second.result.1.now))
    c.number-2.ensures c.cell-second.ensures) r in
    let heads : c.cell-first.result.0 ≡ c.cell-second.result.0 = omega (arith, c.if-first-second.false) in
    let says_left = mark_at from to cells marks c.args.left.0 c.index.result.now v c.in_ok-grow.ensures.right
    (omega (arith, c.in_ok-grow.ensures.whole, place_within cells c.args.left.0 v l)) c.index.ensures l in
    let says_right = mark_at from to cells marks c.args.right.0 c.index-2.result.now w
    c.in_ok-grow.ensures.right (omega (
      arith,
      c.in_ok-grow.ensures.whole,
      place_within cells c.args.right.0 w r,
    )) c.index-2.ensures r in
    let b_same = subst (λ n. w ≡ app n b.0) (sym heads) b.1 in (
      not_the_same c.same.result v w (c.same.ensures v w l r) c.if-same.false,
      same_heads from to v w c.cell-first.result.0 a.0 b.0 a.1 b_same (elim (c.either-2.ensures.0 c.if-either-2.true) [
        | inl h ↦ inl (says_left.0 h)
        | inr h ↦ inr (says_right.0 h)
      ]),
    )

pub returns-clause-are : goal.returns-clause-are
returns-clause-are c v w l r =
    let cells = c.args.bank.now in
    let from = c.args.constants.from in
    let to = c.args.constants.to in
    let marks = c.grow.new.self.marks.items in
    let says_left = mark_at from to cells marks c.args.left.0 c.index.result.now v c.in_ok-grow.ensures.right
    (omega (arith, c.in_ok-grow.ensures.whole, place_within cells c.args.left.0 v l)) c.index.ensures l in
    let says_right = mark_at from to cells marks c.args.right.0 c.index-2.result.now w
    c.in_ok-grow.ensures.right (omega (
      arith,
      c.in_ok-grow.ensures.whole,
      place_within cells c.args.right.0 w r,
    )) c.index-2.ensures r in
    inr (
      not_the_same c.same.result v w (c.same.ensures v w l r) c.if-same.false,
      (λ h. is_false c.either-2.result c.if-either-2.false (c.either-2.ensures.1 (inl (says_left.1 h)))),
      (λ h. is_false c.either-2.result c.if-either-2.false (c.either-2.ensures.1 (inr (says_right.1 h)))),
    )
