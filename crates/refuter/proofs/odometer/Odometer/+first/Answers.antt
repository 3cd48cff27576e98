use Rattle.std.proofs.Common.{arith, ℕ, ◌≡◌, ◌<◌, ◌≤◌, ◌∙◌, ◌++◌, Some, None, ap, sym, refl, subst, suc, ◌∷◌, []}
use Rattle.std.proofs.Common.{length}
use Rattle.std.specs.Prelude.{IfOk, slice_get}
use Rattle.std.specs.List.{AllByRecursion}
use Rattle.term_core.specs.Tree.{app, trees_of}
use Rattle.spec_core.specs.Sig.{Sig, IsSort, info_of}
use Rattle.value_bank.specs.Cells.{AreBelow, AddsCells}
use Rattle.value_bank.proofs.Placed.{adds_nothing, adds_both, terms_within}
use Rattle.refuter.specs.Bounded.{values_within, rows_within}
use Rattle.refuter.specs.After.{room_within, made_from}
use Rattle.refuter.specs.Moves.{IsPlaceOf}
use Rattle.refuter.proofs.Least.{some_fits}
use Rattle.refuter.specs.Symbols.{value_symbols, row_symbols}
use Rattle.refuter.proofs.Growth.{push_symbols}
use Rattle.refuter.proofs.Steps.{made_first, made_later, made_other, made_none, first_none, first_is_made, goes_true}
use Rattle.refuter.proofs.Steps.{goes_false, push_end, push_none, push_some, room_is, before_few, same_rows}
use Rattle.refuter.proofs.Steps.{behind_row, made_at, place_none, on_ok_map}
use Rattle.refuter.proofs.odometer.Odometer.+first.Goals as goal
use Rattle.refuter.proofs.odometer.Odometer.+first.Goals.{first_made-After-info-info}
use Rattle.term_core.proofs.Items.{if_ok_map}

-- the constructor at which the walk is
walked : {t : ℕ} (c : first_made-After-info-info t) →
    (info_of c.args.self.now c.loop-number.number ≡ Some c.info-info.result.now)
    × (c.loop-number.number < c.args.self.now.constructors)
walked c = (
  subst (λ g. info_of g c.loop-number.number ≡ Some c.info-info.result.now) c.self.view_is
      c.info-info.ensures,
  omega (
    arith,
    c.constructors-number-end.ensures.count,
    ap (λ (g : Sig). g.constructors) c.self.view_is,
  ),
)

pub first_made-loop-number-init : goal.first_made-loop-number-init
first_made-loop-number-init t c = record {
  first = refl;
  same = refl;
  adds = adds_nothing c.args.bank.now;
  few = omega arith;
}

pub first_made-loop-number-preserved-then-info-sort : goal.first_made-loop-number-preserved-then-info-sort
first_made-loop-number-preserved-then-info-sort t c =
    let sig = c.args.self.now in
    let i = c.info-info.result.now in
    let w = walked (goal.at.first_made-loop-number-preserved-then-info-sort t c).After-info-info in
    record {
      first = ap (λ xs. slice_get xs 0)
          (sym (made_other sig c.args.depth c.args.sort c.args.bound c.loop-number.number i w.0 w.1
          c.if-info-sort.true)) ∙ c.loop-number.invariant.first;
      same = c.loop-number.invariant.same;
      adds = c.loop-number.invariant.adds;
      few = c.loop-number.invariant.few;
    }

pub first_made-loop-number-preserved : goal.first_made-loop-number-preserved
first_made-loop-number-preserved t c =
    let sig = c.args.self.now in
    let i = c.info-info.result.now in
    let here = walked (goal.at.first_made-loop-number-preserved t c).After-info-info in
    let room = room_is sig c.args.bound c.min.result c.saturating_sub-room.result c.min.ensures
    c.saturating_sub-room.ensures in
    let w = goes_false c.push_first.new.bank c.loop-number.row.items
    (slice_get (rows_within sig c.args.depth c.as_slice.result.now c.saturating_sub-room.result) 0)
    c.push_first.new.row.items c.in_ok-push_first.field-0 c.in_ok-push_first.ensures.goes c.if-branch.false in
    let e : slice_get (rows_within sig c.args.depth i.args (room_within sig c.args.bound)) 0 ≡ None = same_rows
    sig c.args.depth c.as_slice.result.now i.args c.saturating_sub-room.result
    (room_within sig c.args.bound) None c.as_slice.ensures room w.0 in
    record {
      first = sym (made_later sig c.args.depth c.args.sort c.args.bound c.loop-number.number i here.0 here.1
          c.if-info-sort.false e) ∙ c.loop-number.invariant.first;
      same = w.1 ∙ c.loop-number.invariant.same;
      adds = adds_both c.args.bank.now c.loop-number.bank c.push_first.new.bank c.loop-number.invariant.adds
          c.in_ok-push_first.ensures.adds;
      few = omega (arith, ap row_symbols w.0, c.loop-number.invariant.few, c.in_ok-push_first.ensures.few);
    }

pub first_made-add-requires : goal.first_made-add-requires
first_made-add-requires t c =
    let w = goes_true c.push_first.new.bank c.loop-number.row.items
    (slice_get (rows_within c.args.self.now c.args.depth c.as_slice.result.now c.saturating_sub-room.result)
    0) c.push_first.new.row.items c.in_ok-push_first.field-0 c.in_ok-push_first.ensures.goes c.if-branch.true in
    let m : c.len-start.result ≡ length c.args.row.now.items = omega (
      arith,
      c.len-start.ensures,
      c.args.row.now.ok.0,
    ) in
    let n : c.len-start.result ≡ length c.loop-number.row.items = m
    ∙ ap (λ xs. length xs) (sym c.loop-number.invariant.same) in
    subst (λ ps. AreBelow (length c.push_first.new.bank) ps)
    (sym (behind_row c.loop-number.row.items c.push_first.new.row.items w.places c.deref.result.now
    c.len-start.result w.row_is n c.deref.ensures.value))
    (terms_within c.push_first.new.bank w.places (trees_of w.values) w.stand)

pub first_made-returns-then-branch-clause-placed : goal.first_made-returns-then-branch-clause-placed
first_made-returns-then-branch-clause-placed t c =
    let sig = c.args.self.now in
    let i = c.info-info.result.now in
    let here = walked (goal.at.first_made-returns-then-branch-clause-placed t c).After-info-info in
    let room = room_is sig c.args.bound c.min.result c.saturating_sub-room.result c.min.ensures
    c.saturating_sub-room.ensures in
    let w = goes_true c.push_first.new.bank c.loop-number.row.items
    (slice_get (rows_within sig c.args.depth c.as_slice.result.now c.saturating_sub-room.result) 0)
    c.push_first.new.row.items c.in_ok-push_first.field-0 c.in_ok-push_first.ensures.goes c.if-branch.true in
    let m : c.len-start.result ≡ length c.args.row.now.items = omega (
      arith,
      c.len-start.ensures,
      c.args.row.now.ok.0,
    ) in
    let n : c.len-start.result ≡ length c.loop-number.row.items = m
    ∙ ap (λ xs. length xs) (sym c.loop-number.invariant.same) in
    let e : slice_get (rows_within sig c.args.depth i.args (room_within sig c.args.bound)) 0 ≡ Some
    w.values = same_rows sig c.args.depth c.as_slice.result.now i.args c.saturating_sub-room.result
    (room_within sig c.args.bound) (Some w.values) c.as_slice.ensures room w.is in
    let first : Some (app c.loop-number.number (trees_of w.values)) ≡ slice_get
    (made_from sig c.args.depth c.args.sort c.args.bound c.args.from) 0 = sym
    (made_first sig c.args.depth c.args.sort c.args.bound c.loop-number.number i w.values here.0 here.1
    c.if-info-sort.false e) ∙ c.loop-number.invariant.first in
    subst (λ v. IsPlaceOf c.add.new.self v (Some c.in_ok-made.made)) first
    (made_at c.push_first.new.bank c.add.new.self _ w.places c.in_ok-made.made c.loop-number.number w.values
    (behind_row c.loop-number.row.items c.push_first.new.row.items w.places c.deref.result.now
    c.len-start.result w.row_is n c.deref.ensures.value) w.stand c.add.ensures.adds c.in_ok-made.ensures.found)

pub first_made-returns-then-branch-clause-few : goal.first_made-returns-then-branch-clause-few
first_made-returns-then-branch-clause-few t c =
    let sig = c.args.self.now in
    let i = c.info-info.result.now in
    let here = walked (goal.at.first_made-returns-then-branch-clause-few t c).After-info-info in
    let room = room_is sig c.args.bound c.min.result c.saturating_sub-room.result c.min.ensures
    c.saturating_sub-room.ensures in
    let w = goes_true c.push_first.new.bank c.loop-number.row.items
    (slice_get (rows_within sig c.args.depth c.as_slice.result.now c.saturating_sub-room.result) 0)
    c.push_first.new.row.items c.in_ok-push_first.field-0 c.in_ok-push_first.ensures.goes c.if-branch.true in
    let m : c.len-start.result ≡ length c.args.row.now.items = omega (
      arith,
      c.len-start.ensures,
      c.args.row.now.ok.0,
    ) in
    let n : c.len-start.result ≡ length c.loop-number.row.items = m
    ∙ ap (λ xs. length xs) (sym c.loop-number.invariant.same) in
    let e : slice_get (rows_within sig c.args.depth i.args (room_within sig c.args.bound)) 0 ≡ Some
    w.values = same_rows sig c.args.depth c.as_slice.result.now i.args c.saturating_sub-room.result
    (room_within sig c.args.bound) (Some w.values) c.as_slice.ensures room w.is in
    let first : Some (app c.loop-number.number (trees_of w.values)) ≡ slice_get
    (made_from sig c.args.depth c.args.sort c.args.bound c.args.from) 0 = sym
    (made_first sig c.args.depth c.args.sort c.args.bound c.loop-number.number i w.values here.0 here.1
    c.if-info-sort.false e) ∙ c.loop-number.invariant.first in
    omega (
      arith,
      ap value_symbols first,
      ap row_symbols w.is,
      c.loop-number.invariant.few,
      c.in_ok-push_first.ensures.few,
      c.add.ensures.few,
    )

pub first_made-returns-clause-placed : goal.first_made-returns-clause-placed
first_made-returns-clause-placed t c =
    let sig = c.args.self.now in
    let past : sig.constructors ≤ c.loop-number.number = omega (
      arith,
      c.loop-number-test.false,
      c.constructors-number-end.ensures.count,
      ap (λ (g : Sig). g.constructors) c.self.view_is,
    ) in
    let e : None ≡ slice_get (made_from sig c.args.depth c.args.sort c.args.bound c.args.from) 0 = sym
    (ap (λ xs. slice_get xs 0) (made_none sig c.args.depth c.args.sort c.args.bound c.loop-number.number
    past)) ∙ c.loop-number.invariant.first in
    subst (λ v. IsPlaceOf c.loop-number.bank v None) e tt

pub first_made-returns-clause-same : goal.first_made-returns-clause-same
first_made-returns-clause-same t c = c.loop-number.invariant.same

pub first_made-returns-clause-adds : goal.first_made-returns-clause-adds
first_made-returns-clause-adds t c = c.loop-number.invariant.adds

pub first_made-returns-clause-few : goal.first_made-returns-clause-few
first_made-returns-clause-few t c = omega (arith, c.loop-number.invariant.few)

pub push_first-returns-in_default-clause-goes : goal.push_first-returns-in_default-clause-goes
push_first-returns-in_default-clause-goes t c = push_end c.args.self.now c.args.bank.now c.args.depth
    c.args.sorts.now c.args.bound c.args.row.now.items c.in_default.ensures

pub push_first-returns-in-None-clause-goes : goal.push_first-returns-in-None-clause-goes
push_first-returns-in-None-clause-goes t c =
    push_none c.args.self.now c.first_value.new.bank c.args.depth c.args.sorts.now c.in-Some.sort.now
    c.in-Some.others.now c.args.bound c.room_before-room.result c.in_ok-first_value.field-0
    c.args.row.now.items c.first_value.new.row.items c.in-Some.ensures c.room_before-room.ensures
    c.in-None.is c.in_ok-first_value.ensures.placed c.in_ok-first_value.ensures.same

pub push_first-returns-in-None-clause-few : goal.push_first-returns-in-None-clause-few
push_first-returns-in-None-clause-few t c =
    let none = place_none c.first_value.new.bank
    (slice_get (values_within c.args.self.now c.args.depth c.in-Some.sort.now c.room_before-room.result) 0)
    c.in_ok-first_value.field-0 c.in-None.is c.in_ok-first_value.ensures.placed in
    omega (arith, ap value_symbols none, c.in_ok-first_value.ensures.few)

pub push_first-returns-in_ok-push-in-Some-2-clause-goes :
    goal.push_first-returns-in_ok-push-in-Some-2-clause-goes
push_first-returns-in_ok-push-in-Some-2-clause-goes t c =
    let k = c.in_ok-size-in-Some-2 in
    let adds : AddsCells c.first_value.new.bank c.push_first.new.bank = subst
    (λ b. AddsCells b c.push_first.new.bank) k.ensures.same c.push_first.ensures.adds in
    let mid : c.push.new.self.items ≡ c.args.row.now.items
    ++ c.in-Some-2.value ∷ [] = c.in_ok-push-in-Some-2.ensures.items
    ∙ ap (λ xs. xs ++ c.in-Some-2.value ∷ []) c.in_ok-first_value.ensures.same in
    if_ok_map c.push_first.result _ _ (push_some c.args.self.now c.first_value.new.bank c.push_first.new.bank
    c.args.depth c.args.sorts.now c.in-Some.sort.now c.in-Some.others.now c.args.bound
    c.room_before-room.result k.size c.in-Some-2.value c.in_ok-first_value.field-0 c.args.row.now.items
    c.push.new.self.items c.push_first.new.row.items c.in-Some.ensures c.requires.few
    c.room_before-room.ensures c.in-Some-2.is c.in_ok-first_value.ensures.placed k.ensures.size adds mid)
    c.push_first.ensures.goes

pub push_first-returns-in_ok-push-in-Some-2-clause-few :
    goal.push_first-returns-in_ok-push-in-Some-2-clause-few
push_first-returns-in_ok-push-in-Some-2-clause-few t c =
    let k = c.in_ok-size-in-Some-2 in
    let all = push_symbols c.args.self.now c.args.depth c.first_value.new.bank c.args.sorts.now
    c.in-Some.sort.now c.in-Some.others.now c.args.bound c.room_before-room.result k.size c.in-Some-2.value
    c.in_ok-first_value.field-0 c.in-Some.ensures c.requires.few c.room_before-room.ensures c.in-Some-2.is
    c.in_ok-first_value.ensures.placed k.ensures.size in
    let same = ap (λ cells. length cells) k.ensures.same in
    on_ok_map c.push_first.result _ _ (λ h. omega (arith, all, same, h, c.in_ok-first_value.ensures.few))
    c.push_first.ensures.few

pub first_value-returns-then-fewest-bound-clause-placed : goal.first_value-returns-then-fewest-bound-clause-placed
first_value-returns-then-fewest-bound-clause-placed t c =
    subst (λ v. IsPlaceOf c.args.bank.now v None)
    (first_none c.args.self.now c.args.depth c.args.sort c.args.bound c.fewest.result c.fewest.ensures
    c.if-fewest-bound.true) tt

pub first_value-overflow_sub-depth : goal.first_value-overflow_sub-depth
first_value-overflow_sub-depth t c = (some_fits c.args.self.now c.args.depth c.args.sort c.args.bound
    (omega (arith, c.fewest.ensures, c.if-fewest-bound.false)) c.requires.few).0

pub first_value-returns-clause-placed : goal.first_value-returns-clause-placed
first_value-returns-clause-placed t c =
    let e = first_is_made c.args.self.now c.args.depth c.args.sort c.args.bound c.fewest.result c.fewest.ensures
    c.if-fewest-bound.false c.requires.few in
    subst (λ x. IfOk c.first_made.result (IsPlaceOf c.first_made.new.bank x)) e c.first_made.ensures.placed

pub first_value-returns-clause-few : goal.first_value-returns-clause-few
first_value-returns-clause-few t c =
    let e = first_is_made c.args.self.now c.args.depth c.args.sort c.args.bound c.fewest.result c.fewest.ensures
    c.if-fewest-bound.false c.requires.few in
    on_ok_map c.first_made.result _ _ (λ h. omega (arith, ap value_symbols e, h)) c.first_made.ensures.few

pub first_value-first_made-requires : goal.first_value-first_made-requires
first_value-first_made-requires t c =
    let w = some_fits c.args.self.now c.args.depth c.args.sort c.args.bound
    (omega (arith, c.fewest.ensures, c.if-fewest-bound.false)) c.requires.few in
    (omega (arith, w.0), tt)

pub push_first-first_value-requires : goal.push_first-first_value-requires
push_first-first_value-requires t c =
    let e : c.args.sorts.now ≡ c.in-Some.sort.now ∷ c.in-Some.others.now = c.in-Some.ensures in
    let long : length c.args.sorts.now ≡ suc (length c.in-Some.others.now) = ap (λ xs. length xs) e in
    let sorts : AllByRecursion (IsSort c.args.self.now) (c.in-Some.sort.now ∷ c.in-Some.others.now) = subst
    (λ ss. AllByRecursion (IsSort c.args.self.now) ss) e c.requires.sorts in (
      omega arith,
      (
        sorts.0,
        before_few c.args.self.now c.args.depth c.in-Some.others.now c.args.bound
            c.room_before-room.result c.requires.few c.room_before-room.ensures,
      ),
    )
