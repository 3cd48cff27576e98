use Rattle.std.proofs.Common.{arith, suc, true, ◌≡◌, ◌+◌, ◌-◌, ◌<◌, ◌≤◌, ◌∙◌, ◌++◌, ◌∷◌, [], Some, refl, ap, sym}
use Rattle.std.proofs.Common.{subst, length, take, drop, min, length-append}
use Rattle.std.specs.Prelude.{slice_get}
use Rattle.std.specs.List.{AllByRecursion}
use Rattle.std.proofs.lemmas.List.{length_push}
use Rattle.std.proofs.lemmas.Option.{slice_get_read}
use Rattle.term_core.specs.Tree.{app, trees_of, tree_size}
use Rattle.spec_core.specs.Sig.{Sig, info_of, IsSort}
use Rattle.term_core.proofs.Items.{drop_here, if_ok_map}
use Rattle.term_core.proofs.Members.{in_contained, contained_in}
use Rattle.value_bank.specs.Cells.{IsTerm, AreTerms, AreBelow, AddsCells}
use Rattle.value_bank.proofs.Terms.{term_kept}
use Rattle.value_bank.proofs.Placed.{terms_within, term_within}
use Rattle.rule_code.proofs.Joined.{drop_whole}
use Rattle.ground_eval.proofs.Lists.{take_here}
use Rattle.refuter.specs.After.{rows_after, values_after}
use Rattle.refuter.specs.Moves.{IsPlaceOf, GoesOn}
use Rattle.refuter.specs.Symbols.{value_symbols, row_symbols}
use Rattle.refuter.proofs.Growth.{next_symbols, same_symbols}
use Rattle.refuter.proofs.Steps.{place_none, parted, application_at, goes_true, goes_false, room_is, next_end}
use Rattle.refuter.proofs.Steps.{next_same, next_none, next_first, whole_taken, place_within, rest_listed}
use Rattle.refuter.proofs.Steps.{first_listed, last_same, application_is, arguments_listed, value_goes, value_ends}
use Rattle.refuter.proofs.Steps.{at_places, at_term, place_some, behind_row, made_at, cut_back, on_ok_map}
use Rattle.refuter.proofs.Advances.{value_at, popped, extended}
use Rattle.refuter.proofs.odometer.Odometer.+next.Goals as goal

pub advance-returns-in_default-clause-goes : goal.advance-returns-in_default-clause-goes
advance-returns-in_default-clause-goes t c =
    let sig = c.args.self.now in
    let row = c.args.row.now.items in
    let l = c.requires.listed in
    at_places c.args.bank.now (drop c.args.place row) (λ values. GoesOn c.args.bank.now (take c.args.place row)
    (slice_get (rows_after sig c.args.depth c.args.sorts.now c.args.bound values) 0) row _) l.0 l.1
    (next_end sig c.args.bank.now c.args.depth c.args.sorts.now c.args.bound l.0 (take c.args.place row) row
    c.in_default.ensures (whole_taken c.args.bank.now sig c.args.depth c.args.sorts.now c.args.bound
    c.args.place row l.0 c.in_default.ensures l.1 (in_contained _ _ l.2)))

pub advance-index-requires : goal.advance-index-requires
advance-index-requires t c =
    let sig = c.args.self.now in
    let row = c.args.row.now.items in
    let l = c.requires.listed in
    let ss = c.in-Some.others.now in
    let within : c.args.place < length row = place_within sig c.args.bank.now c.args.depth c.args.sorts.now
    c.in-Some.sort.now ss c.args.bound c.args.place row l.0 c.in-Some.ensures l.1 (in_contained _ _ l.2) in
    omega (arith, c.args.row.now.ok.0, within)

pub advance-size-requires-clause-there : goal.advance-size-requires-clause-there
advance-size-requires-clause-there t c =
    let sig = c.args.self.now in
    let row = c.args.row.now.items in
    let l = c.requires.listed in
    let ss = c.in-Some.others.now in
    let p = c.index.result.now in
    let value = value_at sig c.args.bank.now c.args.depth c.args.sorts.now c.in-Some.sort.now ss c.args.bound
    c.args.place row p l.0 c.in-Some.ensures l.1 l.2 c.index.ensures in
    let part = value.part in
    (part.first, part.here)

pub advance-overflow_sub-bound : goal.advance-overflow_sub-bound
advance-overflow_sub-bound t c =
    let sig = c.args.self.now in
    let row = c.args.row.now.items in
    let l = c.requires.listed in
    let ss = c.in-Some.others.now in
    let p = c.index.result.now in
    let value = value_at sig c.args.bank.now c.args.depth c.args.sorts.now c.in-Some.sort.now ss c.args.bound
    c.args.place row p l.0 c.in-Some.ensures l.1 l.2 c.index.ensures in
    let part = value.part in
    let size = c.in_ok-size.size in
    let sized : size ≡ min (tree_size part.first) c.args.bound = c.in_ok-size.ensures.size part.first part.here in
    omega (arith, sized)

pub advance-advance-requires : goal.advance-advance-requires
advance-advance-requires t c =
    let sig = c.args.self.now in
    let row = c.args.row.now.items in
    let l = c.requires.listed in
    let ss = c.in-Some.others.now in
    let p = c.index.result.now in
    let value = value_at sig c.args.bank.now c.args.depth c.args.sorts.now c.in-Some.sort.now ss c.args.bound
    c.args.place row p l.0 c.in-Some.ensures l.1 l.2 c.index.ensures in
    let part = value.part in
    let size = c.in_ok-size.size in
    let sized : size ≡ min (tree_size part.first) c.args.bound = c.in_ok-size.ensures.size part.first part.here in
    let stand : AreTerms c.size.new.self (drop (c.args.place + 1) row) (trees_of part.others) = subst
    (λ b. AreTerms b (drop (c.args.place + 1) row) (trees_of part.others)) (sym c.in_ok-size.ensures.same)
    part.behind in
    let long : length c.args.sorts.now ≡ suc (length ss) = ap (λ xs. length xs) c.in-Some.ensures in
    let sorts : AllByRecursion (IsSort sig) (c.in-Some.sort.now ∷ ss) = subst
    (λ us. AllByRecursion (IsSort sig) us) c.in-Some.ensures c.requires.sorts in
    let listed = contained_in _ _ (rest_listed sig c.args.depth c.args.sorts.now c.in-Some.sort.now ss
    c.args.bound size part.first part.others l.0 c.in-Some.ensures part.is sized (in_contained _ _ l.2)) in (
      omega (arith, value.within),
      (sorts.1, (omega (arith, c.requires.few), (omega arith, (part.others, stand, listed)))),
    )

pub advance-returns-then-branch-clause-goes : goal.advance-returns-then-branch-clause-goes
advance-returns-then-branch-clause-goes t c =
    let sig = c.args.self.now in
    let row = c.args.row.now.items in
    let l = c.requires.listed in
    let ss = c.in-Some.others.now in
    let p = c.index.result.now in
    let value = value_at sig c.args.bank.now c.args.depth c.args.sorts.now c.in-Some.sort.now ss c.args.bound
    c.args.place row p l.0 c.in-Some.ensures l.1 l.2 c.index.ensures in
    let part = value.part in
    let size = c.in_ok-size.size in
    let sized : size ≡ min (tree_size part.first) c.args.bound = c.in_ok-size.ensures.size part.first part.here in
    let stand : AreTerms c.size.new.self (drop (c.args.place + 1) row) (trees_of part.others) = subst
    (λ b. AreTerms b (drop (c.args.place + 1) row) (trees_of part.others)) (sym c.in_ok-size.ensures.same)
    part.behind in
    let adds : AddsCells c.args.bank.now c.advance.new.bank = subst (λ b. AddsCells b c.advance.new.bank)
    c.in_ok-size.ensures.same c.in_ok-advance.ensures.adds in
    let left : c.args.bound - size ≡ c.args.bound - tree_size part.first = omega (arith, sized) in
    let after = slice_get (rows_after sig c.args.depth ss (c.args.bound - size) (part.others)) 0 in
    let moved = c.in_ok-advance.ensures.goes part.others stand in
    let here : IsTerm c.advance.new.bank p part.first = term_kept c.args.bank.now c.advance.new.bank p
    part.first adds part.here in
    let goes : GoesOn c.advance.new.bank (take (c.args.place + 1) row) after c.advance.new.row.items
    true = subst (λ b. GoesOn c.advance.new.bank (take (c.args.place + 1) row) after c.advance.new.row.items
    b) c.if-branch.true moved in
    at_places c.args.bank.now (drop c.args.place row)
    (λ values. GoesOn c.advance.new.bank (take c.args.place row)
    (slice_get (rows_after sig c.args.depth c.args.sorts.now c.args.bound values) 0) c.advance.new.row.items
    true) l.0 l.1 (next_same sig c.advance.new.bank c.args.depth c.args.sorts.now c.in-Some.sort.now ss
    c.args.bound (c.args.bound - size) p part.first part.others l.0 (take c.args.place row)
    (take (c.args.place + 1) row) c.advance.new.row.items c.in-Some.ensures part.is here left
    value.taken goes)

pub advance-returns-then-branch-clause-few : goal.advance-returns-then-branch-clause-few
advance-returns-then-branch-clause-few t c =
    let sig = c.args.self.now in
    let row = c.args.row.now.items in
    let l = c.requires.listed in
    let ss = c.in-Some.others.now in
    let p = c.index.result.now in
    let value = value_at sig c.args.bank.now c.args.depth c.args.sorts.now c.in-Some.sort.now ss c.args.bound
    c.args.place row p l.0 c.in-Some.ensures l.1 l.2 c.index.ensures in
    let part = value.part in
    let size = c.in_ok-size.size in
    let sized : size ≡ min (tree_size part.first) c.args.bound = c.in_ok-size.ensures.size part.first part.here in
    let stand : AreTerms c.size.new.self (drop (c.args.place + 1) row) (trees_of part.others) = subst
    (λ b. AreTerms b (drop (c.args.place + 1) row) (trees_of part.others)) (sym c.in_ok-size.ensures.same)
    part.behind in
    let left : c.args.bound - size ≡ c.args.bound - tree_size part.first = omega (arith, sized) in
    let after = slice_get (rows_after sig c.args.depth ss (c.args.bound - size) (part.others)) 0 in
    let moved = c.in_ok-advance.ensures.goes part.others stand in
    let w = goes_true c.advance.new.bank (take (c.args.place + 1) row) after c.advance.new.row.items
    c.in_ok-advance.field-0 moved c.if-branch.true in
    let all = same_symbols sig c.args.depth c.args.sorts.now c.in-Some.sort.now ss c.args.bound
    (c.args.bound - size) part.first part.others l.0 w.values c.in-Some.ensures part.is left w.is in
    let same = ap (λ cells. length cells) c.in_ok-size.ensures.same in
    let few = c.in_ok-advance.ensures.few part.others stand in
    at_places c.args.bank.now (drop c.args.place row)
    (λ values. length c.advance.new.bank ≤ length c.args.bank.now + row_symbols
    (slice_get (rows_after sig c.args.depth c.args.sorts.now c.args.bound values) 0)) l.0 l.1
    (omega (arith, all, same, few))

pub advance-unreachable-requires : goal.advance-unreachable-requires
advance-unreachable-requires t c =
    let sig = c.args.self.now in
    let row = c.args.row.now.items in
    let l = c.requires.listed in
    let ss = c.in-Some.others.now in
    let p = c.index.result.now in
    let value = value_at sig c.args.bank.now c.args.depth c.args.sorts.now c.in-Some.sort.now ss c.args.bound
    c.args.place row p l.0 c.in-Some.ensures l.1 l.2 c.index.ensures in
    let part = value.part in
    let stand : AreTerms c.size.new.self (drop (c.args.place + 1) row) (trees_of part.others) = subst
    (λ b. AreTerms b (drop (c.args.place + 1) row) (trees_of part.others)) (sym c.in_ok-size.ensures.same)
    part.behind in
    let after = slice_get (rows_after sig c.args.depth ss (c.args.bound - c.in_ok-size.size) (part.others)) 0 in
    let w = goes_false c.advance.new.bank (take (c.args.place + 1) row) after c.advance.new.row.items
    c.in_ok-advance.field-0 (c.in_ok-advance.ensures.goes part.others stand) c.if-branch.false in
    let long : length c.advance.new.row.items ≡ length (take c.args.place row) + 1 =
    ap (λ xs. length xs) (w.1 ∙ value.taken) ∙ length_push (take c.args.place row) p in
    omega (arith, c.advance.new.row.ok.0, c.in_default-pop.ensures.cases.0)

pub advance-next_value-requires : goal.advance-next_value-requires
advance-next_value-requires t c =
    let sig = c.args.self.now in
    let row = c.args.row.now.items in
    let l = c.requires.listed in
    let ss = c.in-Some.others.now in
    let p = c.index.result.now in
    let value = value_at sig c.args.bank.now c.args.depth c.args.sorts.now c.in-Some.sort.now ss c.args.bound
    c.args.place row p l.0 c.in-Some.ensures l.1 l.2 c.index.ensures in
    let part = value.part in
    let size = c.in_ok-size.size in
    let stand : AreTerms c.size.new.self (drop (c.args.place + 1) row) (trees_of part.others) = subst
    (λ b. AreTerms b (drop (c.args.place + 1) row) (trees_of part.others)) (sym c.in_ok-size.ensures.same)
    part.behind in
    let after = slice_get (rows_after sig c.args.depth ss (c.args.bound - size) (part.others)) 0 in
    let moved = c.in_ok-advance.ensures.goes part.others stand in
    let past = popped c.args.bank.now c.size.new.self c.advance.new.bank row c.advance.new.row.items
    c.pop.new.self.items c.args.place p c.in-Some-pop.value part.first after c.in_ok-advance.field-0
    c.in_ok-size.ensures.same c.in_ok-advance.ensures.adds part.here value.taken moved c.if-branch.false
    c.in-Some-pop.ensures.items in
    let room = c.room_before-room.result in
    let long : length c.args.sorts.now ≡ suc (length ss) = ap (λ xs. length xs) c.in-Some.ensures in
    let listed = first_listed sig c.args.depth c.args.sorts.now c.in-Some.sort.now ss c.args.bound room
    part.first part.others l.0 c.in-Some.ensures part.is c.room_before-room.ensures (in_contained _ _ l.2) in
    (omega arith, (part.first, past.term, contained_in _ _ listed))

pub advance-size-requires-in-Some-2-clause-there : goal.advance-size-requires-in-Some-2-clause-there
advance-size-requires-in-Some-2-clause-there t c =
    let sig = c.args.self.now in
    let row = c.args.row.now.items in
    let l = c.requires.listed in
    let ss = c.in-Some.others.now in
    let p = c.index.result.now in
    let value = value_at sig c.args.bank.now c.args.depth c.args.sorts.now c.in-Some.sort.now ss c.args.bound
    c.args.place row p l.0 c.in-Some.ensures l.1 l.2 c.index.ensures in
    let part = value.part in
    let size = c.in_ok-size.size in
    let stand : AreTerms c.size.new.self (drop (c.args.place + 1) row) (trees_of part.others) = subst
    (λ b. AreTerms b (drop (c.args.place + 1) row) (trees_of part.others)) (sym c.in_ok-size.ensures.same)
    part.behind in
    let after = slice_get (rows_after sig c.args.depth ss (c.args.bound - size) (part.others)) 0 in
    let moved = c.in_ok-advance.ensures.goes part.others stand in
    let past = popped c.args.bank.now c.size.new.self c.advance.new.bank row c.advance.new.row.items
    c.pop.new.self.items c.args.place p c.in-Some-pop.value part.first after c.in_ok-advance.field-0
    c.in_ok-size.ensures.same c.in_ok-advance.ensures.adds part.here value.taken moved c.if-branch.false
    c.in-Some-pop.ensures.items in
    let room = c.room_before-room.result in
    let found : IsPlaceOf c.next_value.new.bank
    (slice_get (values_after sig c.args.depth c.in-Some.sort.now room part.first) 0)
    c.in_ok-next_value.field-0 = c.in_ok-next_value.ensures.placed part.first past.term in
    let v = place_some c.next_value.new.bank
    (slice_get (values_after sig c.args.depth c.in-Some.sort.now room part.first) 0)
    c.in_ok-next_value.field-0 c.in-Some-2.next c.in-Some-2.is found in
    (v.0, v.2)

pub advance-overflow_sub-bound-in-Some-2 : goal.advance-overflow_sub-bound-in-Some-2
advance-overflow_sub-bound-in-Some-2 t c =
    let sig = c.args.self.now in
    let row = c.args.row.now.items in
    let l = c.requires.listed in
    let ss = c.in-Some.others.now in
    let p = c.index.result.now in
    let value = value_at sig c.args.bank.now c.args.depth c.args.sorts.now c.in-Some.sort.now ss c.args.bound
    c.args.place row p l.0 c.in-Some.ensures l.1 l.2 c.index.ensures in
    let part = value.part in
    let size = c.in_ok-size.size in
    let stand : AreTerms c.size.new.self (drop (c.args.place + 1) row) (trees_of part.others) = subst
    (λ b. AreTerms b (drop (c.args.place + 1) row) (trees_of part.others)) (sym c.in_ok-size.ensures.same)
    part.behind in
    let after = slice_get (rows_after sig c.args.depth ss (c.args.bound - size) (part.others)) 0 in
    let moved = c.in_ok-advance.ensures.goes part.others stand in
    let past = popped c.args.bank.now c.size.new.self c.advance.new.bank row c.advance.new.row.items
    c.pop.new.self.items c.args.place p c.in-Some-pop.value part.first after c.in_ok-advance.field-0
    c.in_ok-size.ensures.same c.in_ok-advance.ensures.adds part.here value.taken moved c.if-branch.false
    c.in-Some-pop.ensures.items in
    let room = c.room_before-room.result in
    let found : IsPlaceOf c.next_value.new.bank
    (slice_get (values_after sig c.args.depth c.in-Some.sort.now room part.first) 0)
    c.in_ok-next_value.field-0 = c.in_ok-next_value.ensures.placed part.first past.term in
    let v = place_some c.next_value.new.bank
    (slice_get (values_after sig c.args.depth c.in-Some.sort.now room part.first) 0)
    c.in_ok-next_value.field-0 c.in-Some-2.next c.in-Some-2.is found in
    omega (arith, c.in_ok-taken-in-Some-2.ensures.size v.0 v.2)

pub advance-returns-in-None-clause-goes : goal.advance-returns-in-None-clause-goes
advance-returns-in-None-clause-goes t c =
    let sig = c.args.self.now in
    let row = c.args.row.now.items in
    let l = c.requires.listed in
    let ss = c.in-Some.others.now in
    let p = c.index.result.now in
    let value = value_at sig c.args.bank.now c.args.depth c.args.sorts.now c.in-Some.sort.now ss c.args.bound
    c.args.place row p l.0 c.in-Some.ensures l.1 l.2 c.index.ensures in
    let part = value.part in
    let size = c.in_ok-size.size in
    let sized : size ≡ min (tree_size part.first) c.args.bound = c.in_ok-size.ensures.size part.first part.here in
    let stand : AreTerms c.size.new.self (drop (c.args.place + 1) row) (trees_of part.others) = subst
    (λ b. AreTerms b (drop (c.args.place + 1) row) (trees_of part.others)) (sym c.in_ok-size.ensures.same)
    part.behind in
    let left : c.args.bound - size ≡ c.args.bound - tree_size part.first = omega (arith, sized) in
    let after = slice_get (rows_after sig c.args.depth ss (c.args.bound - size) (part.others)) 0 in
    let moved = c.in_ok-advance.ensures.goes part.others stand in
    let past = popped c.args.bank.now c.size.new.self c.advance.new.bank row c.advance.new.row.items
    c.pop.new.self.items c.args.place p c.in-Some-pop.value part.first after c.in_ok-advance.field-0
    c.in_ok-size.ensures.same c.in_ok-advance.ensures.adds part.here value.taken moved c.if-branch.false
    c.in-Some-pop.ensures.items in
    let room = c.room_before-room.result in
    let found : IsPlaceOf c.next_value.new.bank
    (slice_get (values_after sig c.args.depth c.in-Some.sort.now room part.first) 0)
    c.in_ok-next_value.field-0 = c.in_ok-next_value.ensures.placed part.first past.term in
    at_places c.args.bank.now (drop c.args.place row)
    (λ values. GoesOn c.next_value.new.bank (take c.args.place row)
    (slice_get (rows_after sig c.args.depth c.args.sorts.now c.args.bound values) 0)
    c.next_value.new.row.items _) l.0 l.1 (next_none sig c.next_value.new.bank c.args.depth c.args.sorts.now
    c.in-Some.sort.now ss c.args.bound (c.args.bound - size) room part.first part.others l.0
    (take c.args.place row) c.next_value.new.row.items c.in_ok-next_value.field-0 c.in-Some.ensures part.is
    left past.ends c.room_before-room.ensures c.in-None.is found (c.in_ok-next_value.ensures.same ∙ past.kept))

pub advance-returns-in-None-clause-few : goal.advance-returns-in-None-clause-few
advance-returns-in-None-clause-few t c =
    let sig = c.args.self.now in
    let row = c.args.row.now.items in
    let l = c.requires.listed in
    let ss = c.in-Some.others.now in
    let p = c.index.result.now in
    let value = value_at sig c.args.bank.now c.args.depth c.args.sorts.now c.in-Some.sort.now ss c.args.bound
    c.args.place row p l.0 c.in-Some.ensures l.1 l.2 c.index.ensures in
    let part = value.part in
    let size = c.in_ok-size.size in
    let stand : AreTerms c.size.new.self (drop (c.args.place + 1) row) (trees_of part.others) = subst
    (λ b. AreTerms b (drop (c.args.place + 1) row) (trees_of part.others)) (sym c.in_ok-size.ensures.same)
    part.behind in
    let after = slice_get (rows_after sig c.args.depth ss (c.args.bound - size) (part.others)) 0 in
    let moved = c.in_ok-advance.ensures.goes part.others stand in
    let past = popped c.args.bank.now c.size.new.self c.advance.new.bank row c.advance.new.row.items
    c.pop.new.self.items c.args.place p c.in-Some-pop.value part.first after c.in_ok-advance.field-0
    c.in_ok-size.ensures.same c.in_ok-advance.ensures.adds part.here value.taken moved c.if-branch.false
    c.in-Some-pop.ensures.items in
    let room = c.room_before-room.result in
    let found : IsPlaceOf c.next_value.new.bank
    (slice_get (values_after sig c.args.depth c.in-Some.sort.now room part.first) 0)
    c.in_ok-next_value.field-0 = c.in_ok-next_value.ensures.placed part.first past.term in
    let none = place_none c.next_value.new.bank
    (slice_get (values_after sig c.args.depth c.in-Some.sort.now room part.first) 0)
    c.in_ok-next_value.field-0 c.in-None.is found in
    let same = ap (λ cells. length cells) c.in_ok-size.ensures.same in
    let few = c.in_ok-advance.ensures.few part.others stand in
    let more = c.in_ok-next_value.ensures.few part.first past.term in
    at_places c.args.bank.now (drop c.args.place row)
    (λ values. length c.next_value.new.bank ≤ length c.args.bank.now + row_symbols
    (slice_get (rows_after sig c.args.depth c.args.sorts.now c.args.bound values) 0)) l.0 l.1
    (omega (arith, same, few, ap row_symbols past.ends, more, ap value_symbols none))

pub advance-returns-in_ok-push-in-Some-2-clause-goes : goal.advance-returns-in_ok-push-in-Some-2-clause-goes
advance-returns-in_ok-push-in-Some-2-clause-goes t c =
    let sig = c.args.self.now in
    let row = c.args.row.now.items in
    let l = c.requires.listed in
    let ss = c.in-Some.others.now in
    let p = c.index.result.now in
    let value = value_at sig c.args.bank.now c.args.depth c.args.sorts.now c.in-Some.sort.now ss c.args.bound
    c.args.place row p l.0 c.in-Some.ensures l.1 l.2 c.index.ensures in
    let part = value.part in
    let size = c.in_ok-size.size in
    let sized : size ≡ min (tree_size part.first) c.args.bound = c.in_ok-size.ensures.size part.first part.here in
    let stand : AreTerms c.size.new.self (drop (c.args.place + 1) row) (trees_of part.others) = subst
    (λ b. AreTerms b (drop (c.args.place + 1) row) (trees_of part.others)) (sym c.in_ok-size.ensures.same)
    part.behind in
    let left : c.args.bound - size ≡ c.args.bound - tree_size part.first = omega (arith, sized) in
    let after = slice_get (rows_after sig c.args.depth ss (c.args.bound - size) (part.others)) 0 in
    let moved = c.in_ok-advance.ensures.goes part.others stand in
    let past = popped c.args.bank.now c.size.new.self c.advance.new.bank row c.advance.new.row.items
    c.pop.new.self.items c.args.place p c.in-Some-pop.value part.first after c.in_ok-advance.field-0
    c.in_ok-size.ensures.same c.in_ok-advance.ensures.adds part.here value.taken moved c.if-branch.false
    c.in-Some-pop.ensures.items in
    let room = c.room_before-room.result in
    let found : IsPlaceOf c.next_value.new.bank
    (slice_get (values_after sig c.args.depth c.in-Some.sort.now room part.first) 0)
    c.in_ok-next_value.field-0 = c.in_ok-next_value.ensures.placed part.first past.term in
    let z = c.in_ok-taken-in-Some-2 in
    let later : AddsCells c.next_value.new.bank c.push_first.new.bank = subst
    (λ b. AddsCells b c.push_first.new.bank) z.ensures.same c.push_first.ensures.adds in
    let mid : c.push.new.self.items ≡ take c.args.place row
    ++ c.in-Some-2.next ∷ [] = c.in_ok-push-in-Some-2.ensures.items
    ∙ ap (λ xs. xs ++ c.in-Some-2.next ∷ []) (c.in_ok-next_value.ensures.same ∙ past.kept) in
    if_ok_map c.push_first.result _ _ (λ r g.
    at_places c.args.bank.now (drop c.args.place row)
    (λ values. GoesOn c.push_first.new.bank (take c.args.place row)
    (slice_get (rows_after sig c.args.depth c.args.sorts.now c.args.bound values) 0)
    c.push_first.new.row.items r) l.0 l.1 (next_first sig c.next_value.new.bank c.push_first.new.bank
    c.args.depth c.args.sorts.now c.in-Some.sort.now ss c.args.bound (c.args.bound - size) room z.taken
    c.in-Some-2.next part.first part.others l.0 (take c.args.place row) c.push.new.self.items
    c.push_first.new.row.items c.in_ok-next_value.field-0 c.in-Some.ensures part.is left past.ends c.requires.few
    c.room_before-room.ensures (in_contained _ _ l.2) c.in-Some-2.is found z.ensures.size later mid r g))
    c.push_first.ensures.goes

pub advance-returns-in_ok-push-in-Some-2-clause-few : goal.advance-returns-in_ok-push-in-Some-2-clause-few
advance-returns-in_ok-push-in-Some-2-clause-few t c =
    let sig = c.args.self.now in
    let row = c.args.row.now.items in
    let l = c.requires.listed in
    let ss = c.in-Some.others.now in
    let p = c.index.result.now in
    let value = value_at sig c.args.bank.now c.args.depth c.args.sorts.now c.in-Some.sort.now ss c.args.bound
    c.args.place row p l.0 c.in-Some.ensures l.1 l.2 c.index.ensures in
    let part = value.part in
    let size = c.in_ok-size.size in
    let sized : size ≡ min (tree_size part.first) c.args.bound = c.in_ok-size.ensures.size part.first part.here in
    let stand : AreTerms c.size.new.self (drop (c.args.place + 1) row) (trees_of part.others) = subst
    (λ b. AreTerms b (drop (c.args.place + 1) row) (trees_of part.others)) (sym c.in_ok-size.ensures.same)
    part.behind in
    let left : c.args.bound - size ≡ c.args.bound - tree_size part.first = omega (arith, sized) in
    let after = slice_get (rows_after sig c.args.depth ss (c.args.bound - size) (part.others)) 0 in
    let moved = c.in_ok-advance.ensures.goes part.others stand in
    let past = popped c.args.bank.now c.size.new.self c.advance.new.bank row c.advance.new.row.items
    c.pop.new.self.items c.args.place p c.in-Some-pop.value part.first after c.in_ok-advance.field-0
    c.in_ok-size.ensures.same c.in_ok-advance.ensures.adds part.here value.taken moved c.if-branch.false
    c.in-Some-pop.ensures.items in
    let room = c.room_before-room.result in
    let found : IsPlaceOf c.next_value.new.bank
    (slice_get (values_after sig c.args.depth c.in-Some.sort.now room part.first) 0)
    c.in_ok-next_value.field-0 = c.in_ok-next_value.ensures.placed part.first past.term in
    let z = c.in_ok-taken-in-Some-2 in
    let all = next_symbols sig c.args.depth c.next_value.new.bank c.args.sorts.now c.in-Some.sort.now ss
    c.args.bound (c.args.bound - size) room z.taken c.in-Some-2.next part.first part.others l.0
    c.in_ok-next_value.field-0 c.in-Some.ensures part.is left past.ends c.requires.few c.room_before-room.ensures
    (in_contained _ _ l.2) c.in-Some-2.is found z.ensures.size in
    let same = ap (λ cells. length cells) c.in_ok-size.ensures.same in
    let again = ap (λ cells. length cells) z.ensures.same in
    let few = c.in_ok-advance.ensures.few part.others stand in
    let more = c.in_ok-next_value.ensures.few part.first past.term in
    on_ok_map c.push_first.result _ _ (λ h.
    at_places c.args.bank.now (drop c.args.place row)
    (λ values. length c.push_first.new.bank ≤ length c.args.bank.now + row_symbols
    (slice_get (rows_after sig c.args.depth c.args.sorts.now c.args.bound values) 0)) l.0 l.1
    (omega (arith, all, same, again, few, ap row_symbols past.ends, more, h))) c.push_first.ensures.few

pub next_value-cell-sym-requires : goal.next_value-cell-sym-requires
next_value-cell-sym-requires t c =
    let l = c.requires in
    term_within c.args.bank.now c.args.value l.0 l.1

pub next_value-info-requires : goal.next_value-info-requires
next_value-info-requires t c =
    let l = c.requires in
    let sig = c.args.self.now in
    let a = application_at c.args.bank.now c.args.value c.cell-sym.result.0 c.cell-sym.result.1.now l.0
    c.cell-sym.ensures l.1 in
    let q = application_is sig c.args.depth c.args.sort c.args.bound c.cell-sym.result.0 a.0 l.0
    (in_contained _ _ l.2) a.1 in
    omega (arith, q.2, ap (λ (g : Sig). length g.table) c.self.view_is)

pub next_value-overflow_sub-depth : goal.next_value-overflow_sub-depth
next_value-overflow_sub-depth t c =
    let l = c.requires in
    let sig = c.args.self.now in
    let a = application_at c.args.bank.now c.args.value c.cell-sym.result.0 c.cell-sym.result.1.now l.0
    c.cell-sym.ensures l.1 in
    let q = application_is sig c.args.depth c.args.sort c.args.bound c.cell-sym.result.0 a.0 l.0
    (in_contained _ _ l.2) a.1 in
    q.0

pub next_value-advance-requires : goal.next_value-advance-requires
next_value-advance-requires t c =
    let l = c.requires in
    let sig = c.args.self.now in
    let a = application_at c.args.bank.now c.args.value c.cell-sym.result.0 c.cell-sym.result.1.now l.0
    c.cell-sym.ensures l.1 in
    let q = application_is sig c.args.depth c.args.sort c.args.bound c.cell-sym.result.0 a.0 l.0
    (in_contained _ _ l.2) a.1 in
    let row = c.args.row.now.items in
    let start_is : c.len-start.result ≡ length row = omega (arith, c.len-start.ensures, c.args.row.now.ok.0) in
    let long = c.in_ok-extend_from_slice.ensures.items in
    let i = c.info.result.now in
    let at : info_of sig c.cell-sym.result.0 ≡ Some i = subst (λ g. info_of g c.cell-sym.result.0 ≡ Some i)
    c.self.view_is c.info.ensures in
    let room = room_is sig c.args.bound c.min.result c.saturating_sub-room.result c.min.ensures
    c.saturating_sub-room.ensures in
    let us = c.as_slice-sorts.result.now in
    let listed = arguments_listed sig c.args.depth c.args.sort c.args.bound c.cell-sym.result.0 a.0 l.0 i us
    c.saturating_sub-room.result (in_contained _ _ l.2) a.1 at c.as_slice-sorts.ensures room in
    let put = extended c.args.bank.now row c.extend_from_slice.new.self.items c.cell-sym.result.1.now
    c.len-start.result a.0 long start_is a.2 in
    let few = c.self.invariant.arities c.cell-sym.result.0 i c.info.ensures in
    let count : length us ≤ 8 = omega (arith, few, ap (λ xs. length xs) c.as_slice-sorts.ensures) in
    let in_range : AllByRecursion (IsSort sig) us = subst (λ ss. AllByRecursion (IsSort sig) ss)
    (sym c.as_slice-sorts.ensures) (subst (λ (g : Sig). AllByRecursion (IsSort g) i.args) c.self.view_is
    (c.self.invariant.in_range c.cell-sym.result.0 i c.info.ensures).1) in
    let more : length c.extend_from_slice.new.self.items ≡ length row + length c.cell-sym.result.1.now = ap
    (λ xs. length xs) long ∙ length-append row c.cell-sym.result.1.now in (
      omega (arith, q.0),
      (
        in_range,
        (
          omega (arith, c.min.ensures, c.saturating_sub-room.ensures),
          (omega (arith, more, start_is), (a.0, put.stand, contained_in _ _ listed)),
        ),
      ),
    )

pub next_value-offset_bounds-deref-start : goal.next_value-offset_bounds-deref-start
next_value-offset_bounds-deref-start t c =
    let l = c.requires in
    let sig = c.args.self.now in
    let a = application_at c.args.bank.now c.args.value c.cell-sym.result.0 c.cell-sym.result.1.now l.0
    c.cell-sym.ensures l.1 in
    let row = c.args.row.now.items in
    let start_is : c.len-start.result ≡ length row = omega (arith, c.len-start.ensures, c.args.row.now.ok.0) in
    let long = c.in_ok-extend_from_slice.ensures.items in
    let us = c.as_slice-sorts.result.now in
    let put = extended c.args.bank.now row c.extend_from_slice.new.self.items c.cell-sym.result.1.now
    c.len-start.result a.0 long start_is a.2 in
    let after = slice_get (rows_after sig (c.args.depth - 1) us c.saturating_sub-room.result a.0) 0 in
    let moved = c.in_ok-advance.ensures.goes a.0 put.stand in
    let w = goes_true c.advance.new.bank (take c.len-start.result c.extend_from_slice.new.self.items) after
    c.advance.new.row.items c.in_ok-advance.field-0 moved c.if-branch.true in
    let row_is : c.advance.new.row.items ≡ row ++ w.places = w.row_is ∙ ap (λ xs. xs ++ w.places) put.kept in
    let count : length c.advance.new.row.items ≡ length row + length w.places = ap (λ xs. length xs) row_is
    ∙ length-append row w.places in
    omega (arith, count, start_is, ap (λ xs. length xs) c.deref.ensures.value, c.advance.new.row.ok.0)

pub next_value-slice_bounds-add-count : goal.next_value-slice_bounds-add-count
next_value-slice_bounds-add-count t c =
    let l = c.requires in
    let sig = c.args.self.now in
    let a = application_at c.args.bank.now c.args.value c.cell-sym.result.0 c.cell-sym.result.1.now l.0
    c.cell-sym.ensures l.1 in
    let row = c.args.row.now.items in
    let start_is : c.len-start.result ≡ length row = omega (arith, c.len-start.ensures, c.args.row.now.ok.0) in
    let long = c.in_ok-extend_from_slice.ensures.items in
    let us = c.as_slice-sorts.result.now in
    let put = extended c.args.bank.now row c.extend_from_slice.new.self.items c.cell-sym.result.1.now
    c.len-start.result a.0 long start_is a.2 in
    let after = slice_get (rows_after sig (c.args.depth - 1) us c.saturating_sub-room.result a.0) 0 in
    let moved = c.in_ok-advance.ensures.goes a.0 put.stand in
    let w = goes_true c.advance.new.bank (take c.len-start.result c.extend_from_slice.new.self.items) after
    c.advance.new.row.items c.in_ok-advance.field-0 moved c.if-branch.true in
    let row_is : c.advance.new.row.items ≡ row ++ w.places = w.row_is ∙ ap (λ xs. xs ++ w.places) put.kept in
    let count : length c.advance.new.row.items ≡ length row + length w.places = ap (λ xs. length xs) row_is
    ∙ length-append row w.places in
    omega (arith, count, start_is, ap (λ xs. length xs) c.deref.ensures.value, c.advance.new.row.ok.0)

pub next_value-slice_bounds-add-start : goal.next_value-slice_bounds-add-start
next_value-slice_bounds-add-start t c =
    let l = c.requires in
    let sig = c.args.self.now in
    let a = application_at c.args.bank.now c.args.value c.cell-sym.result.0 c.cell-sym.result.1.now l.0
    c.cell-sym.ensures l.1 in
    let row = c.args.row.now.items in
    let start_is : c.len-start.result ≡ length row = omega (arith, c.len-start.ensures, c.args.row.now.ok.0) in
    let long = c.in_ok-extend_from_slice.ensures.items in
    let us = c.as_slice-sorts.result.now in
    let put = extended c.args.bank.now row c.extend_from_slice.new.self.items c.cell-sym.result.1.now
    c.len-start.result a.0 long start_is a.2 in
    let after = slice_get (rows_after sig (c.args.depth - 1) us c.saturating_sub-room.result a.0) 0 in
    let moved = c.in_ok-advance.ensures.goes a.0 put.stand in
    let w = goes_true c.advance.new.bank (take c.len-start.result c.extend_from_slice.new.self.items) after
    c.advance.new.row.items c.in_ok-advance.field-0 moved c.if-branch.true in
    let row_is : c.advance.new.row.items ≡ row ++ w.places = w.row_is ∙ ap (λ xs. xs ++ w.places) put.kept in
    let count : length c.advance.new.row.items ≡ length row + length w.places = ap (λ xs. length xs) row_is
    ∙ length-append row w.places in
    omega (arith, count, start_is, ap (λ xs. length xs) c.deref.ensures.value, c.advance.new.row.ok.0)

pub next_value-add-requires : goal.next_value-add-requires
next_value-add-requires t c =
    let l = c.requires in
    let sig = c.args.self.now in
    let a = application_at c.args.bank.now c.args.value c.cell-sym.result.0 c.cell-sym.result.1.now l.0
    c.cell-sym.ensures l.1 in
    let row = c.args.row.now.items in
    let start_is : c.len-start.result ≡ length row = omega (arith, c.len-start.ensures, c.args.row.now.ok.0) in
    let long = c.in_ok-extend_from_slice.ensures.items in
    let us = c.as_slice-sorts.result.now in
    let put = extended c.args.bank.now row c.extend_from_slice.new.self.items c.cell-sym.result.1.now
    c.len-start.result a.0 long start_is a.2 in
    let after = slice_get (rows_after sig (c.args.depth - 1) us c.saturating_sub-room.result a.0) 0 in
    let moved = c.in_ok-advance.ensures.goes a.0 put.stand in
    let w = goes_true c.advance.new.bank (take c.len-start.result c.extend_from_slice.new.self.items) after
    c.advance.new.row.items c.in_ok-advance.field-0 moved c.if-branch.true in
    let row_is : c.advance.new.row.items ≡ row ++ w.places = w.row_is ∙ ap (λ xs. xs ++ w.places) put.kept in
    subst (λ ps. AreBelow (length c.advance.new.bank) ps)
    (sym (behind_row row c.advance.new.row.items w.places c.deref.result.now c.len-start.result row_is
    start_is c.deref.ensures.value)) (terms_within c.advance.new.bank w.places (trees_of w.values) w.stand)

pub next_value-returns-then-branch-clause-placed : goal.next_value-returns-then-branch-clause-placed
next_value-returns-then-branch-clause-placed t c =
    let l = c.requires in
    let sig = c.args.self.now in
    let a = application_at c.args.bank.now c.args.value c.cell-sym.result.0 c.cell-sym.result.1.now l.0
    c.cell-sym.ensures l.1 in
    let q = application_is sig c.args.depth c.args.sort c.args.bound c.cell-sym.result.0 a.0 l.0
    (in_contained _ _ l.2) a.1 in
    let row = c.args.row.now.items in
    let start_is : c.len-start.result ≡ length row = omega (arith, c.len-start.ensures, c.args.row.now.ok.0) in
    let long = c.in_ok-extend_from_slice.ensures.items in
    let i = c.info.result.now in
    let at : info_of sig c.cell-sym.result.0 ≡ Some i = subst (λ g. info_of g c.cell-sym.result.0 ≡ Some i)
    c.self.view_is c.info.ensures in
    let room = room_is sig c.args.bound c.min.result c.saturating_sub-room.result c.min.ensures
    c.saturating_sub-room.ensures in
    let us = c.as_slice-sorts.result.now in
    let put = extended c.args.bank.now row c.extend_from_slice.new.self.items c.cell-sym.result.1.now
    c.len-start.result a.0 long start_is a.2 in
    let after = slice_get (rows_after sig (c.args.depth - 1) us c.saturating_sub-room.result a.0) 0 in
    let moved = c.in_ok-advance.ensures.goes a.0 put.stand in
    let w = goes_true c.advance.new.bank (take c.len-start.result c.extend_from_slice.new.self.items) after
    c.advance.new.row.items c.in_ok-advance.field-0 moved c.if-branch.true in
    let row_is : c.advance.new.row.items ≡ row ++ w.places = w.row_is ∙ ap (λ xs. xs ++ w.places) put.kept in
    let first = value_goes sig c.args.depth c.args.sort c.args.bound c.cell-sym.result.0 a.0 l.0 i us
    c.saturating_sub-room.result w.values (app c.cell-sym.result.0 (trees_of w.values)) q.0 a.1
    at c.as_slice-sorts.ensures room w.is refl in
    let term : IsTerm c.add.new.self c.in_ok-made.made (app c.cell-sym.result.0 (trees_of w.values)) = made_at
    c.advance.new.bank c.add.new.self _ w.places c.in_ok-made.made c.cell-sym.result.0 w.values
    (behind_row row c.advance.new.row.items w.places c.deref.result.now c.len-start.result row_is start_is
    c.deref.ensures.value) w.stand c.add.ensures.adds c.in_ok-made.ensures.found in
    at_term c.args.bank.now c.args.value
    (λ v. IsPlaceOf c.add.new.self (slice_get (values_after sig c.args.depth c.args.sort c.args.bound v) 0)
    (Some c.in_ok-made.made)) l.0 l.1 (subst (λ v. IsPlaceOf c.add.new.self v (Some c.in_ok-made.made)) first term)

pub next_value-returns-then-branch-clause-few : goal.next_value-returns-then-branch-clause-few
next_value-returns-then-branch-clause-few t c =
    let l = c.requires in
    let sig = c.args.self.now in
    let a = application_at c.args.bank.now c.args.value c.cell-sym.result.0 c.cell-sym.result.1.now l.0
    c.cell-sym.ensures l.1 in
    let q = application_is sig c.args.depth c.args.sort c.args.bound c.cell-sym.result.0 a.0 l.0
    (in_contained _ _ l.2) a.1 in
    let row = c.args.row.now.items in
    let start_is : c.len-start.result ≡ length row = omega (arith, c.len-start.ensures, c.args.row.now.ok.0) in
    let long = c.in_ok-extend_from_slice.ensures.items in
    let i = c.info.result.now in
    let at : info_of sig c.cell-sym.result.0 ≡ Some i = subst (λ g. info_of g c.cell-sym.result.0 ≡ Some i)
    c.self.view_is c.info.ensures in
    let room = room_is sig c.args.bound c.min.result c.saturating_sub-room.result c.min.ensures
    c.saturating_sub-room.ensures in
    let us = c.as_slice-sorts.result.now in
    let put = extended c.args.bank.now row c.extend_from_slice.new.self.items c.cell-sym.result.1.now
    c.len-start.result a.0 long start_is a.2 in
    let after = slice_get (rows_after sig (c.args.depth - 1) us c.saturating_sub-room.result a.0) 0 in
    let moved = c.in_ok-advance.ensures.goes a.0 put.stand in
    let w = goes_true c.advance.new.bank (take c.len-start.result c.extend_from_slice.new.self.items) after
    c.advance.new.row.items c.in_ok-advance.field-0 moved c.if-branch.true in
    let first = value_goes sig c.args.depth c.args.sort c.args.bound c.cell-sym.result.0 a.0 l.0 i us
    c.saturating_sub-room.result w.values (app c.cell-sym.result.0 (trees_of w.values)) q.0 a.1
    at c.as_slice-sorts.ensures room w.is refl in
    let few = c.in_ok-advance.ensures.few a.0 put.stand in
    at_term c.args.bank.now c.args.value (λ v. length c.add.new.self ≤ length c.args.bank.now + value_symbols
    (slice_get (values_after sig c.args.depth c.args.sort c.args.bound v) 0)) l.0 l.1
    (omega (arith, ap value_symbols first, few, ap row_symbols w.is, c.add.ensures.few))

pub next_value-returns-then-branch-clause-same : goal.next_value-returns-then-branch-clause-same
next_value-returns-then-branch-clause-same t c =
    let l = c.requires in
    let sig = c.args.self.now in
    let a = application_at c.args.bank.now c.args.value c.cell-sym.result.0 c.cell-sym.result.1.now l.0
    c.cell-sym.ensures l.1 in
    let row = c.args.row.now.items in
    let start_is : c.len-start.result ≡ length row = omega (arith, c.len-start.ensures, c.args.row.now.ok.0) in
    let long = c.in_ok-extend_from_slice.ensures.items in
    let us = c.as_slice-sorts.result.now in
    let put = extended c.args.bank.now row c.extend_from_slice.new.self.items c.cell-sym.result.1.now
    c.len-start.result a.0 long start_is a.2 in
    let after = slice_get (rows_after sig (c.args.depth - 1) us c.saturating_sub-room.result a.0) 0 in
    let moved = c.in_ok-advance.ensures.goes a.0 put.stand in
    let w = goes_true c.advance.new.bank (take c.len-start.result c.extend_from_slice.new.self.items) after
    c.advance.new.row.items c.in_ok-advance.field-0 moved c.if-branch.true in
    let row_is : c.advance.new.row.items ≡ row ++ w.places = w.row_is ∙ ap (λ xs. xs ++ w.places) put.kept in
    c.truncate.ensures.items ∙ cut_back row c.advance.new.row.items w.places c.len-start.result row_is start_is

pub next_value-overflow_sub-depth-2 : goal.next_value-overflow_sub-depth-2
next_value-overflow_sub-depth-2 t c =
    let l = c.requires in
    let sig = c.args.self.now in
    let a = application_at c.args.bank.now c.args.value c.cell-sym.result.0 c.cell-sym.result.1.now l.0
    c.cell-sym.ensures l.1 in
    let q = application_is sig c.args.depth c.args.sort c.args.bound c.cell-sym.result.0 a.0 l.0
    (in_contained _ _ l.2) a.1 in
    q.0

pub next_value-overflow_add-sym : goal.next_value-overflow_add-sym
next_value-overflow_add-sym t c =
    let l = c.requires in
    let sig = c.args.self.now in
    let a = application_at c.args.bank.now c.args.value c.cell-sym.result.0 c.cell-sym.result.1.now l.0
    c.cell-sym.ensures l.1 in
    let q = application_is sig c.args.depth c.args.sort c.args.bound c.cell-sym.result.0 a.0 l.0
    (in_contained _ _ l.2) a.1 in
    omega (arith, q.1, c.self.invariant.few, ap (λ (g : Sig). g.constructors) c.self.view_is)

pub next_value-returns-clause-placed : goal.next_value-returns-clause-placed
next_value-returns-clause-placed t c =
    let l = c.requires in
    let sig = c.args.self.now in
    let a = application_at c.args.bank.now c.args.value c.cell-sym.result.0 c.cell-sym.result.1.now l.0
    c.cell-sym.ensures l.1 in
    let q = application_is sig c.args.depth c.args.sort c.args.bound c.cell-sym.result.0 a.0 l.0
    (in_contained _ _ l.2) a.1 in
    let row = c.args.row.now.items in
    let start_is : c.len-start.result ≡ length row = omega (arith, c.len-start.ensures, c.args.row.now.ok.0) in
    let long = c.in_ok-extend_from_slice.ensures.items in
    let i = c.info.result.now in
    let at : info_of sig c.cell-sym.result.0 ≡ Some i = subst (λ g. info_of g c.cell-sym.result.0 ≡ Some i)
    c.self.view_is c.info.ensures in
    let room = room_is sig c.args.bound c.min.result c.saturating_sub-room.result c.min.ensures
    c.saturating_sub-room.ensures in
    let us = c.as_slice-sorts.result.now in
    let put = extended c.args.bank.now row c.extend_from_slice.new.self.items c.cell-sym.result.1.now
    c.len-start.result a.0 long start_is a.2 in
    let after = slice_get (rows_after sig (c.args.depth - 1) us c.saturating_sub-room.result a.0) 0 in
    let moved = c.in_ok-advance.ensures.goes a.0 put.stand in
    let w = goes_false c.advance.new.bank (take c.len-start.result c.extend_from_slice.new.self.items) after
    c.advance.new.row.items c.in_ok-advance.field-0 moved c.if-branch.false in
    let e = value_ends sig c.args.depth c.args.sort c.args.bound c.cell-sym.result.0 a.0 l.0 i us
    c.saturating_sub-room.result q.0 a.1 at c.as_slice-sorts.ensures room w.0 in
    if_ok_map c.first_made.result _ _
    (λ r h. at_term c.args.bank.now c.args.value
    (λ v. IsPlaceOf c.first_made.new.bank
    (slice_get (values_after sig c.args.depth c.args.sort c.args.bound v) 0) r) l.0 l.1
    (subst (λ v. IsPlaceOf c.first_made.new.bank v r) e h)) c.first_made.ensures.placed

pub next_value-returns-clause-few : goal.next_value-returns-clause-few
next_value-returns-clause-few t c =
    let l = c.requires in
    let sig = c.args.self.now in
    let a = application_at c.args.bank.now c.args.value c.cell-sym.result.0 c.cell-sym.result.1.now l.0
    c.cell-sym.ensures l.1 in
    let q = application_is sig c.args.depth c.args.sort c.args.bound c.cell-sym.result.0 a.0 l.0
    (in_contained _ _ l.2) a.1 in
    let row = c.args.row.now.items in
    let start_is : c.len-start.result ≡ length row = omega (arith, c.len-start.ensures, c.args.row.now.ok.0) in
    let long = c.in_ok-extend_from_slice.ensures.items in
    let i = c.info.result.now in
    let at : info_of sig c.cell-sym.result.0 ≡ Some i = subst (λ g. info_of g c.cell-sym.result.0 ≡ Some i)
    c.self.view_is c.info.ensures in
    let room = room_is sig c.args.bound c.min.result c.saturating_sub-room.result c.min.ensures
    c.saturating_sub-room.ensures in
    let us = c.as_slice-sorts.result.now in
    let put = extended c.args.bank.now row c.extend_from_slice.new.self.items c.cell-sym.result.1.now
    c.len-start.result a.0 long start_is a.2 in
    let after = slice_get (rows_after sig (c.args.depth - 1) us c.saturating_sub-room.result a.0) 0 in
    let moved = c.in_ok-advance.ensures.goes a.0 put.stand in
    let w = goes_false c.advance.new.bank (take c.len-start.result c.extend_from_slice.new.self.items) after
    c.advance.new.row.items c.in_ok-advance.field-0 moved c.if-branch.false in
    let e = value_ends sig c.args.depth c.args.sort c.args.bound c.cell-sym.result.0 a.0 l.0 i us
    c.saturating_sub-room.result q.0 a.1 at c.as_slice-sorts.ensures room w.0 in
    let few = c.in_ok-advance.ensures.few a.0 put.stand in
    on_ok_map c.first_made.result _ _
    (λ h. at_term c.args.bank.now c.args.value (λ v. length c.first_made.new.bank ≤ length c.args.bank.now +
    value_symbols (slice_get (values_after sig c.args.depth c.args.sort c.args.bound v) 0)) l.0 l.1
    (omega (arith, ap value_symbols e, few, ap row_symbols w.0, h))) c.first_made.ensures.few

pub next_value-returns-clause-same : goal.next_value-returns-clause-same
next_value-returns-clause-same t c =
    let l = c.requires in
    let sig = c.args.self.now in
    let a = application_at c.args.bank.now c.args.value c.cell-sym.result.0 c.cell-sym.result.1.now l.0
    c.cell-sym.ensures l.1 in
    let row = c.args.row.now.items in
    let start_is : c.len-start.result ≡ length row = omega (arith, c.len-start.ensures, c.args.row.now.ok.0) in
    let long = c.in_ok-extend_from_slice.ensures.items in
    let us = c.as_slice-sorts.result.now in
    let put = extended c.args.bank.now row c.extend_from_slice.new.self.items c.cell-sym.result.1.now
    c.len-start.result a.0 long start_is a.2 in
    let after = slice_get (rows_after sig (c.args.depth - 1) us c.saturating_sub-room.result a.0) 0 in
    let moved = c.in_ok-advance.ensures.goes a.0 put.stand in
    let w = goes_false c.advance.new.bank (take c.len-start.result c.extend_from_slice.new.self.items) after
    c.advance.new.row.items c.in_ok-advance.field-0 moved c.if-branch.false in
    on_ok_map c.first_made.result _ _ (λ h. h ∙ w.1 ∙ put.kept) c.first_made.ensures.same
