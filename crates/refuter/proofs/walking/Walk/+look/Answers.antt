use Rattle.std.proofs.Common.{◌≡◌, ◌<◌, ◌++◌, arith, ap, sym, subst, length, take}
use Rattle.std.specs.Prelude.{slice_get}
use Rattle.std.specs.List.{Contains}
use Rattle.term_core.specs.Tree.{trees_of}
use Rattle.term_core.proofs.Items.{if_ok_map}
use Rattle.term_core.proofs.Members.{in_contained}
use Rattle.spec_core.specs.Sig.{Sig}
use Rattle.spec_core.specs.WellSorted.{sorts_of}
use Rattle.value_bank.specs.Cells.{AreTerms}
use Rattle.value_bank.proofs.Terms.{terms_kept}
use Rattle.refuter.specs.declared.parts.Look.TheVariants.{Whole, Cut, Found}
use Rattle.refuter.specs.Bounded.{rows_within}
use Rattle.refuter.specs.After.{rows_after}
use Rattle.refuter.specs.Moves.{GoesOn}
use Rattle.refuter.specs.Blocks.{rows_of, block, IsBegun, IsAsked}
use Rattle.refuter.specs.Looks.{LooksOver}
use Rattle.refuter.proofs.Blocks.{block_length, others_some}
use Rattle.refuter.proofs.Keeping.{tables_kept}
use Rattle.refuter.proofs.Looks.{looks_cut, looks_on, looks_tally}
use Rattle.refuter.proofs.Through.{through_starts, row_here, begun_here, places_here, through_moves, through_stops}
use Rattle.refuter.proofs.Through.{through_ends, through_stays}
use Rattle.refuter.specs.Symbols.{row_symbols}
use Rattle.refuter.specs.Memory.{LeavesFew}
use Rattle.refuter.proofs.Memory.{first_symbols, after_symbols, more_allowed, leaves_few}
use Rattle.refuter.proofs.Steps.{goes_false}
use Rattle.refuter.proofs.Walks.{few_places, few_symbols, next_sorts, can_read, begun_again}
use Rattle.refuter.proofs.walking.Walk.+look.Goals as goal

pub look-returns-then-tally-self-clause-looks : goal.look-returns-then-tally-self-clause-looks
look-returns-then-tally-self-clause-looks t c firsts h =
    let spec = c.args.self.now.prepared.now.spec in
    let rows = block spec.sig c.args.self.now.depth firsts c.args.sorts.now in
    let long = block_length spec.sig c.args.self.now.depth firsts c.args.sorts.now in
    looks_cut spec c.args.self.now.prepared.now.goal c.args.self.now.budget c.args.self.now.tries rows
    c.args.tally.now c.if-tally-self.true (omega (arith, c.requires.some))

pub look-make_room-requires : goal.look-make_room-requires
look-make_room-requires t c = can_read _ _ _ _ _ _ c.requires.walk c.args.bank.now c.args.row.now.items
    c.args.sorts.now c.requires.begun.0 c.requires.begun.1

pub look-ask-requires-clause-kept : goal.look-ask-requires-clause-kept
look-ask-requires-clause-kept t c = c.in_ok-make_room.ensures.kept c.args.self.now.prepared.now c.requires.kept

pub look-ask-requires-clause-begun : goal.look-ask-requires-clause-begun
look-ask-requires-clause-begun t c =
    let firsts = c.requires.begun.0 in
    let stand : AreTerms c.make_room.new.bank c.make_room.new.row.items
    (trees_of firsts) = c.in_ok-make_room.ensures.placed firsts c.requires.begun.1.stand in (
      firsts,
      begun_again _ _ _ _ _ _ c.requires.walk c.args.bank.now c.args.row.now.items c.args.sorts.now
          firsts c.requires.begun.1 c.make_room.new.bank c.deref.result.now
          (subst (λ ps. AreTerms c.make_room.new.bank ps (trees_of firsts)) (sym c.deref.ensures.value) stand),
    )

pub look-look_as-requires : goal.look-look_as-requires
look-look_as-requires t c =
    let firsts = c.requires.begun.0 in
    let stand : AreTerms c.make_room.new.bank c.make_room.new.row.items
    (trees_of firsts) = c.in_ok-make_room.ensures.placed firsts c.requires.begun.1.stand in
    let read : AreTerms c.make_room.new.bank c.deref.result.now (trees_of firsts) = subst
    (λ ps. AreTerms c.make_room.new.bank ps (trees_of firsts)) (sym c.deref.ensures.value) stand in
    let kept : AreTerms c.ask.new.bank c.make_room.new.row.items (trees_of firsts) = terms_kept
    c.make_room.new.bank c.ask.new.bank c.make_room.new.row.items (trees_of firsts)
    c.in_ok-asked.ensures.adds stand in
    let begun = begun_again _ _ _ _ _ _ c.requires.walk c.args.bank.now c.args.row.now.items c.args.sorts.now
    firsts c.requires.begun.1 c.ask.new.bank c.make_room.new.row.items kept in (
      omega arith,
      (
        c.requires.walk,
        (
          c.in_ok-asked.ensures.kept,
          (
            (firsts, begun, c.in_ok-asked.ensures.asked firsts read),
            (c.requires.some, (c.requires.tally, omega (arith, c.requires.tally.1, c.if-tally-self.false))),
          ),
        ),
      ),
    )

pub look-returns-clause-looks : goal.look-returns-clause-looks
look-returns-clause-looks t c =
    if_ok_map c.look_as.result _ _
    (λ r h firsts stand. h firsts (terms_kept c.make_room.new.bank c.ask.new.bank c.make_room.new.row.items
    (trees_of firsts) c.in_ok-asked.ensures.adds (c.in_ok-make_room.ensures.placed firsts stand)))
    c.look_as.ensures.looks

pub look-returns-clause-stays : goal.look-returns-clause-stays
look-returns-clause-stays t c =
    if_ok_map c.look_as.result _ _
    (λ r h e firsts stand. h e firsts
    (terms_kept c.make_room.new.bank c.ask.new.bank c.make_room.new.row.items (trees_of firsts)
    c.in_ok-asked.ensures.adds (c.in_ok-make_room.ensures.placed firsts stand))) c.look_as.ensures.stays

pub look-returns-clause-few : goal.look-returns-clause-few
look-returns-clause-few t c =
    let walk = c.args.self.now in
    let places = few_places _ _ _ _ _ _ c.requires.walk c.args.bank.now c.args.row.now.items c.args.sorts.now
    c.requires.begun.0 c.requires.begun.1 in
    let begun = c.in_ok-make_room.ensures.few in
    let asked = c.in_ok-asked.ensures.few in
    if_ok_map c.look_as.result _ _ (λ r h. leaves_few walk c.args.bank.now c.ask.new.bank c.look_as.new.bank r
    (omega (arith, begun, asked, places)) h) c.look_as.ensures.few

pub look_as-pass-requires-clause-begun : goal.look_as-pass-requires-clause-begun
look_as-pass-requires-clause-begun t c =
    let asked = subst (λ a. IsAsked c.args.self.now.prepared.now.spec c.args.self.now.prepared.now.goal
    c.args.self.now.budget c.args.self.now.depth c.requires.begun.0 c.args.sorts.now a) c.in-Block.is
    c.requires.begun.2 in
    (c.requires.begun.0, c.requires.begun.1, asked.1)

pub look_as-pass-requires-clause-size : goal.look_as-pass-requires-clause-size
look_as-pass-requires-clause-size t c =
    let asked = subst (λ a. IsAsked c.args.self.now.prepared.now.spec c.args.self.now.prepared.now.goal
    c.args.self.now.budget c.args.self.now.depth c.requires.begun.0 c.args.sorts.now a) c.in-Block.is
    c.requires.begun.2 in
    asked.0

pub look_as-pass-requires-clause-some : goal.look_as-pass-requires-clause-some
look_as-pass-requires-clause-some t c =
    let asked = subst (λ a. IsAsked c.args.self.now.prepared.now.spec c.args.self.now.prepared.now.goal
    c.args.self.now.budget c.args.self.now.depth c.requires.begun.0 c.args.sorts.now a) c.in-Block.is
    c.requires.begun.2 in
    omega (arith, asked.0, c.requires.some)

pub look_as-split_at-requires : goal.look_as-split_at-requires
look_as-split_at-requires t c =
    let asked = subst (λ a. IsAsked c.args.self.now.prepared.now.spec c.args.self.now.prepared.now.goal
    c.args.self.now.budget c.args.self.now.depth c.requires.begun.0 c.args.sorts.now a) c.in-Split.is
    c.requires.begun.2 in
    asked.1

pub look_as-look_through-requires : goal.look_as-look_through-requires
look_as-look_through-requires t c =
    let spec = c.args.self.now.prepared.now.spec in
    let asked = subst (λ a. IsAsked spec c.args.self.now.prepared.now.goal c.args.self.now.budget
    c.args.self.now.depth c.requires.begun.0 c.args.sorts.now a) c.in-Split.is c.requires.begun.2 in
    let firsts = c.requires.begun.0 in
    let whole = c.split_at.ensures.by_index.0 in
    let begun = subst (λ ss. IsBegun spec.sig c.args.self.now.depth
    (sorts_of c.args.self.now.prepared.now.goal.vars) c.args.bank.now c.args.row.now.items ss firsts) whole
    c.requires.begun.1 in
    let some = others_some spec.sig c.args.self.now.depth c.split_at.result.0.now c.split_at.result.1.now
    (subst (λ ss. 0 < length (rows_of spec.sig c.args.self.now.depth ss)) whole c.requires.some) in (
      omega (arith, asked.0, c.split_at.ensures.back_len),
      (c.requires.walk, (c.requires.kept, ((firsts, begun), (some, c.requires.tally)))),
    )

pub look_as-returns-in-Block-clause-stays : goal.look_as-returns-in-Block-clause-stays
look_as-returns-in-Block-clause-stays t c =
    if_ok_map c.pass.result _ _
    (λ r h e firsts stand. subst (λ ps. AreTerms c.pass.new.bank ps (trees_of firsts)) (sym (h e))
    (terms_kept c.args.bank.now c.pass.new.bank c.args.row.now.items (trees_of firsts) c.pass.ensures.adds
    stand)) c.pass.ensures.stays

pub look_as-returns-in-Block-clause-kept : goal.look_as-returns-in-Block-clause-kept
look_as-returns-in-Block-clause-kept t c =
    if_ok_map c.pass.result _ _ (λ r h. tables_kept c.args.self.now.prepared.now c.args.bank.now c.pass.new.bank
    c.args.tables.now c.pass.ensures.adds c.requires.kept) c.pass.ensures.stays

pub look_as-returns-in-Block-clause-few : goal.look_as-returns-in-Block-clause-few
look_as-returns-in-Block-clause-few t c =
    if_ok_map c.pass.result _ _ (λ r h. more_allowed c.args.self.now (length c.args.bank.now) _ c.pass.new.bank
    r (omega arith) h) c.pass.ensures.few

pub look_as-returns-in-Split-clause-looks : goal.look_as-returns-in-Split-clause-looks
look_as-returns-in-Split-clause-looks t c =
    let spec = c.args.self.now.prepared.now.spec in
    let whole = c.split_at.ensures.by_index.0 in
    if_ok_map c.look_through.result _ _
    (λ r h firsts stand. subst (λ ss. LooksOver spec c.args.self.now.prepared.now.goal
    c.args.self.now.budget c.args.self.now.tries (block spec.sig c.args.self.now.depth firsts ss)
    c.args.tally.now c.look_through.new.tally r) (sym whole) (h firsts stand)) c.look_through.ensures.looks

pub look_through-push_first-requires-clause-sorts : goal.look_through-push_first-requires-clause-sorts
look_through-push_first-requires-clause-sorts t c = next_sorts _ _ _ _ _ _ c.requires.walk
    c.requires.begun.1.sorts c.args.firsts.now c.args.others.now c.requires.begun.1.parted

pub look_through-push_first-requires-clause-few : goal.look_through-push_first-requires-clause-few
look_through-push_first-requires-clause-few t c = few_symbols _ _ _ _ _ _ c.requires.walk

pub look_through-loop-more-init : goal.look_through-loop-more-init
look_through-loop-more-init t c =
    let spec = c.args.self.now.prepared.now.spec in
    let aim = c.args.self.now.prepared.now.goal in
    let goes = subst (λ (g : Sig). GoesOn c.push_first.new.bank c.args.row.now.items
    (slice_get (rows_within g c.args.self.now.depth c.args.firsts.now c.args.self.now.bound) 0)
    c.push_first.new.row.items c.in_ok-more.more) c.requires.walk.walks c.in_ok-more.ensures.goes in
    record {
      walked = through_starts spec aim c.args.self.now.budget c.args.self.now.tries c.args.self.now.depth
          c.args.self.now.bound c.args.firsts.now c.args.others.now c.args.bank.now c.push_first.new.bank
          c.args.row.now.items c.push_first.new.row.items c.len-start.result c.args.tally.now c.in_ok-more.more
          c.requires.begun.0 c.requires.begun.1 c.requires.walk.room
          (omega (arith, c.len-start.ensures, c.args.row.now.ok.0)) c.requires.tally.1 c.in_ok-more.ensures.adds goes;
      kept = tables_kept c.args.self.now.prepared.now c.args.bank.now c.push_first.new.bank c.args.tables.now
          c.in_ok-more.ensures.adds c.requires.kept;
      tally = c.requires.tally;
      few = omega (
        arith,
        c.in_ok-more.ensures.few,
        first_symbols c.args.self.now.odometer.now c.args.self.now.depth c.args.firsts.now c.args.self.now.bound,
      );
      last = λ e.
          let none = goes_false c.push_first.new.bank c.args.row.now.items
          (slice_get (rows_within c.args.self.now.odometer.now c.args.self.now.depth c.args.firsts.now
          c.args.self.now.bound) 0) c.push_first.new.row.items c.in_ok-more.more c.in_ok-more.ensures.goes e in
          omega (arith, c.in_ok-more.ensures.few, ap row_symbols none.0);
    }

pub look_through-look-requires : goal.look_through-look-requires
look_through-look-requires t c =
    let w = c.loop-more.invariant.walked in
    let begun = begun_here _ _ _ _ _ _ _ _ _ _ _ _ _ _ _ _ c.requires.walk.room c.loop-more-test.true w in (
      omega arith,
      (
        c.requires.walk,
        (c.loop-more.invariant.kept, ((_, begun), (c.requires.some, c.loop-more.invariant.tally))),
      ),
    )

pub look_through-returns-in-Cut-clause-looks : goal.look_through-returns-in-Cut-clause-looks
look_through-returns-in-Cut-clause-looks t c =
    let spec = c.args.self.now.prepared.now.spec in
    let aim = c.args.self.now.prepared.now.goal in
    let w = c.loop-more.invariant.walked in
    let here = row_here _ _ _ _ _ _ _ _ _ _ _ _ _ _ _ _ c.requires.walk.room c.loop-more-test.true w in
    let look = subst (λ r. LooksOver spec aim c.args.self.now.budget c.args.self.now.tries
    (block spec.sig c.args.self.now.depth (w.values ++ here.row) c.args.others.now) c.loop-more.tally
    c.look.new.tally r) c.in-Cut.is (c.in_ok-look.ensures.looks (w.values ++ here.row) here.stand) in
    through_stops _ _ _ _ _ _ _ _ _ _ _ _ _ _ _ _ c.requires.walk.room c.loop-more-test.true w c.look.new.tally
    Cut (λ e. let q : Cut ≡ Whole = e in cc) look

pub look_through-returns-in-Cut-clause-few : goal.look_through-returns-in-Cut-clause-few
look_through-returns-in-Cut-clause-few t c =
    let left = subst (λ r. LeavesFew c.args.self.now c.loop-more.bank c.look.new.bank r) c.in-Cut.is
    c.in_ok-look.ensures.few in
    omega (arith, left, c.loop-more.invariant.few)

pub look_through-returns-in-Found-clause-looks : goal.look_through-returns-in-Found-clause-looks
look_through-returns-in-Found-clause-looks t c =
    let spec = c.args.self.now.prepared.now.spec in
    let aim = c.args.self.now.prepared.now.goal in
    let w = c.loop-more.invariant.walked in
    let here = row_here _ _ _ _ _ _ _ _ _ _ _ _ _ _ _ _ c.requires.walk.room c.loop-more-test.true w in
    let look = subst (λ r. LooksOver spec aim c.args.self.now.budget c.args.self.now.tries
    (block spec.sig c.args.self.now.depth (w.values ++ here.row) c.args.others.now) c.loop-more.tally
    c.look.new.tally r) c.in-Found.is (c.in_ok-look.ensures.looks (w.values ++ here.row) here.stand) in
    through_stops _ _ _ _ _ _ _ _ _ _ _ _ _ _ _ _ c.requires.walk.room c.loop-more-test.true w c.look.new.tally
    (Found c.in-Found.values) (λ e. let q : Found c.in-Found.values ≡ Whole = e in cc) look

pub look_through-returns-in-Found-clause-few : goal.look_through-returns-in-Found-clause-few
look_through-returns-in-Found-clause-few t c =
    let left = subst (λ r. LeavesFew c.args.self.now c.loop-more.bank c.look.new.bank r) c.in-Found.is
    c.in_ok-look.ensures.few in
    omega (arith, left)

pub look_through-advance-requires-clause-sorts : goal.look_through-advance-requires-clause-sorts
look_through-advance-requires-clause-sorts t c = next_sorts _ _ _ _ _ _ c.requires.walk c.requires.begun.1.sorts
    c.args.firsts.now c.args.others.now c.requires.begun.1.parted

pub look_through-advance-requires-clause-few : goal.look_through-advance-requires-clause-few
look_through-advance-requires-clause-few t c = few_symbols _ _ _ _ _ _ c.requires.walk

pub look_through-advance-requires-clause-place : goal.look_through-advance-requires-clause-place
look_through-advance-requires-clause-place t c =
    let w = c.loop-more.invariant.walked in
    let here = row_here _ _ _ _ _ _ _ _ _ _ _ _ _ _ _ _ c.requires.walk.room c.loop-more-test.true w in
    let stand = c.in_ok-look.ensures.stays c.in-Whole.is (w.values ++ here.row) here.stand in
    (places_here _ _ _ _ _ _ _ _ _ _ _ _ _ _ _ _ c.requires.walk.room c.loop-more-test.true w c.look.new.bank
    c.look.new.row.items stand).0

pub look_through-advance-requires-clause-listed : goal.look_through-advance-requires-clause-listed
look_through-advance-requires-clause-listed t c =
    let w = c.loop-more.invariant.walked in
    let here = row_here _ _ _ _ _ _ _ _ _ _ _ _ _ _ _ _ c.requires.walk.room c.loop-more-test.true w in
    let stand = c.in_ok-look.ensures.stays c.in-Whole.is (w.values ++ here.row) here.stand in
    let places = places_here _ _ _ _ _ _ _ _ _ _ _ _ _ _ _ _ c.requires.walk.room c.loop-more-test.true w
    c.look.new.bank c.look.new.row.items stand in (
      here.row,
      places.2,
      subst
          (λ (g : Sig). Contains (rows_within g c.args.self.now.depth c.args.firsts.now c.args.self.now.bound)
          here.row) (sym c.requires.walk.walks) here.listed,
    )

pub look_through-loop-more-smaller : goal.look_through-loop-more-smaller
look_through-loop-more-smaller t c =
    let spec = c.args.self.now.prepared.now.spec in
    let aim = c.args.self.now.prepared.now.goal in
    let w = c.loop-more.invariant.walked in
    let here = row_here _ _ _ _ _ _ _ _ _ _ _ _ _ _ _ _ c.requires.walk.room c.loop-more-test.true w in
    let rows = block spec.sig c.args.self.now.depth (w.values ++ here.row) c.args.others.now in
    let look = subst (λ r. LooksOver spec aim c.args.self.now.budget c.args.self.now.tries rows
    c.loop-more.tally c.look.new.tally r) c.in-Whole.is
    (c.in_ok-look.ensures.looks (w.values ++ here.row) here.stand) in
    let long = block_length spec.sig c.args.self.now.depth (w.values ++ here.row) c.args.others.now in
    let on = looks_on spec aim c.args.self.now.budget c.args.self.now.tries rows c.loop-more.tally
    c.look.new.tally (omega (arith, long, c.requires.some)) look in
    omega (arith, on, look.within)

pub look_through-loop-more-preserved : goal.look_through-loop-more-preserved
look_through-loop-more-preserved t c =
    let spec = c.args.self.now.prepared.now.spec in
    let aim = c.args.self.now.prepared.now.goal in
    let w = c.loop-more.invariant.walked in
    let here = row_here _ _ _ _ _ _ _ _ _ _ _ _ _ _ _ _ c.requires.walk.room c.loop-more-test.true w in
    let rows = block spec.sig c.args.self.now.depth (w.values ++ here.row) c.args.others.now in
    let look = subst (λ r. LooksOver spec aim c.args.self.now.budget c.args.self.now.tries rows
    c.loop-more.tally c.look.new.tally r) c.in-Whole.is
    (c.in_ok-look.ensures.looks (w.values ++ here.row) here.stand) in
    let stand = c.in_ok-look.ensures.stays c.in-Whole.is (w.values ++ here.row) here.stand in
    let places = places_here _ _ _ _ _ _ _ _ _ _ _ _ _ _ _ _ c.requires.walk.room c.loop-more-test.true w
    c.look.new.bank c.look.new.row.items stand in
    let goes = subst (λ (g : Sig). GoesOn c.advance.new.bank (take c.len-start.result c.look.new.row.items)
    (slice_get (rows_after g c.args.self.now.depth c.args.firsts.now c.args.self.now.bound here.row) 0)
    c.advance.new.row.items c.in_ok-more-2.more) c.requires.walk.walks
    (c.in_ok-more-2.ensures.goes here.row places.2) in
    let sig = c.args.self.now.odometer.now in
    let listed = subst (λ (g : Sig). Contains (rows_within g c.args.self.now.depth c.args.firsts.now
    c.args.self.now.bound) here.row) (sym c.requires.walk.walks) here.listed in
    let left = subst (λ r. LeavesFew c.args.self.now c.loop-more.bank c.look.new.bank r) c.in-Whole.is
    c.in_ok-look.ensures.few in
    let added = c.in_ok-more-2.ensures.few here.row places.2 in
    record {
      walked = through_moves _ _ _ _ _ _ _ _ _ _ _ _ _ _ _ _ c.requires.walk.room c.loop-more-test.true w
          c.look.new.bank c.advance.new.bank c.look.new.row.items c.advance.new.row.items c.look.new.tally
          c.in_ok-more-2.more stand c.in_ok-more-2.ensures.adds look goes;
      kept = tables_kept c.args.self.now.prepared.now c.look.new.bank c.advance.new.bank c.look.new.tables
          c.in_ok-more-2.ensures.adds c.in_ok-look.ensures.kept;
      tally = looks_tally spec aim c.args.self.now.budget c.args.self.now.tries rows c.loop-more.tally
          c.look.new.tally Whole c.loop-more.invariant.tally look;
      few = omega (
        arith,
        left,
        added,
        after_symbols sig c.args.self.now.depth c.args.firsts.now c.args.self.now.bound here.row
            (in_contained _ _ listed),
      );
      last = λ e.
          let none = goes_false c.advance.new.bank (take c.len-start.result c.look.new.row.items)
          (slice_get (rows_after sig c.args.self.now.depth c.args.firsts.now c.args.self.now.bound here.row)
          0) c.advance.new.row.items c.in_ok-more-2.more (c.in_ok-more-2.ensures.goes here.row places.2) e in
          omega (arith, left, added, ap row_symbols none.0);
    }

pub look_through-returns-clause-looks : goal.look_through-returns-clause-looks
look_through-returns-clause-looks t c = through_ends _ _ _ _ _ _ _ _ _ _ _ _ _ _ _ _ c.loop-more-test.false
    c.loop-more.invariant.walked

pub look_through-returns-clause-stays : goal.look_through-returns-clause-stays
look_through-returns-clause-stays t c e = through_stays _ _ _ _ _ _ _ _ _ _ _ _ _ _ _ _ c.loop-more-test.false
    c.loop-more.invariant.walked

pub look_through-returns-clause-few : goal.look_through-returns-clause-few
look_through-returns-clause-few t c = c.loop-more.invariant.last c.loop-more-test.false
