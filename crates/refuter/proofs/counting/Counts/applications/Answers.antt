use Rattle.std.proofs.Common.{arith, rules, ◌≡◌, ℕ, ◌<◌, ◌≤◌, ◌+◌, ◌-◌, ◌*◌, ◌++◌, Some, refl, ap, sym, subst, ◌∙◌}
use Rattle.std.proofs.Common.{length, replicate, take, drop, min}
use Rattle.std.specs.Prelude.{slice_index}
use Rattle.std.specs.List.{AllByRecursion}
use Rattle.std.proofs.lemmas.Grind.{common_steps}
use Rattle.spec_core.specs.Sig.{Sig, IsSort, info_of}
use Rattle.refuter.specs.Counts.{Counted, IsCapped, value_rows_of_size, values_of_size}
use Rattle.refuter.proofs.Counted.{IsCountedTo, counted_start, counted_other, counted_here, counted_end}
use Rattle.refuter.proofs.counting.Counts.applications.Goals as goal
use Rattle.refuter.proofs.counting.Counts.applications.Goals.{After-info-info}

-- the signature of the counts, and the constructor at which the walk is
walked : (c : After-info-info) →
    (info_of c.args.self.now.sig c.loop-number.number ≡ Some c.info-info.result.now)
    × (c.loop-number.number < c.args.self.now.sig.constructors)
walked c =
    let sig = ap (λ (k : Counted). k.sig) c.self.view_is in (
      subst (λ g. info_of g c.loop-number.number ≡ Some c.info-info.result.now) sig c.info-info.ensures,
      omega (arith, c.constructors-number-end.ensures.count, ap (λ (g : Sig). g.constructors) sig),
    )

pub loop-number-init : goal.loop-number-init
loop-number-init c =
    let of = c.args.self.now in
    let zeros : c.in_ok-numbers.numbers.items ≡ replicate 256 0 = search rules in
    counted_start of.sig of.depth of.cap c.args.sort 256 c.in_ok-numbers.numbers.items refl zeros

pub loop-number-preserved-then-info-sort : goal.loop-number-preserved-then-info-sort
loop-number-preserved-then-info-sort c =
    let of = c.args.self.now in
    let w = walked (goal.at.loop-number-preserved-then-info-sort c).After-info-info in
    counted_other of.sig of.depth of.cap c.args.sort c.loop-number.number c.info-info.result.now
    c.loop-number.numbers.items c.loop-number.invariant w.0 w.1 c.if-info-sort.true

pub value_rows-requires : goal.value_rows-requires
value_rows-requires c =
    let all = (c.self.invariant.in_range c.loop-number.number c.info-info.result.now c.info-info.ensures).1 in
    let sig = ap (λ (k : Counted). k.sig) c.self.view_is in
    subst (λ g. AllByRecursion (IsSort g) c.as_slice.result.now) sig
    (subst (λ ss. AllByRecursion (IsSort c.self.inside.sig.now) ss) (sym c.as_slice.ensures) all)

pub loop-number-preserved : goal.loop-number-preserved
loop-number-preserved c =
    let of = c.args.self.now in
    let w = walked (goal.at.loop-number-preserved c).After-info-info in
    let new = c.add_multiple.new.numbers in
    let is : take c.loop-number.numbers.len (new ++ drop (length new) c.loop-number.numbers.items) ≡ new = grind
    (arith, common_steps) in
    let old : c.deref_mut.result.now ≡ c.loop-number.numbers.items = search rules in
    let same : length new ≡ length c.loop-number.numbers.items = grind (arith, common_steps) in
    let more = c.as_slice-in-loop-number.result.now in
    let cap : c.self.inside.cap ≡ of.cap = ap (λ (k : Counted). k.cap) c.self.view_is in
    let args : IsCapped of.cap (value_rows_of_size of.sig of.depth c.info-info.result.now.args)
    c.in_ok-rows.rows = subst (λ ss. IsCapped of.cap (value_rows_of_size of.sig of.depth ss)
    c.in_ok-rows.rows) c.as_slice.ensures c.in_ok-rows.ensures in
    let rows : IsCapped of.cap (value_rows_of_size of.sig of.depth c.info-info.result.now.args) more = subst
    (λ xs. IsCapped of.cap (value_rows_of_size of.sig of.depth c.info-info.result.now.args) xs)
    (sym c.as_slice-in-loop-number.ensures) args in
    let before : (n : ℕ) → n < 1 → slice_index new n ≡ slice_index c.loop-number.numbers.items n = λ n l.
    c.add_multiple.ensures.before n l ∙ ap (λ xs. slice_index xs n) old in
    let from : (n : ℕ) → 1 ≤ n → n < 256 →
    slice_index new n ≡ min (slice_index c.loop-number.numbers.items n + 1 * slice_index more (n - 1))
    of.cap = λ n b l. c.add_multiple.ensures.from n b l
    ∙ ap (λ xs. min (slice_index xs n + 1 * slice_index more (n - 1)) c.self.inside.cap) old
    ∙ ap (λ k. min (slice_index c.loop-number.numbers.items n + 1 * slice_index more (n - 1)) k) cap in
    let made = counted_here of.sig of.depth of.cap c.args.sort c.loop-number.number c.info-info.result.now
    c.loop-number.numbers.items new more c.loop-number.invariant w.0 w.1 c.if-info-sort.false rows same
    before from in
    subst (λ xs. IsCountedTo of.sig of.depth of.cap (c.loop-number.number + 1) c.args.sort xs) (sym is) made

pub returns : goal.returns
returns c =
    let of = c.args.self.now in
    let sig = ap (λ (k : Counted). k.sig.constructors) c.self.view_is in
    let row = counted_end of.sig of.depth of.cap c.args.sort c.loop-number.number c.loop-number.numbers.items
    c.loop-number.invariant (omega (arith, c.constructors-number-end.ensures.count, sig)) in
    subst (λ xs. IsCapped of.cap (values_of_size of.sig (of.depth + 1) c.args.sort) xs) (sym c.from_vec.ensures) row
