use Rattle.std.proofs.Common.{arith, rules, Some, None, ◌≡◌, ◌+◌, ◌++◌, ◌∷◌, [], ap, sym, subst, ◌∙◌, length, take}
use Rattle.std.proofs.Common.{drop, replicate}
use Rattle.std.specs.Prelude.{slice_get}
use Rattle.std.proofs.lemmas.Grind.{common_steps}
use Rattle.std.proofs.lemmas.List.{length_push}
use Rattle.spec_core.specs.Order.{constructors_of}
use Rattle.refuter.specs.Fewest.{IsRowOf, lowered_by, number_in}
use Rattle.refuter.proofs.Lowering.{row_more, rows_end, each_one, row_start, not_lowered}
use Rattle.refuter.proofs.fewest.fewest_sizes.Goals as goal

pub loop-row-init : goal.loop-row-init
loop-row-init c =
    let none : c.new-rows.result ≡ [] = c.new-rows.ensures in
    let is : c.in_ok-row.row.items ≡ replicate c.sorts.result 4096 = search rules in
    record {
      each = λ depth row e. absurd (let q : None ≡ Some row = subst (λ xs. slice_get xs depth ≡ Some row) none e in cc);
      here = subst (λ d. IsRowOf c.args.sig.now d c.in_ok-row.row.items) (sym (ap (λ xs. length xs) none))
          (row_start c.args.sig.now c.in_ok-row.row.items c.sorts.result c.sorts.ensures is);
    }

pub returns-then-not-lowered-clause-rows : goal.returns-then-not-lowered-clause-rows
returns-then-not-lowered-clause-rows c =
    let row : c.deref-in-loop-row.result.now ≡ c.loop-row.row.items = search rules in
    let next : c.lower_all-lowered.new.next ≡ c.loop-row.row.items = not_lowered c.lower_all-lowered.result
    c.lower_all-lowered.new.next c.deref-in-loop-row.result.now c.if-not-lowered.true
    c.lower_all-lowered.ensures.fell ∙ row in
    let is : c.push.new.self ≡ c.loop-row.rows ++ c.loop-row.row.items ∷ [] = search rules in
    rows_end c.args.sig.now c.requires c.loop-row.rows c.loop-row.row.items c.lower_all-lowered.new.next
    c.loop-row.invariant.each c.loop-row.invariant.here (ap (λ xs. length xs) next) next
    (λ s k. c.lower_all-lowered.ensures.each s k
    ∙ ap (λ xs. lowered_by (number_in xs) (number_in xs s) (constructors_of c.args.sig.now s)) row)
    c.push.new.self is

pub loop-row-preserved : goal.loop-row-preserved
loop-row-preserved c =
    let e : take c.in_ok-next.next.len (c.lower_all-lowered.new.next
    ++ drop (length c.lower_all-lowered.new.next)
    c.in_ok-next.next.items) ≡ c.lower_all-lowered.new.next = grind (arith, common_steps) in
    let row : c.deref-in-loop-row.result.now ≡ c.loop-row.row.items = search rules in
    let long : length c.lower_all-lowered.new.next ≡ length c.loop-row.row.items = grind (arith, common_steps) in
    let is : c.push.new.self ≡ c.loop-row.rows ++ c.loop-row.row.items ∷ [] = search rules in
    let one : length c.push.new.self ≡ length c.loop-row.rows + 1 = ap (λ xs. length xs) is
    ∙ length_push c.loop-row.rows c.loop-row.row.items in
    let r = row_more c.args.sig.now c.requires (length c.loop-row.rows) c.loop-row.row.items
    c.lower_all-lowered.new.next c.loop-row.invariant.here long (λ s k. c.lower_all-lowered.ensures.each s k
    ∙ ap (λ xs. lowered_by (number_in xs) (number_in xs s) (constructors_of c.args.sig.now s)) row) in
    record {
      each = λ depth x at. each_one c.args.sig.now c.loop-row.rows c.loop-row.row.items
          c.loop-row.invariant.each c.loop-row.invariant.here depth x (subst (λ xs. slice_get xs depth ≡ Some x) is at);
      here = subst (λ d. IsRowOf c.args.sig.now d
          (take c.in_ok-next.next.len (c.lower_all-lowered.new.next
          ++ drop (length c.lower_all-lowered.new.next) c.in_ok-next.next.items))) (sym one)
          (subst (λ xs. IsRowOf c.args.sig.now (length c.loop-row.rows + 1) xs) (sym e) r);
    }
