use Rattle.std.proofs.Common.{arith}
use Rattle.std.specs.Prelude.{IsTrue}
use Rattle.std.proofs.lemmas.Bool.{leb-true, le-leb}
use Rattle.place_comparison.proofs.LimitsThere.{few_levels, levels_test}
use Rattle.place_comparison.proofs.within.within_at.Goals as goal

pub overflow_cast-levels : goal.overflow_cast-levels
overflow_cast-levels c =
    let few =
    few_levels c.args.clause.now c.args.place.now c.requires.there.0 c.requires.within in
    omega (arith, c.len.ensures, few)

pub overflow_sub-levels : goal.overflow_sub-levels
overflow_sub-levels c =
    let few =
    few_levels c.args.clause.now c.args.place.now c.requires.there.0 c.requires.within in
    omega (arith, c.len.ensures, few)

pub returns : goal.returns
returns c = λ at.
    let there : IsTrue c.has_room.result = cc c.if-not-has_room.false in
    let small = (c.has_room.ensures at).0 there in
    let test =
    levels_test c.args.clause.now c.args.place.now at c.requires.within c.args.new.now c.len.result
    c.depth.result c.len.ensures c.depth.ensures small in
    (λ t. test.0 (leb-true _ _ t), λ v. le-leb _ _ (test.1 v))
