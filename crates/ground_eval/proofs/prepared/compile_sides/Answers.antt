use Rattle.std.proofs.Common.{◌≡◌, refl, sym, ◌∙◌, subst, arith, length}
use Rattle.spec_core.specs.declared.records.Spec.{Spec}
use Rattle.spec_core.specs.TermText.{SymbolsAreInRange}
use Rattle.spec_core.proofs.Determined.{occurs_within}
use Rattle.rule_code.proofs.Placed.{adds_both}
use Rattle.rule_code.proofs.Ranges.{item_listed, sorted_in_range}
use Rattle.ground_eval.specs.Prepared.{HasCode, pair_of}
use Rattle.ground_eval.proofs.CodeLengths.{next_sides}
use Rattle.ground_eval.proofs.SharedSides.{side_kept, pairs_kept, pair_added}
use Rattle.ground_eval.proofs.prepared.compile_sides.Goals as goal

pub with_term-requires-clause-symbols : goal.with_term-requires-clause-symbols
with_term-requires-clause-symbols c =
    let at = item_listed c.args.equations.now c.args.equations.now c.loop-equation.equation-index
    c.equation-item.result refl c.loop-equation-test.true c.equation-item.is in
    let s = c.requires.1 c.loop-equation.equation-index c.equation-item.result at in
    subst (λ (z : Spec). SymbolsAreInRange z.sig c.equation-item.result.left)
    (sym c.loop-equation.invariant.spec)
    (sorted_in_range c.args.machine.spec.sig c.requires.0 c.equation-item.result.left s.0 s.1)

pub with_term-requires-clause-variables : goal.with_term-requires-clause-variables
with_term-requires-clause-variables c n o =
    let at = item_listed c.args.equations.now c.args.equations.now c.loop-equation.equation-index
    c.equation-item.result refl c.loop-equation-test.true c.equation-item.is in
    let s = c.requires.1 c.loop-equation.equation-index c.equation-item.result at in
    omega (
      arith,
      occurs_within c.args.machine.spec.sig c.requires.0 c.equation-item.result.left s.0 s.1 n o,
      c.requires.2,
    )

pub with_term-requires-in-loop-equation-clause-symbols : goal.with_term-requires-in-loop-equation-clause-symbols
with_term-requires-in-loop-equation-clause-symbols c =
    let at = item_listed c.args.equations.now c.args.equations.now c.loop-equation.equation-index
    c.equation-item.result refl c.loop-equation-test.true c.equation-item.is in
    let s = c.requires.1 c.loop-equation.equation-index c.equation-item.result at in
    subst (λ (z : Spec). SymbolsAreInRange z.sig c.equation-item.result.right)
    (sym (c.in_ok-with_left.ensures.spec ∙ c.loop-equation.invariant.spec))
    (sorted_in_range c.args.machine.spec.sig c.requires.0 c.equation-item.result.right s.0 s.2)

pub with_term-requires-in-loop-equation-clause-variables : goal.with_term-requires-in-loop-equation-clause-variables
with_term-requires-in-loop-equation-clause-variables c n o =
    let at = item_listed c.args.equations.now c.args.equations.now c.loop-equation.equation-index
    c.equation-item.result refl c.loop-equation-test.true c.equation-item.is in
    let s = c.requires.1 c.loop-equation.equation-index c.equation-item.result at in
    omega (
      arith,
      occurs_within c.args.machine.spec.sig c.requires.0 c.equation-item.result.right s.0 s.2 n o,
      c.requires.2,
    )

pub loop-equation-preserved : goal.loop-equation-preserved
loop-equation-preserved c =
    let at = item_listed c.args.equations.now c.args.equations.now c.loop-equation.equation-index
    c.equation-item.result refl c.loop-equation-test.true c.equation-item.is in
    let old = c.loop-equation.machine in
    let mid = c.in_ok-with_left.with_left in
    let new = c.in_ok-with_right.with_right in
    let spec : new.spec ≡ old.spec = c.in_ok-with_right.ensures.spec ∙ c.in_ok-with_left.ensures.spec in
    let both = adds_both old.code mid.code new.code c.in_ok-with_left.ensures.adds c.in_ok-with_right.ensures.adds in
    let here : HasCode new c.args.variables c.equation-item.result
    (pair_of c.in_ok-with_left.left c.in_ok-with_right.right) = record {
      left = side_kept mid new c.in_ok-with_left.left c.args.variables c.equation-item.result.left
          c.in_ok-with_right.ensures.spec c.in_ok-with_right.ensures.adds c.in_ok-with_left.ensures.side;
      right = c.in_ok-with_right.ensures.side;
    } in
    record {
      code = pair_added new c.args.variables c.args.equations.now c.loop-equation.equation-index
          c.equation-item.result c.loop-equation.pairs.items c.push.new.self.items
          (pair_of c.in_ok-with_left.left c.in_ok-with_right.right)
          at (pairs_kept old new c.args.variables _ c.loop-equation.pairs.items spec both
          c.loop-equation.invariant.code) here c.in_ok-push.ensures.items;
      spec = spec ∙ c.loop-equation.invariant.spec;
      adds = adds_both c.args.machine.code old.code new.code c.loop-equation.invariant.adds both;
      few = next_sides c.args.equations.now c.loop-equation.equation-index c.equation-item.result
          (length c.args.machine.code) (length old.code) (length mid.code) (length new.code)
          at c.loop-equation.invariant.few c.in_ok-with_left.ensures.few c.in_ok-with_right.ensures.few;
    }

pub returns-clause-few : goal.returns-clause-few
returns-clause-few c = omega (arith, c.loop-equation.invariant.few)
