use Rattle.std.proofs.Common.{arith, ◌∙◌, ◌++◌, ◌∷◌, [], refl, ap, take}
use Rattle.term_core.specs.Tree.{sizes, trees_of}
use Rattle.term_core.proofs.Trees.{sizes-append}
use Rattle.value_bank.proofs.Placed.{adds_both, term_within}
use Rattle.rule_code.proofs.Ranges.{item_listed}
use Rattle.ground_eval.proofs.Lists.{take_here}
use Rattle.refuter.proofs.Sizing.{next_place}
use Rattle.refuter.proofs.sized_bank.place_terms.Goals as goal

pub number-requires : goal.number-requires
number-requires c = term_within c.value.new.self c.in_ok-id.id.0 c.value-item.result c.in_ok-id.ensures.placed

pub loop-value-preserved : goal.loop-value-preserved
loop-value-preserved c =
    let at = item_listed c.args.values.now c.args.values.now c.loop-value.value-index c.value-item.result refl
    c.loop-value-test.true c.value-item.is in
    record {
      placed = next_place c.loop-value.bank c.value.new.self c.args.values.now c.loop-value.value-index
          c.in_ok-id.id.0 c.loop-value.places.items c.push.new.self.items c.value-item.result
          at c.in_ok-id.ensures.adds c.loop-value.invariant.placed c.in_ok-id.ensures.placed
          (c.in_ok-push.ensures.items ∙ ap (λ p. c.loop-value.places.items ++ p ∷ []) c.number.ensures);
      adds = adds_both c.args.bank.now c.loop-value.bank c.value.new.self c.loop-value.invariant.adds
          c.in_ok-id.ensures.adds;
      few =
          let one = ap (λ us. sizes (trees_of us))
          (take_here c.args.values.now c.loop-value.value-index c.value-item.result at)
          ∙ sizes-append (take c.loop-value.value-index c.args.values.now) c.value-item.result in
          omega (arith, one, c.loop-value.invariant.few, c.in_ok-id.ensures.few);
    }
