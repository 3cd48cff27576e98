use Rattle.std.proofs.Common.{◌<◌, [], ◌∷◌, length}
use Rattle.spec_grammar.specs.Items.{items_of}
use Rattle.spec_grammar.specs.Symbols.{weights, more_weights}
use Rattle.spec_syntax.proofs.OrderSteps.{opened_weights}
use Rattle.spec_syntax.proofs.Steps.{At}
use Rattle.spec_syntax.proofs.words.Source.weights.Given as goal

abbrev pub invariant-loop-made : goal.invariant-loop-made
invariant-loop-made l =
    let items = items_of l.self.bytes.now l.fn.tokens in
    let rest = items_of l.self.bytes.now l.rest in
    record {
      some : 0 < length l.made;
      reads : At (weights ∷ []) items (more_weights ∷ []) rest (opened_weights l.made);
    }

abbrev pub decreases-loop-made : goal.decreases-loop-made
decreases-loop-made l = length (items_of l.self.bytes.now l.rest)
