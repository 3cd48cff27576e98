use Rattle.std.proofs.Common.{◌<◌, [], ◌∷◌, length}
use Rattle.spec_grammar.specs.Items.{items_of}
use Rattle.spec_grammar.specs.Symbols.{more_numbers}
use Rattle.spec_syntax.specs.ReadingOrders.{number_symbols}
use Rattle.spec_syntax.proofs.OrderSteps.{numbers_text}
use Rattle.spec_syntax.proofs.Steps.{At}
use Rattle.spec_syntax.proofs.words.Source.numbers.Given as goal

abbrev pub invariant-loop-made : goal.invariant-loop-made
invariant-loop-made l =
    let items = items_of l.self.bytes.now l.fn.tokens in
    let rest = items_of l.self.bytes.now l.rest in
    record {
      some : 0 < length l.made;
      reads : At number_symbols items (more_numbers (length l.made) ∷ []) rest (numbers_text l.made);
    }

abbrev pub decreases-loop-made : goal.decreases-loop-made
decreases-loop-made l = length (items_of l.self.bytes.now l.rest)
