use Rattle.std.proofs.Common.{◌<◌, [], ◌∷◌, length}
use Rattle.spec_grammar.specs.Items.{items_of}
use Rattle.spec_grammar.specs.Symbols.{more_equal}
use Rattle.spec_syntax.specs.ReadingOrders.{equal_symbols}
use Rattle.spec_syntax.proofs.OrderSteps.{level_text}
use Rattle.spec_syntax.proofs.Steps.{At}
use Rattle.spec_syntax.proofs.words.Source.equal.Given as goal

abbrev pub invariant-loop-names : goal.invariant-loop-names
invariant-loop-names l =
    let items = items_of l.self.bytes.now l.fn.tokens in
    let rest = items_of l.self.bytes.now l.rest in
    record {
      two : 1 < length l.names;
      reads : At equal_symbols items (more_equal ∷ []) rest (level_text l.names);
    }

abbrev pub decreases-loop-names : goal.decreases-loop-names
decreases-loop-names l = length (items_of l.self.bytes.now l.rest)
