use Rattle.std.proofs.Common.{[], ◌∷◌, length}
use Rattle.spec_grammar.specs.Grammar.{commas_text}
use Rattle.spec_grammar.specs.Items.{items_of}
use Rattle.spec_grammar.specs.Symbols.{commas}
use Rattle.spec_syntax.specs.Reading.{BeginsWith, others_of}
use Rattle.spec_syntax.proofs.Steps.{At}
use Rattle.spec_syntax.proofs.words.Source.premises.Given as goal

abbrev pub invariant-loop-made : goal.invariant-loop-made
invariant-loop-made l = record {
  begins : BeginsWith l.fn.first l.made;
  reads : At (commas 1 ∷ []) (items_of l.self.bytes.now l.fn.tokens) (commas (length l.made) ∷ [])
      (items_of l.self.bytes.now l.rest) (commas_text 1 (others_of l.made));
}

abbrev pub decreases-loop-made : goal.decreases-loop-made
decreases-loop-made l = length (items_of l.self.bytes.now l.rest)
