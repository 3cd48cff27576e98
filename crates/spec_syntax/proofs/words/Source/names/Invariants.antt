use Rattle.std.proofs.Common.{◌<◌, [], ◌∷◌, length}
use Rattle.spec_grammar.specs.declared.keys.Key.TheVariants.{RightPar}
use Rattle.spec_grammar.specs.Items.{items_of}
use Rattle.spec_grammar.specs.Symbols.{names, more_names, key}
use Rattle.spec_syntax.proofs.Grow.{opened_names}
use Rattle.spec_syntax.proofs.Steps.{At}
use Rattle.spec_syntax.proofs.words.Source.names.Given as goal

abbrev pub invariant-loop-made : goal.invariant-loop-made
invariant-loop-made l = record {
  some : 0 < length l.made;
  reads : At (names ∷ []) (items_of l.self.bytes.now l.fn.tokens)
      (more_names (length l.made) ∷ key RightPar ∷ []) (items_of l.self.bytes.now l.rest) (opened_names l.made);
}

abbrev pub decreases-loop-made : goal.decreases-loop-made
decreases-loop-made l = length (items_of l.self.bytes.now l.rest)
