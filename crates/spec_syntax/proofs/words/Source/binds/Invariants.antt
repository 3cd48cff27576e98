use Rattle.std.proofs.Common.{◌<◌, [], ◌∷◌, length}
use Rattle.spec_grammar.specs.declared.keys.Key.TheVariants.{RightPar}
use Rattle.spec_grammar.specs.Items.{items_of}
use Rattle.spec_grammar.specs.Symbols.{binds, more_binds, key}
use Rattle.spec_syntax.proofs.Grow.{opened_binds}
use Rattle.spec_syntax.proofs.Steps.{At}
use Rattle.spec_syntax.proofs.words.Source.binds.Given as goal

abbrev pub invariant-loop-made : goal.invariant-loop-made
invariant-loop-made l = record {
  some : 0 < length l.made;
  reads : At (binds ∷ []) (items_of l.self.bytes.now l.fn.tokens)
      (more_binds (length l.made) ∷ key RightPar ∷ []) (items_of l.self.bytes.now l.rest) (opened_binds l.made);
}

abbrev pub decreases-loop-made : goal.decreases-loop-made
decreases-loop-made l = length (items_of l.self.bytes.now l.rest)
