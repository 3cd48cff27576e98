use Rattle.std.proofs.Common.{◌+◌, ◌*◌, ◌<◌, ◌∷◌, [], length}
use Rattle.spec_grammar.specs.declared.keys.Key.TheVariants.{RightPar}
use Rattle.spec_grammar.specs.Items.{items_of}
use Rattle.spec_grammar.specs.Symbols.{args, more, key}
use Rattle.spec_syntax.proofs.Grow.{opened_text}
use Rattle.spec_syntax.proofs.Steps.{At}
use Rattle.spec_syntax.proofs.words.Source.+term.Given as goal

abbrev pub decreases-term : goal.decreases-term
decreases-term l = 2 * length (items_of l.self.now.bytes.now l.tokens.now) + 1

abbrev pub decreases-args : goal.decreases-args
decreases-args l = 2 * length (items_of l.self.now.bytes.now l.tokens.now)

abbrev pub invariant-args-loop-made : goal.invariant-args-loop-made
invariant-args-loop-made l = record {
  some : 0 < length l.made;
  left : length (items_of l.self.bytes.now l.rest) < length (items_of l.self.bytes.now l.fn.tokens);
  reads : At (args l.depth ∷ []) (items_of l.self.bytes.now l.fn.tokens)
      (more (l.depth + 1) (length l.made) ∷ key RightPar ∷ []) (items_of l.self.bytes.now l.rest)
      (opened_text l.depth l.made);
}

abbrev pub decreases-args-loop-made : goal.decreases-args-loop-made
decreases-args-loop-made l = length (items_of l.self.bytes.now l.rest)

abbrev pub decreases-next_argument : goal.decreases-next_argument
decreases-next_argument l = 2 * length (items_of l.self.now.bytes.now l.tokens.now)
