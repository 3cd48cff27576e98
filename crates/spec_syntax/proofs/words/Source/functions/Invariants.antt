use Rattle.std.proofs.Common.{[], ◌∷◌, length}
use Rattle.spec_grammar.specs.Grammar.{funs_text}
use Rattle.spec_grammar.specs.Items.{items_of}
use Rattle.spec_grammar.specs.Symbols.{funs}
use Rattle.spec_syntax.proofs.Steps.{At}
use Rattle.spec_syntax.proofs.words.Source.functions.Given as goal

abbrev pub invariant-loop-made : goal.invariant-loop-made
invariant-loop-made l = At (funs l.version 0 ∷ []) (items_of l.self.bytes.now l.fn.tokens)
    (funs l.version (length l.made) ∷ []) (items_of l.self.bytes.now l.rest) (funs_text l.version 0 l.made)

abbrev pub decreases-loop-made : goal.decreases-loop-made
decreases-loop-made l = length (items_of l.self.bytes.now l.rest)
