use Rattle.std.proofs.Common.{[], ◌∷◌, length}
use Rattle.spec_grammar.specs.Grammar.{guards_text}
use Rattle.spec_grammar.specs.Items.{items_of}
use Rattle.spec_grammar.specs.Symbols.{guards}
use Rattle.spec_syntax.proofs.Steps.{At}
use Rattle.spec_syntax.proofs.words.Source.guards.Given as goal

abbrev pub invariant-loop-made : goal.invariant-loop-made
invariant-loop-made l = At (guards 0 ∷ []) (items_of l.self.bytes.now l.fn.tokens) (guards (length l.made) ∷ [])
    (items_of l.self.bytes.now l.rest) (guards_text 0 l.made)

abbrev pub decreases-loop-made : goal.decreases-loop-made
decreases-loop-made l = length (items_of l.self.bytes.now l.rest)
