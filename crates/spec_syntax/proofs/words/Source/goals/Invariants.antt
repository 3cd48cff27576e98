use Rattle.std.proofs.Common.{◌≡◌, ◌≤◌, ◌∷◌, List, length}
use Rattle.spec_grammar.specs.Derives.{clean}
use Rattle.spec_grammar.specs.Grammar.{AreGoals}
use Rattle.spec_grammar.specs.Items.{items_of}
use Rattle.spec_grammar.specs.Symbols.{Symbol, goals, run}
use Rattle.spec_syntax.proofs.words.Source.goals.Given as goal

abbrev pub invariant-loop-made : goal.invariant-loop-made
invariant-loop-made l = record {
  text : AreGoals 0 l.made (clean (items_of l.self.bytes.now l.fn.tokens)) (clean (items_of l.self.bytes.now l.rest));
  same : (st : List Symbol) →
      run (goals 0 ∷ st) (items_of l.self.bytes.now l.fn.tokens) ≡ run (goals (length l.made) ∷ st)
      (items_of l.self.bytes.now l.rest);
  less : length (items_of l.self.bytes.now l.rest) ≤ length (items_of l.self.bytes.now l.fn.tokens);
}

abbrev pub decreases-loop-made : goal.decreases-loop-made
decreases-loop-made l = length (items_of l.self.bytes.now l.rest)
