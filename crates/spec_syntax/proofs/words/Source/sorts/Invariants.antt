use Rattle.std.proofs.Common.{◌≡◌, ◌≤◌, ◌⊎◌, ℕ, List, ◌∷◌, length}
use Rattle.spec_grammar.specs.declared.keys.Key.TheVariants.{Bar}
use Rattle.spec_grammar.specs.Derives.{clean}
use Rattle.spec_grammar.specs.Grammar.{AreSorts}
use Rattle.spec_grammar.specs.Items.{items_of}
use Rattle.spec_grammar.specs.Limits.{most_constructors}
use Rattle.spec_grammar.specs.Symbols.{Symbol, sorts, run}
use Rattle.spec_syntax.specs.Reading.{Lacks}
use Rattle.spec_syntax.proofs.SortSteps.{counted}
use Rattle.spec_syntax.proofs.words.Source.sorts.Given as goal

abbrev pub invariant-loop-made : goal.invariant-loop-made
invariant-loop-made l = record {
  few : l.total ≤ most_constructors l.version;
  total : l.total ≡ counted l.made;
  text : AreSorts l.version 0 0 l.made (clean (items_of l.self.bytes.now l.fn.tokens))
      (clean (items_of l.self.bytes.now l.rest));
  last : (j : ℕ) × ((st : List Symbol) →
      run (sorts l.version 0 0 0 ∷ st) (items_of l.self.bytes.now l.fn.tokens) ≡ run
      (sorts l.version (length l.made) j l.total ∷ st) (items_of l.self.bytes.now l.rest))
      × ((j ≡ 0) ⊎ Lacks Bar (items_of l.self.bytes.now l.rest));
  less : length (items_of l.self.bytes.now l.rest) ≤ length (items_of l.self.bytes.now l.fn.tokens);
}

abbrev pub decreases-loop-made : goal.decreases-loop-made
decreases-loop-made l = length (items_of l.self.bytes.now l.rest)
