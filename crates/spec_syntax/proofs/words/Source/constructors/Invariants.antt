use Rattle.std.proofs.Common.{◌≡◌, ◌+◌, ◌<◌, ◌≤◌, ℕ, List, ◌∷◌, ◌++◌, length}
use Rattle.spec_grammar.specs.Derives.{clean}
use Rattle.spec_grammar.specs.Items.{items_of}
use Rattle.spec_grammar.specs.Limits.{most_constructors}
use Rattle.spec_grammar.specs.Symbols.{Symbol, sorts, run}
use Rattle.spec_syntax.specs.ReadingSorts.{begun_text, first_constructor}
use Rattle.spec_syntax.proofs.words.Source.constructors.Given as goal

abbrev pub invariant-loop-made : goal.invariant-loop-made
invariant-loop-made l = record {
  some : 0 < length l.made;
  few : l.total + length l.made ≤ most_constructors l.version;
  text : clean (items_of l.self.bytes.now l.fn.tokens) ≡ begun_text l.version l.total l.made
      (clean (items_of l.self.bytes.now l.rest));
  same : (n : ℕ) (st : List Symbol) →
      run (first_constructor l.version n l.total ++ st) (items_of l.self.bytes.now l.fn.tokens) ≡ run
      (sorts l.version n (length l.made) (l.total + length l.made) ∷ st) (items_of l.self.bytes.now l.rest);
  less : length (items_of l.self.bytes.now l.rest) ≤ length (items_of l.self.bytes.now l.fn.tokens);
}

abbrev pub decreases-loop-made : goal.decreases-loop-made
decreases-loop-made l = length (items_of l.self.bytes.now l.rest)
