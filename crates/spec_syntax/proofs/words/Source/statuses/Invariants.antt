use Rattle.std.proofs.Common.{◌≡◌, ◌≤◌, ◌∷◌, List, length}
use Rattle.spec_grammar.specs.Derives.{clean}
use Rattle.spec_grammar.specs.Grammar.{AreStatuses}
use Rattle.spec_grammar.specs.Items.{items_of}
use Rattle.spec_grammar.specs.Symbols.{Symbol, statuses, run}
use Rattle.spec_syntax.proofs.words.Source.statuses.Given as goal

abbrev pub invariant-loop-made : goal.invariant-loop-made
invariant-loop-made l =
    let items = items_of l.self.bytes.now l.fn.tokens in
    let rest = items_of l.self.bytes.now l.rest in
    record {
      text : AreStatuses l.made (clean items) (clean rest);
      same : (st : List Symbol) → run (statuses ∷ st) items ≡ run (statuses ∷ st) rest;
      less : length rest ≤ length items;
    }

abbrev pub decreases-loop-made : goal.decreases-loop-made
decreases-loop-made l = length (items_of l.self.bytes.now l.rest)
