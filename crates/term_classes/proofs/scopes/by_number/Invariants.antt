-- The symbols so far increase, and are below those that come.
use Rattle.std.proofs.Common.{◌<◌}
use Rattle.std.specs.Prelude.{All}
use Rattle.std.specs.List.Sorted.{IsStrictlyIncreasing}
use Rattle.term_classes.specs.Scopes.{numbers_of}
use Rattle.term_classes.proofs.scopes.by_number.Given as goal

abbrev pub invariant-loop-number : goal.invariant-loop-number
invariant-loop-number l = record {
  below : All (λ n. n < l.number) (numbers_of l.made.items);
  ordered : IsStrictlyIncreasing (numbers_of l.made.items);
}
