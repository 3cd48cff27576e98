use Rattle.std.proofs.Common.{◌≡◌, ◌++◌, reverse, vec_len}
use Rattle.spec_core.specs.Pairs.{pairs_of}
use Rattle.spec_core.specs.Declarations.{AreFresh}
use Rattle.spec_core.proofs.building.add_symbols.Given as goal

abbrev pub invariant-loop-name : goal.invariant-loop-name
invariant-loop-name l =
    record {
      all : pairs_of l.table.entries ++ reverse l.rest.items ≡ pairs_of l.fn.table.entries ++ l.fn.symbols.items;
      onward : AreFresh (pairs_of l.table.entries) (reverse l.rest.items) →
          AreFresh (pairs_of l.fn.table.entries) l.fn.symbols.items;
      back : AreFresh (pairs_of l.fn.table.entries) l.fn.symbols.items →
          AreFresh (pairs_of l.table.entries) (reverse l.rest.items);
    }

abbrev pub decreases-loop-name : goal.decreases-loop-name
decreases-loop-name l = vec_len l.rest
