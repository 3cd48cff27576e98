use Rattle.std.proofs.Common.{◌≡◌, ◌++◌, reverse, vec_len}
use Rattle.spec_core.specs.Declarations.{AreNewNames}
use Rattle.spec_core.proofs.building.add_sorts.Given as goal

abbrev pub invariant-loop-name : goal.invariant-loop-name
invariant-loop-name l =
    record {
      all : l.sorts ++ reverse l.rest.items ≡ l.fn.sorts ++ l.fn.names.items;
      onward : AreNewNames l.sorts (reverse l.rest.items) → AreNewNames l.fn.sorts l.fn.names.items;
      back : AreNewNames l.fn.sorts l.fn.names.items → AreNewNames l.sorts (reverse l.rest.items);
    }

abbrev pub decreases-loop-name : goal.decreases-loop-name
decreases-loop-name l = vec_len l.rest
