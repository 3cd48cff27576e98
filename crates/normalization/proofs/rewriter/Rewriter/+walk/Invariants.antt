use Rattle.std.proofs.Common.{◌≡◌, ◌+◌, ◌*◌, ◌-◌, length, drop}
use Rattle.term_core.specs.Measure.{weight, list_weight}
use Rattle.normalization.specs.Room.{room}
use Rattle.normalization.specs.Openings.{Opened, Advanced}
use Rattle.normalization.proofs.rewriter.Rewriter.+walk.Given as goal

abbrev pub decreases-walk : goal.decreases-walk
decreases-walk l = (l.budget - length l.trace.now.uses.items) * room l.self.now.rules + 2 * weight l.pattern.now + 1

abbrev pub decreases-open : goal.decreases-open
decreases-open l = (l.budget - length l.trace.now.uses.items) * room l.self.now.rules + 2 * weight l.pattern.now

abbrev pub decreases-walk_all : goal.decreases-walk_all
decreases-walk_all l = (l.budget - length l.trace.now.uses.items) * room l.self.now.rules + 2 * list_weight
    l.patterns.now

abbrev pub invariant-walk-loop-term : goal.invariant-walk-loop-term
invariant-walk-loop-term l = record {
  opened : Opened l.self l.fn.trace.place.items l.budget l.fn.term l.fn.trace.uses.items l.trace.uses.items l.term;
  stays : l.trace.place.items ≡ l.fn.trace.place.items;
}

abbrev pub decreases-walk-loop-term : goal.decreases-walk-loop-term
decreases-walk-loop-term l = l.budget - length l.trace.uses.items

abbrev pub invariant-walk_all-loop-index : goal.invariant-walk_all-loop-index
invariant-walk_all-loop-index l = record {
  advanced : Advanced l.self l.fn.trace.place.items l.budget l.fn.args.items l.fn.trace.uses.items
      l.trace.uses.items l.made (drop l.index l.fn.args.items);
  rest : drop l.index l.args.items ≡ drop l.index l.fn.args.items;
  size : length l.args.items ≡ length l.fn.args.items;
  count : length l.made ≡ l.index;
  stays : l.trace.place.items ≡ l.fn.trace.place.items;
}
