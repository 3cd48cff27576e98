use Rattle.spec_core.specs.WellSorted.{sorts_of}
use Rattle.block_steps.proofs.StepsInRange.{sorted_in_range}
use Rattle.goal_lines.proofs.lines.append_equation.Goals as goal

pub print-requires : goal.print-requires
print-requires c = record {
  in_range = sorted_in_range c.args.sig.now (sorts_of c.args.vars.now) c.args.equation.now.left
      c.requires.0 c.requires.1;
}

pub print-requires-2 : goal.print-requires-2
print-requires-2 c = record {
  in_range = sorted_in_range c.args.sig.now (sorts_of c.args.vars.now) c.args.equation.now.right
      c.requires.0 c.requires.2;
}
