use Rattle.sample_values.proofs.evaluator.Evaluator.new.Goals as goal

pub invariant_of-result : goal.invariant_of-result
invariant_of-result c = record {
  fine = c.requires;
  same = c.in_ok-machine.ensures.spec;
  of_sides = c.in_ok-machine.ensures.sides;
  count = c.in_ok-machine.ensures.count;
  of_kept = c.new-2.ensures c.args.spec.now c.in_ok-bank.bank;
}
