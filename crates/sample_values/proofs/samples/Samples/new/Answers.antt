use Rattle.spec_core.proofs.Ranges.{sorts_in_range}
use Rattle.sample_values.proofs.samples.Samples.new.Goals as goal

pub least_depths-requires : goal.least_depths-requires
least_depths-requires c = sorts_in_range c.args.spec.now.sig c.requires.signature
