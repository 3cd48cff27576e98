use Rattle.refuter.proofs.Steps.{before_is}
use Rattle.refuter.proofs.odometer.Odometer.room_before.Goals as goal

pub returns : goal.returns
returns c = before_is c.args.self.now c.args.depth c.args.others.now c.sizes_at.result.now c.args.bound
    c.total_size.result c.saturating_sub.result c.requires.sorts c.sizes_at.ensures c.total_size.ensures
    c.requires.few c.saturating_sub.ensures
