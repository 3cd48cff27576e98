use Rattle.std.proofs.Common.{arith}
use Rattle.script_trim.specs.Flags.{flag_of}
use Rattle.script_trim.proofs.OneCut.{anew_bound}
use Rattle.script_trim.proofs.flags.new_numbers.Goals as goal

pub overflow_add-before : goal.overflow_add-before
overflow_add-before c = omega (arith, anew_bound (flag_of c.args.stays.now) c.loop-stay.stay-index)
