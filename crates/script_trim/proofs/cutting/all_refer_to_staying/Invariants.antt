use Rattle.std.proofs.Common.{take}
use Rattle.std.specs.Prelude.{slice_set}
use Rattle.std.specs.List.{AllByRecursion}
use Rattle.script_trim.specs.Cut.{staying, RefersToStaying}
use Rattle.script_trim.specs.Flags.{flag_of}
use Rattle.script_trim.proofs.cutting.all_refer_to_staying.Given as goal

abbrev pub invariant-loop-number : goal.invariant-loop-number
invariant-loop-number l =
    AllByRecursion (RefersToStaying (flag_of l.stays))
    (staying (flag_of l.stays) 0 (take l.number (slice_set l.steps l.node l.closing)))
