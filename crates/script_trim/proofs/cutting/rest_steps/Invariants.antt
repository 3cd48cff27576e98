use Rattle.std.proofs.Common.{◌≡◌, map, take}
use Rattle.std.specs.Prelude.{slice_set}
use Rattle.script_trim.specs.Cut.{renumbered, staying}
use Rattle.script_trim.specs.Flags.{flag_of}
use Rattle.script_trim.proofs.cutting.rest_steps.Given as goal

abbrev pub invariant-loop-number : goal.invariant-loop-number
invariant-loop-number l =
    l.rest.items
    ≡ map (renumbered (flag_of l.stays))
    (staying (flag_of l.stays) 0 (take l.number (slice_set l.steps l.node l.closing)))
