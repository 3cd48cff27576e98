use Rattle.std.proofs.Common.{◌≡◌, map, take}
use Rattle.std.specs.Prelude.{slice_set}
use Rattle.clause_core.specs.declared.answers.Children.{Children}
use Rattle.block_links.specs.Links.{links_of}
use Rattle.script_trim.specs.Cut.{staying}
use Rattle.script_trim.specs.Flags.{flag_of}
use Rattle.script_trim.specs.Made.{made_renumbered}
use Rattle.script_trim.proofs.cut_links.cut_links.Given as goal

abbrev pub invariant-loop-number : goal.invariant-loop-number
invariant-loop-number l =
    l.cut.items
    ≡ map (λ (m : Children). links_of (made_renumbered (flag_of l.stays) m))
    (staying (flag_of l.stays) 0 (take l.number (slice_set l.links l.node l.closed)))
