use Rattle.std.proofs.Common.{◌≡◌, map, take}
use Rattle.script_trim.specs.Flags.{flag_of}
use Rattle.script_trim.specs.Made.{reference_renumbered}
use Rattle.script_trim.proofs.cut_links.renumbered_references.Given as goal

abbrev pub invariant-loop-reference : goal.invariant-loop-reference
invariant-loop-reference l =
    l.copies.items ≡ map (reference_renumbered (flag_of l.stays)) (take l.reference-index l.refs)
