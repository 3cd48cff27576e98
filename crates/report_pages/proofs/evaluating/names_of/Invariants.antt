use Rattle.std.proofs.Common.{◌≡◌, take}
use Rattle.acceptance.specs.Accepting.{names_in}
use Rattle.report_pages.proofs.evaluating.names_of.Given as goal

abbrev pub invariant-loop-name : goal.invariant-loop-name
invariant-loop-name l = l.names.items ≡ names_in (take l.name-index l.values)
