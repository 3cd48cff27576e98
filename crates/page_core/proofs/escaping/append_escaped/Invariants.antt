use Rattle.std.proofs.Common.{◌≡◌, ◌++◌, length}
use Rattle.page_core.specs.Html.{escaped}
use Rattle.page_core.proofs.escaping.append_escaped.Given as goal

abbrev pub decreases-loop-at : goal.decreases-loop-at
decreases-loop-at l = length l.rest

abbrev pub invariant-loop-at : goal.invariant-loop-at
invariant-loop-at l = l.out.items ++ escaped l.rest ≡ l.initial.out.items ++ escaped l.text
