-- Each place so far has its mark.
use Rattle.std.proofs.Common.{◌≡◌, ℕ, ◌<◌, true, get_or}
use Rattle.fitting_lists.proofs.marking.are_marked.Given as goal

abbrev pub invariant-loop-mark : goal.invariant-loop-mark
invariant-loop-mark l = (n : ℕ) → n < l.mark-index → get_or l.marks n true ≡ true
