-- A copy of each term so far.
use Rattle.std.proofs.Common.{◌≡◌, take}
use Rattle.term_core.specs.References.{terms_of}
use Rattle.fitting_lists.proofs.term_lists.copies.Given as goal

abbrev pub invariant-loop-term : goal.invariant-loop-term
invariant-loop-term l = l.made.items ≡ terms_of (take l.term-index l.terms)
