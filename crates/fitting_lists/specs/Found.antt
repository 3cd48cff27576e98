-- The list of terms that a matcher holds.
use Rattle.std.specs.Prelude.{Bool, true, false, List, Option, Some, None}
use Rattle.term_core.specs.References.{terms_of}
use Rattle.term_core.specs.Tree.{Tree}
use Rattle.fitting_lists.specs.declared.matcher.Matcher.{Matcher}

-- the list that the last try found
abbrev pub found_in : Matcher → List Tree
found_in m = terms_of m.found.items

-- what a try answers: the list that it found, or that there is none
abbrev pub answer_of : Bool → Matcher → Option (List Tree)
answer_of true m = Some (found_in m)
answer_of false m = None
