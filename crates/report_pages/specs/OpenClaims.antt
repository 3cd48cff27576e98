-- What a page says of a goal that is left open.
use Rattle.std.specs.Prelude.{List, [], ◌∷◌, codes}
use Rattle.std.specs.Fmt.{decimal}
use Rattle.clause_core.specs.declared.reports.Budget.{Budget}
use Rattle.page_core.specs.Events.{Event}
use Rattle.proof_words.specs.ListEvents.{plain}

-- what was tried
abbrev pub open_events : Budget → List Event
open_events budget =
    plain (codes "open: ") ∷ plain (decimal budget.tried)
    ∷ plain (codes " substitutions up to depth ") ∷ plain (decimal budget.depth)
    ∷ plain (codes " were tried, ") ∷ plain (decimal budget.skipped)
    ∷ plain (codes " of them without a verdict; no plain proof up to length ") ∷ plain (decimal budget.plain)
    ∷ plain (codes ", no routine proof up to ") ∷ plain (decimal budget.nodes) ∷ plain (codes " nodes") ∷ []
