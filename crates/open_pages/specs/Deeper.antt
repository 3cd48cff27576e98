-- What is shown of the counterexample that a deeper search finds.
use Rattle.std.specs.Prelude.{◌≡◌, ℕ, List, [], ◌∷◌, ◌++◌, Option, Some, None, codes, flat_map}
use Rattle.std.specs.Fmt.{decimal}
use Rattle.spec_core.specs.Sig.{Sig}
use Rattle.spec_core.specs.declared.records.Goal.{Goal}
use Rattle.spec_core.specs.declared.records.Spec.{Spec}
use Rattle.command_line.specs.declared.bounds.SearchBounds.{SearchBounds}
use Rattle.search_claims.specs.Deepening.{IsDeepened}
use Rattle.search_claims.specs.declared.deepening.Deepened.{Deepened}
use Rattle.page_core.specs.Events.{Event, within}
use Rattle.page_core.specs.declared.parts.Part.TheVariants.{Note}
use Rattle.proof_words.specs.ListEvents.{plain}
use Rattle.report_pages.specs.Values.{variable_events}

-- to which depth the search went
abbrev pub depth_note : ℕ → List Event
depth_note depth =
    within Note (plain (codes "a search to depth ") ∷ plain (decimal depth)
    ∷ plain (codes " finds a counterexample") ∷ [])

-- the depth and the values, if there are some
abbrev pub deeper_events : Sig → Option Deepened → List Event
deeper_events sig None = []
deeper_events sig (Some found) = depth_note found.depth ++ flat_map (variable_events sig) found.values

-- what the first search finds that refutes the goal, of those to the depths from 1 on
abbrev pub IsDeeperShown : SearchBounds → Spec → Goal → List Event → Type 0
IsDeeperShown search spec goal events =
    (found : Option Deepened) × IsDeepened search spec goal found × (events ≡ deeper_events spec.sig found)
