-- What is shown of the proof that a freer search finds.
use Rattle.std.specs.Prelude.{◌≡◌, ℕ, List, [], ◌∷◌, codes, length}
use Rattle.std.specs.Fmt.{decimal}
use Rattle.term_core.specs.Tree.{Tree}
use Rattle.spec_core.specs.declared.records.Goal.{Goal}
use Rattle.spec_core.specs.declared.records.Spec.{Spec}
use Rattle.page_core.specs.Events.{Event, within}
use Rattle.page_core.specs.declared.parts.Part.TheVariants.{Note}
use Rattle.proof_search.specs.declared.answers.Guided.{Guided}
use Rattle.proof_search.specs.declared.answers.Guided.TheVariants.{Block, Unfinished}
use Rattle.proof_words.specs.ListEvents.{plain}
use Rattle.freer_search.specs.Found.{IsFound}

-- how many nodes the proof has
abbrev pub freer_note : ℕ → List Event
freer_note nodes =
    within Note (plain (codes "a freer search finds a proof (nodes: ") ∷ plain (decimal nodes)
    ∷ plain (codes "); spike-explore report --no-lemmas writes it") ∷ [])

-- that there is a proof, if one is found
abbrev pub freer_events : Guided → List Event
freer_events (Block block) = freer_note (length block.steps)
freer_events Unfinished = []

-- a proof of the goal over these lemmas with at most 2,000 nodes that a freer search finds, or nothing
abbrev pub IsFreerShown : (Tree → Tree → Type 0) → Spec → List ℕ → Goal → List Event → Type 0
IsFreerShown above spec lemmas goal events =
    (found : Guided) × IsFound above spec lemmas goal 2000 found × (events ≡ freer_events found)
