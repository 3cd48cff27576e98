-- What a step makes at a node over the nodes so far, with what is asked of its relations.
use Rattle.std.specs.Prelude.{◌≡◌, ℕ, ◌⊎◌, ◌<◌, List, Option, Some, None, length, slice_get}
use Rattle.term_core.specs.Tree.{Tree}
use Rattle.clause_core.specs.declared.answers.Children.{Children}
use Rattle.clause_core.specs.declared.answers.Reference.{Reference}
use Rattle.clause_core.specs.declared.clauses.Relation.TheVariants.{Less, Same}
use Rattle.clause_core.specs.declared.steps.Step.{Step}
use Rattle.descent.specs.SortedChildren.{IsNode}
use Rattle.inference_rules.specs.Answers.{clauses_of}
use Rattle.inference_rules.specs.Nodes.{AreNodes}
use Rattle.clause_core.specs.Places.{TermAt}
use Rattle.clause_core.specs.declared.steps.Place.{Place}
use Rattle.clause_places.specs.Spots.{spots, spot_of_index}
use Rattle.routine_proof.specs.declared.moves.Move.{Move}
use Rattle.routine_proof.specs.Candidates.{Asks, nothing, reference_not_neither, all_less, Meets, Candidate, Gives}
use Rattle.routine_proof.specs.First.{IsFirst}
use Rattle.routine_proof.specs.Routine.{makes}
use Rattle.proof_search.specs.declared.at.Asked.{Asked}
use Rattle.proof_search.specs.declared.at.Asked.TheVariants.{Nothing, ReferenceNotNeither, AllLess}
use Rattle.proof_search.specs.declared.at.At.{At}
use Rattle.proof_search.specs.Building.{IsWhole}
use Rattle.proof_search.specs.Settings.{IsSetting}
use Rattle.proof_search.specs.SideSpines.{listed_spines}

abbrev pub asks_of : Asked → Asks
asks_of Nothing = nothing
asks_of ReferenceNotNeither = reference_not_neither
asks_of AllLess = all_less

abbrev pub IsNotNeither : Reference → Type 0
IsNotNeither r = (r.relation ≡ Less) ⊎ (r.relation ≡ Same)

pub record IsAt (at : At) : Type 0 where
  pub setting : IsSetting at.setting.now
  pub whole : IsWhole at.building.now
  pub in_range : at.number < length at.building.now.block.nodes.items
  pub own : at.nodes.now ≡ at.building.now.block.nodes.items
  pub nodes : AreNodes at.setting.now.spec.now.sig (clauses_of at.nodes.now)
  pub here : slice_get (clauses_of at.nodes.now) at.number ≡ Some at.here.now
  pub node : IsNode at.setting.now.spec.now.sig at.here.now
  pub spots : at.spots ≡ spots at.here.now
  pub premise_spines : at.premise_spines.items ≡ listed_spines at.here.now.premises
  pub conclusion_spines : at.conclusion_spines.items ≡ listed_spines at.here.now.conclusions

-- the place of the spot of this index, and the term there
abbrev pub place_of : At → ℕ → Place
place_of at k = (spot_of_index at.spots k).place

abbrev pub term_of : At → ℕ → Tree
term_of at k = (spot_of_index at.spots k).term

-- there is a spot of this index, and its term is at its place
pub record IsThere (at : At) (k : ℕ) : Type 0 where
  pub listed : k < length at.spots
  pub place : TermAt at.here.now (place_of at k)
  pub term : place.term ≡ term_of at k

-- what the table says at the node
abbrev pub SaysAt : (Tree → Tree → Type 0) → At → Step → Children → Type 0
SaysAt above at =
    makes above at.setting.now.spec.now at.setting.now.lemmas.now (clauses_of at.nodes.now)
    at.here.now

-- the step with what it makes if the relations are those that are asked for, or that it makes
-- nothing such
abbrev pub IsTaken : (Step → Children → Type 0) → Step → Asks → Option Move → Type 0
IsTaken says step asks (Some move) =
    (move.step ≡ step) × says step move.made × Meets asks move.made
IsTaken says step asks None = (made : Children) → says step made → Meets asks made → ⊥

-- what the first of the candidates gives that gives anything at the node
abbrev pub IsFound : (Tree → Tree → Type 0) → At → List Candidate → Option Move → Type 0
IsFound above at candidates found = IsFirst (Gives (SaysAt above at)) candidates found
