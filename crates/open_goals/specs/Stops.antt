-- The starts of an open goal, with the nodes that are shown of each.
use Rattle.std.specs.Prelude.{◌≡◌, ℕ, List, Contains, length, option_map, option_to_list}
use Rattle.std.specs.List.{AllByRecursion}
use Rattle.term_core.specs.Tree.{Tree}
use Rattle.spec_core.specs.declared.records.Goal.{Goal}
use Rattle.spec_core.specs.declared.records.Spec.{Spec}
use Rattle.clause_core.specs.Tidied.{goal_clause}
use Rattle.clause_places.specs.Asked.{asked}
use Rattle.node_names.specs.Names.{AreNames}
use Rattle.routine_proof.specs.Routine.{Start}
use Rattle.proof_search.specs.declared.stuck.Stuck.{Stuck}
use Rattle.proof_search.specs.Bounding.{IsStart}
use Rattle.proof_search.specs.Stuck.{IsStuckFrom, start_at}
use Rattle.open_goals.specs.declared.near.Near.{Near}
use Rattle.open_goals.specs.declared.near.Source.{Source}
use Rattle.open_goals.specs.declared.near.Source.TheVariants.{Hypothesis, Lemma}
use Rattle.open_goals.specs.declared.stops.OpenStart.{OpenStart}
use Rattle.open_goals.specs.declared.stops.Stop.{Stop}

-- it is the goal itself, or one of the lemmas
abbrev pub IsSource : List ℕ → Source → Type 0
IsSource lemmas Hypothesis = Unit {0}
IsSource lemmas (Lemma number) = Contains lemmas number

abbrev pub IsNear : List ℕ → Near → Type 0
IsNear lemmas near = IsSource lemmas near.source

-- The node as it is shown: there is a name for each variable of its clause. The names are all different,
-- and none of them is that of a symbol. The variable is the one that the clause asks for.
pub record IsStopAt (spec : Spec) (lemmas : List ℕ) (goal : Goal) (stuck : Stuck) (stop : Stop) : Type 0 where
  pub node : stop.stuck ≡ stuck
  pub names : AreNames spec goal stop.names.items
  pub each : length stop.names.items ≡ length stuck.clause.ctx
  pub next : asked spec stuck.clause ≡ option_to_list (option_map (λ v. v.0) stop.next)
  pub near : AllByRecursion (IsNear lemmas) stop.nears.items

module _ (above : Tree → Tree → Type 0) (spec : Spec) (lemmas : List ℕ) (goal : Goal) where
  -- so is a node at which the routine strategy stops from this start
  abbrev pub IsStopFrom : Start → Stop → Type 0
  IsStopFrom start stop =
      (stuck : Stuck) × IsStuckFrom above spec lemmas start (goal_clause goal) stuck
      × IsStopAt spec lemmas goal stuck stop

  abbrev pub IsOpenStart : OpenStart → Type 0
  IsOpenStart s =
      IsStart (goal_clause goal) (start_at s.split)
      × AllByRecursion (IsStopFrom (start_at s.split)) s.stops.items

  abbrev pub AreOpenStarts : List OpenStart → Type 0
  AreOpenStarts starts = AllByRecursion IsOpenStart starts
