-- Which equation of a clause leads, and the places of those of nodes.
use Rattle.std.specs.Prelude.{◌≡◌, List, [], ◌∷◌, Option, Some, None, MatchOption, Any}
use Rattle.std.specs.List.{AllZip}
use Rattle.clause_core.specs.declared.clauses.Clause.{Clause}
use Rattle.clause_core.specs.NumberedEquations.{equations}
use Rattle.fitting_lists.specs.declared.leading_equations.LeadingPlace.{LeadingPlace}
use Rattle.fitting_lists.specs.Fitting.{leading}
use Rattle.fitting_lists.specs.Leading.{IsPlace}
use Rattle.inference_rules.specs.declared.nodes.Node.{Node}
use Rattle.proof_search.specs.declared.side_spines.SideSpines.{SideSpines}
use Rattle.proof_search.specs.SideSpines.{side_spines, listed_spines, MayBecomeEither}
use Rattle.proof_search.specs.declared.leading_places.LeadingEquation.{LeadingEquation}

-- the equation leads, and these are its spines
pub record Leads (c : Clause) (e : LeadingEquation) : Type 0 where
  pub leads :
      leading c ≡ record { conclusion = e.conclusion; equation = e.equation.now } ∷ []
  pub spines : e.spines ≡ side_spines e.equation.now

-- the leading equation of the clause, or that it has none
abbrev pub IsLeading : Clause → Option LeadingEquation → Type 0
IsLeading c found = MatchOption found (leading c ≡ []) (Leads c)

-- those of the nodes' clauses, in their order
abbrev pub ArePlaces : List Node → List (Option LeadingPlace) → Type 0
ArePlaces nodes places = AllZip (λ (n : Node) p. IsPlace n.clause p) nodes places

-- the spines that are kept with a place
abbrev pub kept_spines : LeadingPlace → SideSpines
kept_spines place = record { left = place.left; right = place.right }

-- by the spines, the equation at the place may become one of the first clause, of its kind
abbrev pub MayClose : Clause → Option LeadingPlace → Type 0
MayClose here None = ⊥
MayClose here (Some place) =
    Any (MayBecomeEither (kept_spines place)) (listed_spines (equations place.conclusion here))
