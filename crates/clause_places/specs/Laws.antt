-- Laws of places, and of what is asked for.
use Rattle.std.specs.Prelude.{◌≡◌, ℕ, ◌<◌, Contains, Some, option_map, length, slice_get}
use Rattle.spec_core.specs.declared.records.Spec.{Spec}
use Rattle.spec_core.specs.Sig.{Sig}
use Rattle.spec_core.specs.WellSorted.{HasFewArguments}
use Rattle.clause_core.specs.declared.clauses.Clause.{Clause}
use Rattle.clause_core.specs.declared.steps.Place.{Place}
use Rattle.clause_core.specs.Clauses.{ClauseIsSorted}
use Rattle.clause_core.specs.Limits.{IsWithin}
use Rattle.clause_core.specs.Places.{TermAt}
use Rattle.clause_places.specs.Spots.{Spot, spots, places}
use Rattle.clause_places.specs.Asked.{asked}
use Rattle.clause_places.specs.Numbers.{NumbersFit}

pub record PlaceLaws : Type 0 where
  -- the places of a sorted clause within the limits have numbers that fit
  pub numbers_fit :
      (sig : Sig) (c : Clause) → HasFewArguments sig → ClauseIsSorted sig c → IsWithin c →
      NumbersFit c
  -- there are as many places as spots, each the place of its spot, and each has a spot
  pub as_many : (c : Clause) → length (places c) ≡ length (spots c)
  pub of_spot :
      (c : Clause) (k : ℕ) →
      slice_get (places c) k ≡ option_map (λ (s : Spot). s.place) (slice_get (spots c) k)
  pub spot_of :
      (c : Clause) (k : ℕ) (place : Place) → slice_get (places c) k ≡ Some place →
      (s : Spot) × (slice_get (spots c) k ≡ Some s) × (s.place ≡ place)
  -- the place of a spot is there, with the spot's term and no other one
  pub there :
      (c : Clause) (k : ℕ) (s : Spot) → slice_get (spots c) k ≡ Some s →
      (p : TermAt c s.place) × (p.term ≡ s.term)
  pub one_term :
      (c : Clause) (k : ℕ) (s : Spot) → slice_get (spots c) k ≡ Some s →
      (p : TermAt c s.place) → p.term ≡ s.term

-- what a sorted clause asks for is one of its variables
abbrev pub AskedIsVariable : Type 0
AskedIsVariable =
    (spec : Spec) (c : Clause) (v : ℕ) → ClauseIsSorted spec.sig c → Contains (asked spec c) v →
    v < length c.ctx
