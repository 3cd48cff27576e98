-- The spots of a node by their indices.
use Rattle.std.proofs.Common.{◌≡◌, ℕ, ◌<◌, ◌≤◌, List, Some, ap, sym, ◌∙◌, subst, length}
use Rattle.std.specs.Prelude.{slice_get}
use Rattle.std.proofs.lemmas.Option.{slice_get-get_or}
use Rattle.clause_places.specs.Laws.{PlaceLaws}
use Rattle.clause_places.specs.Spots.{Spot, spots, spot_of_index}
use Rattle.proof_search.specs.declared.at.At.{At}
use Rattle.proof_search.specs.Taking.{IsThere}

module _ (at : At) (listed : at.spots ≡ spots at.here.now) (k : ℕ) where
  -- the spot of an index is that of the list
  pub spot_listed :
      k < length at.spots → slice_get (spots at.here.now) k ≡ Some (spot_of_index at.spots k)
  spot_listed lt = ap (λ ss. slice_get ss k) (sym listed) ∙ slice_get-get_or at.spots k _ lt

  -- and is there
  pub spot_there : PlaceLaws → k < length at.spots → IsThere at k
  spot_there laws lt =
      let found = laws.there at.here.now k (spot_of_index at.spots k) (spot_listed lt) in
      record { listed = lt; place = found.0; term = found.1 }

  -- no spot is left
  pub spots_past : length at.spots ≤ k → length (spots at.here.now) ≤ k
  spots_past le = subst (λ (ss : List Spot). length ss ≤ k) listed le
