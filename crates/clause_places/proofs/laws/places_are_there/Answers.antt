use Rattle.clause_places.proofs.NumbersThatFit.{numbers_fit}
use Rattle.clause_places.proofs.PlacesThere.{length-places, slice_get-places, spot_of_place, spot_there, spot_one_term}
use Rattle.clause_places.proofs.laws.places_are_there.Goals as goal

pub returns : goal.returns
returns c = record {
  numbers_fit = numbers_fit;
  as_many = length-places;
  of_spot = slice_get-places;
  spot_of = spot_of_place;
  there = spot_there;
  one_term = spot_one_term;
}
