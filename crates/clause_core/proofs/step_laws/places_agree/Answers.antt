use Rattle.clause_core.proofs.PathsOfPlaces.{term_is_at, term_at, term_is_replaced}
use Rattle.clause_core.proofs.step_laws.places_agree.Goals as goal

pub returns : goal.returns
returns k = λ c place. record {
  stands = term_is_at c place;
  is_there = term_at c place;
  exchanges = term_is_replaced c place;
}
