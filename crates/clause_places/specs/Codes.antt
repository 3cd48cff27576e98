-- How the logic stores a spot.
use Rattle.std.specs.Prelude.{ℕ, Bool, List, refl}
use Rattle.std.specs.Coded.{Coded, code_by, coded×, coded_bool, coded_list, coded_ℕ}
use Rattle.term_core.specs.Tree.{Tree}
use Rattle.term_core.specs.Codes.{coded_tree}
use Rattle.clause_core.specs.declared.steps.Place.{Place}
use Rattle.clause_places.specs.Spots.{Spot}

-- a place is stored as its parts, the side of an equation before the path
abbrev pub coded_place : Coded Place
coded_place =
    code_by ((Bool × ℕ) × (Bool × List ℕ))
    (coded× (coded× coded_bool coded_ℕ) (coded× coded_bool (coded_list coded_ℕ)))
    (λ p. ((p.conclusion, p.number), (p.left, p.path)))
    (λ q. record {
      conclusion = q.0.0;
      number = q.0.1;
      left = q.1.0;
      path = q.1.1;
    })
    (λ _. refl)

-- a spot as its place and its term
abbrev pub coded_spot : Coded Spot
coded_spot =
    code_by (Place × Tree) (coded× coded_place coded_tree) (λ s. (s.place, s.term))
    (λ q. record { place = q.0; term = q.1 })
    (λ _. refl)
