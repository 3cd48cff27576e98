-- The text of a path of argument numbers, and the word of a place.
use Rattle.std.specs.Prelude.{◌≡◌, ◌≢◌, ◌++◌, ◌+◌, ◌∷◌, ℕ, List, codes, flat_map}
use Rattle.std.specs.List.{AllByRecursion}
use Rattle.std.specs.Fmt.{decimal}
use Rattle.clause_core.specs.declared.steps.Place.{Place}
use Rattle.proof_script.specs.Delimiters.{Stops}
use Rattle.proof_script.specs.Words.{place_text}
use Rattle.proof_script.specs.Standing.{Between, PlaceStands}

-- the bytes are a dot, a number from 1 to 9 and what follows
pub record IsArgumentAt (bytes : List ℕ) (number : ℕ) (rest : List ℕ) : Type 0 where
  pub between : Between 1 9 number
  pub is : bytes ≡ codes "." ++ ((48 + number) ∷ rest)

-- the bytes are a dot and a number from 1 to 9 for each number of the path
pub record IsPath (bytes path : List ℕ) : Type 0 where
  pub between : AllByRecursion (Between 1 9) path
  pub is : bytes ≡ flat_map (λ i. codes "." ++ decimal i) path

-- the bytes up to the first dot, and the others
pub record StandsBeforeDot (bytes first rest : List ℕ) : Type 0 where
  pub is : bytes ≡ first ++ rest
  pub run : AllByRecursion (λ b. b ≢ 46) first
  pub stops : Stops (λ b. b ≢ 46) rest

-- the word is this place, which may appear
pub record IsPlace (word : List ℕ) (p : Place) : Type 0 where
  pub stands : PlaceStands p
  pub is : word ≡ place_text p
