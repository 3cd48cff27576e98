-- The place of each spot is there, with the spot's term.
use Rattle.std.proofs.Common.{◌≡◌, ℕ, suc, ◌+◌, List, [], ◌∷◌, ◌++◌, Bool, true, false, Some, None, refl, sym, ◌∙◌}
use Rattle.std.proofs.Common.{subst, arith, length, map, append_assoc}
use Rattle.std.specs.Prelude.{Option, MatchOption, slice_get, option_map}
use Rattle.std.specs.Borrow.{Bor}
use Rattle.std.specs.List.{AllByRecursion}
use Rattle.std.proofs.lemmas.List.{length-append, length-map}
use Rattle.std.proofs.lemmas.Option.{slice_get-map}
use Rattle.term_core.specs.Tree.{Tree, Trees, var, app, none, some, list_of}
use Rattle.term_core.specs.Places.{IsArgument, IsAt}
use Rattle.term_core.proofs.Items.{all_at, all_append}
use Rattle.spec_core.specs.declared.records.Equation.{Equation}
use Rattle.clause_core.specs.declared.clauses.Clause.{Clause}
use Rattle.clause_core.specs.declared.steps.Place.{Place}
use Rattle.clause_core.specs.NumberedEquations.{EquationAt, equations}
use Rattle.clause_core.specs.Places.{TermAt, side}
use Rattle.clause_core.proofs.PathsOfPlaces.{term_at}
use Rattle.clause_core.proofs.OnePlace.{term_one}
use Rattle.clause_places.specs.Spots.{Spot, paths, argument_paths, side_spots, equation_spots, spots, places}

-- what holds of each image holds of each item of the list of images
pub all_map :
    {X Y : Type 0} (P : Y → Type 0) (f : X → Y) (xs : List X) →
    AllByRecursion (λ x. P (f x)) xs → AllByRecursion P (map f xs)
all_map P f [] h = tt
all_map P f (x ∷ xs) h = (h.0, all_map P f xs h.1)

all_more :
    {X : Type 0} (P Q : X → Type 0) (xs : List X) → ((x : X) → P x → Q x) →
    AllByRecursion P xs → AllByRecursion Q xs
all_more P Q [] f h = tt
all_more P Q (x ∷ xs) f h = (f x h.0, all_more P Q xs f h.1)

-- the term of a path is at it
abbrev Stands : Tree → List ℕ × Tree → Type 0
Stands t p = IsAt p.0 t p.1

abbrev in_argument : ℕ → List ℕ × Tree → List ℕ × Tree
in_argument n p = (n ∷ p.0, p.1)

mutual
  paths_there : (t : Tree) → AllByRecursion (Stands t) (paths t)
  paths_there (var n) = (refl, tt)
  paths_there (app f ts) =
      all_append (Stands (app f ts)) (argument_paths 1 ts) (([], app f ts) ∷ [])
      (arguments_there f ts 0 ts (λ j u at. (j, omega arith, at)))
      (refl, tt)

  -- where the terms are the arguments from one on
  arguments_there :
      (f : ℕ) (all : Trees) (k : ℕ) (ts : Trees) →
      ((j : ℕ) (u : Tree) → slice_get (list_of ts) j ≡ Some u → IsArgument (suc k + j) all u) →
      AllByRecursion (Stands (app f all)) (argument_paths (suc k) ts)
  arguments_there f all k none h = tt
  arguments_there f all k (some t ts) h =
      let first : suc k + 0 ≡ suc k = omega arith in
      let here : IsArgument (suc k) all t = subst (λ n. IsArgument n all t) first (h 0 t refl) in
      let below = λ (p : List ℕ × Tree). Stands (app f all) (in_argument (suc k) p) in
      all_append (Stands (app f all)) (map (in_argument (suc k)) (paths t))
      (argument_paths (suc (suc k)) ts)
      (all_map (Stands (app f all)) (in_argument (suc k)) (paths t)
      (all_more (Stands t) below (paths t) (λ p at. (t, here, at)) (paths_there t)))
      (arguments_there f all (suc k) ts (λ j u at.
      let next : suc k + suc j ≡ suc (suc k) + j = omega arith in
      subst (λ n. IsArgument n all u) next (h (suc j) u at)))

-- the place of the spot is there, with its term
abbrev pub IsThere : Clause → Spot → Type 0
IsThere c s = (p : TermAt c s.place) × (p.term ≡ s.term)

module _ (c : Clause) (conclusion : Bool) where
  abbrev place : ℕ → Bool → List ℕ → Place
  place n left path =
      record { conclusion = conclusion; number = n; left = left; path = path }

  abbrev spot : ℕ → Bool → List ℕ × Tree → Spot
  spot n left p = record { place = place n left p.0; term = p.1 }

  side_there :
      (n : ℕ) (left : Bool) (at : EquationAt (equations conclusion c) n) →
      AllByRecursion (IsThere c) (side_spots conclusion n left (side left at.equation))
  side_there n left at =
      let t = side left at.equation in
      let there : (p : List ℕ × Tree) → Stands t p → IsThere c (spot n left p) =
      λ p stands.
      let found = term_at c (place n left p.0) at p.1 stands in
      (found.0, found.2) in
      all_map (IsThere c) (spot n left) (paths t)
      (all_more (Stands t) (λ p. IsThere c (spot n left p)) (paths t) there (paths_there t))

  -- where the equations are those after some others
  equations_there :
      (before es : List Equation) (n : ℕ) → equations conclusion c ≡ before ++ es →
      n ≡ length before + 1 → AllByRecursion (IsThere c) (equation_spots conclusion n es)
  equations_there before [] n is number = tt
  equations_there before (e ∷ es) n is number =
      let at : EquationAt (equations conclusion c) n =
      record { before = before; equation = e; after = es; is = is; place = number } in
      let left : List Spot = side_spots conclusion n true e.left in
      let right : List Spot = side_spots conclusion n false e.right in
      let rest : List Spot = equation_spots conclusion (suc n) es in
      let next : suc n ≡ length (before ++ e ∷ []) + 1 =
      omega (arith, number, length-append before (e ∷ [])) in
      all_append (IsThere c) left (right ++ rest)
      (side_there n true at)
      (all_append (IsThere c) right rest
      (side_there n false at)
      (equations_there (before ++ e ∷ []) es (suc n)
      (is ∙ sym (append_assoc before (e ∷ []) es)) next))

pub spots_there : (c : Clause) → AllByRecursion (IsThere c) (spots c)
spots_there c =
    all_append (IsThere c) (equation_spots false 1 c.premises) (equation_spots true 1 c.conclusions)
    (equations_there c false [] c.premises 1 refl refl)
    (equations_there c true [] c.conclusions 1 refl refl)

pub spot_there :
    (c : Clause) (k : ℕ) (s : Spot) → slice_get (spots c) k ≡ Some s →
    (p : TermAt c s.place) × (p.term ≡ s.term)
spot_there c k s at = all_at (IsThere c) (spots c) (spots_there c) k s at

-- and with no other one
pub spot_one_term :
    (c : Clause) (k : ℕ) (s : Spot) → slice_get (spots c) k ≡ Some s → (p : TermAt c s.place) →
    p.term ≡ s.term
spot_one_term c k s at p =
    let there = spot_there c k s at in
    (term_one c s.place p there.0).0 ∙ there.1

-- the term that a look at the spot's place answers
pub spot_looked_up :
    (c : Clause) (k : ℕ) (s : Spot) (o : Option (Bor Tree)) → slice_get (spots c) k ≡ Some s →
    MatchOption o (TermAt c s.place → ⊥) (λ t. (p : TermAt c s.place) × (p.term ≡ t.now)) →
    (t : Bor Tree) × (o ≡ Some t) × (t.now ≡ s.term)
spot_looked_up c k s None at nowhere = absurd (nowhere (spot_there c k s at).0)
spot_looked_up c k s (Some t) at found =
    (t, refl, sym found.1 ∙ spot_one_term c k s at found.0)

image_of :
    {X Y : Type 0} (f : X → Y) (o : Option X) (y : Y) → option_map f o ≡ Some y →
    (x : X) × (o ≡ Some x) × (f x ≡ y)
image_of f None y e = absurd (let q : None ≡ Some y = e in cc)
image_of f (Some x) y e =
    let q : Some (f x) ≡ Some y = e in
    let same : f x ≡ y = cc in
    (x, refl, same)

-- the places, by the spots
abbrev place_of : Spot → Place
place_of s = s.place

pub length-places : (c : Clause) → length (places c) ≡ length (spots c)
length-places c = length-map (spots c) place_of

pub slice_get-places :
    (c : Clause) (k : ℕ) →
    slice_get (places c) k ≡ option_map (λ (s : Spot). s.place) (slice_get (spots c) k)
slice_get-places c k = slice_get-map place_of (spots c) k

pub spot_of_place :
    (c : Clause) (k : ℕ) (p : Place) → slice_get (places c) k ≡ Some p →
    (s : Spot) × (slice_get (spots c) k ≡ Some s) × (s.place ≡ p)
spot_of_place c k p at =
    image_of place_of (slice_get (spots c) k) p (sym (slice_get-places c k) ∙ at)
