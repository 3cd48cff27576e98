-- A walk along places that looks for the one of an index: along lists one after the other, a term,
-- its arguments, a side, and a clause.
use Rattle.std.proofs.Common.{◌≡◌, ℕ, zero, suc, ◌+◌, ◌-◌, ◌<◌, ◌≤◌, List, [], ◌∷◌, ◌++◌, Bool, true, false, Some}
use Rattle.std.proofs.Common.{None, refl, ap, sym, ◌∙◌, subst, arith, length, map, append_assoc}
use Rattle.std.specs.Prelude.{Option, SomeIff, option_map, reverse, slice_get}
use Rattle.std.specs.List.{AllByRecursion}
use Rattle.std.proofs.lemmas.List.{append-nil, length-append, length-map, reverse-append, reverse-reverse}
use Rattle.std.proofs.lemmas.Option.{slice_get-map, slice_get-get_or}
use Rattle.term_core.specs.Tree.{Tree, var, app, trees_of, list_of}
use Rattle.term_core.specs.Measure.{weight, list_weight, list_weight_is}
use Rattle.term_core.proofs.Trees.{list_of-trees_of}
use Rattle.spec_core.specs.declared.records.Equation.{Equation}
use Rattle.clause_core.specs.declared.clauses.Clause.{Clause}
use Rattle.clause_core.specs.declared.steps.Place.{Place}
use Rattle.clause_places.specs.Spots.{Spot, paths, argument_paths, side_spots, equation_spots, spots, spot_of_index}
use Rattle.clause_places.specs.Numbers.{IsNarrow, AreNarrow}
use Rattle.clause_places.specs.Walk.{Finds, Passes}
use Rattle.clause_places.specs.declared.walk.Search.{Search}
use Rattle.clause_places.specs.declared.walk.Search.TheVariants.{Found, Left}

module _ {X : Type 0} where
  -- an item of one of two lists, one after the other
  pub get_before :
      (xs ys : List X) (k : ℕ) (x : X) → slice_get xs k ≡ Some x → slice_get (xs ++ ys) k ≡ Some x
  get_before [] ys k x e = absurd (let q : None ≡ Some x = e in cc)
  get_before (y ∷ xs) ys zero x e = e
  get_before (y ∷ xs) ys (suc k) x e = get_before xs ys k x e

  pub get_behind :
      (xs ys : List X) (k n : ℕ) → k ≡ length xs + n → slice_get (xs ++ ys) k ≡ slice_get ys n
  get_behind [] ys k n e =
      let same : k ≡ n = omega (arith, e) in
      ap (λ m. slice_get ys m) same
  get_behind (x ∷ xs) ys zero n e = absurd (omega (arith, e))
  get_behind (x ∷ xs) ys (suc k) n e = get_behind xs ys k n (omega (arith, e))

-- of lists of spots
pub finds_before :
    (ss more : List Spot) (k : ℕ) (place : Place) → Finds ss k (Found place) →
    Finds (ss ++ more) k (Found place)
finds_before ss more k place h = (h.0, get_before ss more k h.0 h.1, h.2)

pub finds_behind :
    (ss more : List Spot) (k n : ℕ) (r : Search) → k ≡ length ss + n → Finds more n r →
    Finds (ss ++ more) k r
finds_behind ss more k n (Found place) e h =
    (h.0, get_behind ss more k n e ∙ h.1, h.2)
finds_behind ss more k n (Left left) e h =
    omega (arith, e, h, length-append ss more)

-- of lists of paths
module _ (old new : List ℕ) where
  pub passes_before :
      (ps more : List (List ℕ × Tree)) (k : ℕ) → Passes ps k old new None →
      Passes (ps ++ more) k old new None
  passes_before ps more k h = (h.0, get_before ps more k h.0 h.1, h.2)

  pub passes_behind :
      (ps more : List (List ℕ × Tree)) (k n : ℕ) (r : Option ℕ) → k ≡ length ps + n →
      Passes more n old new r → Passes (ps ++ more) k old new r
  passes_behind ps more k n None e h = (h.0, get_behind ps more k n e ∙ h.1, h.2)
  passes_behind ps more k n (Some left) e h =
      (omega (arith, e, h.0, length-append ps more), h.1)

-- a path with its term, as an argument with this number
abbrev in_argument : ℕ → List ℕ × Tree → List ℕ × Tree
in_argument n p = (n ∷ p.0, p.1)

-- the path of the index is one of an argument, whose number comes last
pub passes_in_argument :
    (n : ℕ) (old below new : List ℕ) (ps more : List (List ℕ × Tree)) (k : ℕ) →
    new ≡ below ++ n ∷ [] → Passes ps k old below None →
    Passes (map (in_argument n) ps ++ more) k old new None
passes_in_argument n old below new ps more k there h =
    let at : slice_get (map (in_argument n) ps) k ≡ Some (in_argument n h.0) =
    slice_get-map (in_argument n) ps k ∙ ap (λ o. option_map (in_argument n) o) h.1 in
    let path : new ≡ old ++ reverse (n ∷ h.0.0) =
    there
    ∙ ap (λ q. q ++ n ∷ []) h.2
    ∙ append_assoc old (reverse h.0.0) (n ∷ [])
    ∙ ap (λ q. old ++ q) (sym (reverse-append (n ∷ []) h.0.0)) in
    passes_before old new (map (in_argument n) ps) more k (in_argument n h.0, at, path)

-- the arguments after one that is passed
pub passes_next :
    (n : ℕ) (old new : List ℕ) (ps more : List (List ℕ × Tree)) (k left : ℕ) (r : Option ℕ) →
    k ≡ length ps + left → Passes more left old new r →
    Passes (map (in_argument n) ps ++ more) k old new r
passes_next n old new ps more k left r e h =
    passes_behind old new (map (in_argument n) ps) more k left r
    (omega (arith, e, length-map ps (in_argument n))) h

-- a walk along a term: its own path is the last one
here :
    (t : Tree) (k : ℕ) (old new : List ℕ) (r : Option ℕ) → new ≡ old →
    SomeIff r (1 ≤ k) (k - 1) → Passes (([], t) ∷ []) k old new r
here t zero old new None e h = (([], t), refl, e ∙ sym (append-nil old))
here t (suc k) old new None e h = absurd (h (omega arith))
here t k old new (Some left) e h = (omega (arith, h.0, h.1), e)

pub passes_variable :
    (t : Tree) (v k : ℕ) (path : List ℕ) (r : Option ℕ) → var v ≡ t →
    SomeIff r (1 ≤ k) (k - 1) → Passes (paths t) k path path r
passes_variable t v k path r is h =
    subst (λ u. Passes (paths u) k path path r) is (here (var v) k path path r refl h)

module _ (t : Tree) (f : ℕ) (ts us : List Tree) (is : app f (trees_of ts) ≡ t) (same : us ≡ ts)
    (k : ℕ) (old new : List ℕ) where
  whole : app f (trees_of us) ≡ t
  whole = ap (λ vs. app f (trees_of vs)) same ∙ is

  pub passes_call :
      (left : ℕ) (r : Option ℕ) → Passes (argument_paths 1 (trees_of us)) k old new (Some left) →
      SomeIff r (1 ≤ left) (left - 1) → Passes (paths t) k old new r
  passes_call left r h last =
      let call : Tree = app f (trees_of us) in
      subst (λ u. Passes (paths u) k old new r) whole
      (passes_behind old new (argument_paths 1 (trees_of us)) (([], call) ∷ []) k left r h.0
      (here call left old new r h.1 last))

  pub found_in_call :
      Passes (argument_paths 1 (trees_of us)) k old new None → Passes (paths t) k old new None
  found_in_call h =
      let call : Tree = app f (trees_of us) in
      subst (λ u. Passes (paths u) k old new None) whole
      (passes_before old new (argument_paths 1 (trees_of us)) (([], call) ∷ []) k h)

-- a walk along arguments
module _ (n : ℕ) (t : Tree) (ts us : List Tree) (first : ts ≡ t ∷ us) (k : ℕ) (old : List ℕ) where
  pub found_in_argument :
      (below new : List ℕ) → new ≡ below ++ n ∷ [] → Passes (paths t) k old below None →
      Passes (argument_paths n (trees_of ts)) k old new None
  found_in_argument below new there h =
      subst (λ vs. Passes (argument_paths n (trees_of vs)) k old new None) (sym first)
      (passes_in_argument n old below new (paths t) (argument_paths (suc n) (trees_of us)) k there
      h)

  pub passes_arguments :
      (base new : List ℕ) (left : ℕ) (r : Option ℕ) → k ≡ length (paths t) + left → base ≡ old →
      Passes (argument_paths (n + 1) (trees_of us)) left base new r →
      Passes (argument_paths n (trees_of ts)) k old new r
  passes_arguments base new left r e same h =
      let next : n + 1 ≡ suc n = omega arith in
      let rest : Passes (argument_paths (suc n) (trees_of us)) left old new r =
      subst (λ m. Passes (argument_paths m (trees_of us)) left old new r) next
      (subst (λ path. Passes (argument_paths (n + 1) (trees_of us)) left path new r) same h) in
      subst (λ vs. Passes (argument_paths n (trees_of vs)) k old new r) (sym first)
      (passes_next n old new (paths t) (argument_paths (suc n) (trees_of us)) k left r e rest)

-- a walk along a side
pub found_in_side :
    (conclusion : Bool) (number : ℕ) (left : Bool) (t : Tree) (k : ℕ) (empty new path : List ℕ) →
    empty ≡ [] → path ≡ reverse new → Passes (paths t) k empty new None →
    Finds (side_spots conclusion number left t) k
    (Found (record { conclusion = conclusion; number = number; left = left; path = path }))
found_in_side conclusion number left t k empty new path none is h =
    let place = λ (q : List ℕ).
    let made : Place =
    record { conclusion = conclusion; number = number; left = left; path = q } in made in
    let spot = λ (p : List ℕ × Tree).
    let made : Spot = record { place = place p.0; term = p.1 } in made in
    let at : slice_get (map spot (paths t)) k ≡ Some (spot h.0) =
    slice_get-map spot (paths t) k ∙ ap (λ o. option_map spot o) h.1 in
    let turned : new ≡ reverse h.0.0 = h.2 ∙ ap (λ q. q ++ reverse h.0.0) none in
    let same : path ≡ h.0.0 = is ∙ ap (λ q. reverse q) turned ∙ reverse-reverse h.0.0 in
    (spot h.0, at, ap place same)

-- a walk along a clause
module _ (c : Clause) (ss : List Spot) (view : spots c ≡ ss) (k : ℕ) (lt : k < length ss)
    (place : Place) where
  found_in_clause : Finds (spots c) k (Found place) → place ≡ (spot_of_index ss k).place
  found_in_clause h =
      let spot = spot_of_index ss k in
      let there : Some h.0 ≡ Some spot =
      sym h.1 ∙ ap (λ xs. slice_get xs k) view ∙ slice_get-get_or ss k _ lt in
      let same : h.0 ≡ spot = cc in
      h.2 ∙ ap (λ (s : Spot). s.place) same

  pub found_in_premises :
      (es : List Equation) → es ≡ c.premises →
      Finds (equation_spots false 1 es) k (Found place) → place ≡ (spot_of_index ss k).place
  found_in_premises es are h =
      found_in_clause
      (finds_before (equation_spots false 1 c.premises) (equation_spots true 1 c.conclusions) k
      place
      (subst (λ ds. Finds (equation_spots false 1 ds) k (Found place)) are h))

  pub found_in_conclusions :
      (es ds : List Equation) (left : ℕ) → es ≡ c.premises → ds ≡ c.conclusions →
      Finds (equation_spots false 1 es) k (Left left) →
      Finds (equation_spots true 1 ds) left (Found place) → place ≡ (spot_of_index ss k).place
  found_in_conclusions es ds left first second passed h =
      found_in_clause
      (finds_behind (equation_spots false 1 c.premises) (equation_spots true 1 c.conclusions) k left
      (Found place) (subst (λ bs. Finds (equation_spots false 1 bs) k (Left left)) first passed)
      (subst (λ bs. Finds (equation_spots true 1 bs) left (Found place)) second h))

-- what is narrow in a narrow term
pub narrow_arguments :
    (t : Tree) (f : ℕ) (ts us : List Tree) → IsNarrow t → app f (trees_of ts) ≡ t → us ≡ ts →
    (length us ≤ 8) × AreNarrow (trees_of us)
narrow_arguments t f ts us n e same =
    let narrow : IsNarrow (app f (trees_of ts)) = subst IsNarrow (sym e) n in
    let as_many : length (list_of (trees_of ts)) ≡ length ts =
    ap (λ (l : List Tree). length l) (list_of-trees_of ts) in
    rw same (omega (arith, narrow.0, as_many), narrow.1)

pub narrow_parts :
    (ts us : List Tree) → AllByRecursion IsNarrow (ts ++ us) →
    AllByRecursion IsNarrow ts × AllByRecursion IsNarrow us
narrow_parts [] us n = (tt, n)
narrow_parts (t ∷ ts) us n =
    let parts = narrow_parts ts us n.1 in
    ((n.0, parts.0), parts.1)

-- arguments weigh less than their call
pub lighter_arguments :
    (t : Tree) (f : ℕ) (ts us : List Tree) → app f (trees_of ts) ≡ t → us ≡ ts →
    list_weight us < weight t
lighter_arguments t f ts us e same =
    subst (λ x. list_weight us < weight x) e (rw same (omega (arith, list_weight_is ts)))
