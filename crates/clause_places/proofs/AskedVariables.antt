-- What a sorted clause asks for is one of its variables.
use Rattle.std.proofs.Common.{ℕ, suc, ◌<◌, List, [], ◌∷◌, ◌++◌, Bool, true, false, cond, refl, length, map, filter}
use Rattle.std.proofs.Common.{take}
use Rattle.std.specs.Prelude.{Contains}
use Rattle.std.specs.List.{AllByRecursion, flat_map}
use Rattle.std.proofs.lemmas.Option.{slice_get_within}
use Rattle.term_core.specs.Tree.{Tree, Trees, var, app, none, some}
use Rattle.term_core.specs.declared.ids.SortId.{SortId}
use Rattle.term_core.proofs.Items.{all_append}
use Rattle.term_core.proofs.Members.{all_in, in_contained}
use Rattle.spec_core.specs.declared.records.Equation.{Equation}
use Rattle.spec_core.specs.declared.records.Spec.{Spec}
use Rattle.spec_core.specs.Sorts.{Sorted, SortedAll}
use Rattle.spec_core.specs.WellSorted.{EquationsAreSorted}
use Rattle.clause_core.specs.declared.clauses.Clause.{Clause}
use Rattle.clause_core.specs.Clauses.{ClauseIsSorted}
use Rattle.clause_places.specs.Spots.{Spot, paths, argument_paths, side_spots, equation_spots, spots}
use Rattle.clause_places.specs.Asked.{variable_paths, variable_paths_from, looks_at, asked_by, asked}
use Rattle.clause_places.proofs.PlacesThere.{all_map}

module _ {X : Type 0} (P : X → Type 0) where
  all_filter :
      (test : X → Bool) (xs : List X) → AllByRecursion P xs → AllByRecursion P (filter test xs)
  all_filter test [] h = tt
  all_filter test (x ∷ xs) h =
      let rest = all_filter test xs h.1 in
      elim (test x) as (λ b. AllByRecursion P (cond b (x ∷ filter test xs) (filter test xs))) [
        | true ↦ (h.0, rest)
        | false ↦ rest
      ]

  all_flat :
      {Y : Type 0} (f : Y → List X) (ys : List Y) →
      AllByRecursion (λ y. AllByRecursion P (f y)) ys → AllByRecursion P (flat_map f ys)
  all_flat f [] h = tt
  all_flat f (y ∷ ys) h = all_append P (f y) (flat_map f ys) h.0 (all_flat f ys h.1)

  all_first : (xs : List X) → AllByRecursion P xs → AllByRecursion P (take 1 xs)
  all_first [] h = tt
  all_first (x ∷ xs) h = (h.0, tt)

module _ (spec : Spec) (ctx : List SortId) where
  -- the variable has a sort
  abbrev IsBelow : ℕ → Type 0
  IsBelow n = n < length ctx

  abbrev Occurs : List ℕ × ℕ → Type 0
  Occurs p = IsBelow p.1

  abbrev in_argument : ℕ → List ℕ × ℕ → List ℕ × ℕ
  in_argument n p = (n ∷ p.0, p.1)

  -- all variables of the term have
  abbrev AreBelow : Tree → Type 0
  AreBelow t = AllByRecursion Occurs (variable_paths t)

  mutual
    variables_below : (t : Tree) (s : SortId) → Sorted spec.sig ctx t s → AreBelow t
    variables_below (var n) s h = (slice_get_within ctx n s h, tt)
    variables_below (app f ts) s h = all_below 1 ts h.0.args h.3

    all_below :
        (n : ℕ) (ts : Trees) (ss : List SortId) → SortedAll spec.sig ctx ts ss →
        AllByRecursion Occurs (variable_paths_from n ts)
    all_below n none ss h = tt
    all_below n (some t ts) [] h = absurd h
    all_below n (some t ts) (s ∷ ss) h =
        all_append Occurs (map (in_argument n) (variable_paths t)) (variable_paths_from (suc n) ts)
        (all_map Occurs (in_argument n) (variable_paths t) (variables_below t s h.0))
        (all_below (suc n) ts ss h.1)

  -- and all variables of its subterms
  abbrev Stands : List ℕ × Tree → Type 0
  Stands p = AreBelow p.1

  mutual
    paths_below :
        (t : Tree) (s : SortId) → Sorted spec.sig ctx t s → AllByRecursion Stands (paths t)
    paths_below (var n) s h = (variables_below (var n) s h, tt)
    paths_below (app f ts) s h =
        all_append Stands (argument_paths 1 ts) (([], app f ts) ∷ [])
        (arguments_below 1 ts h.0.args h.3)
        (variables_below (app f ts) s h, tt)

    arguments_below :
        (n : ℕ) (ts : Trees) (ss : List SortId) → SortedAll spec.sig ctx ts ss →
        AllByRecursion Stands (argument_paths n ts)
    arguments_below n none ss h = tt
    arguments_below n (some t ts) [] h = absurd h
    arguments_below n (some t ts) (s ∷ ss) h =
        let below = λ (p : List ℕ × Tree). let q : List ℕ × Tree = (n ∷ p.0, p.1) in q in
        all_append Stands (map below (paths t)) (argument_paths (suc n) ts)
        (all_map Stands below (paths t) (paths_below t s h.0))
        (arguments_below (suc n) ts ss h.1)

  asked_below : (t : Tree) → AreBelow t → AllByRecursion IsBelow (asked_by spec t)
  asked_below (var n) h = tt
  asked_below (app f ts) h =
      let variables = variable_paths (app f ts) in
      let looks = λ (p : List ℕ × ℕ). looks_at spec f p.0 in
      all_map IsBelow (λ (p : List ℕ × ℕ). p.1) (filter looks variables)
      (all_filter Occurs looks variables h)

  -- what the spot's term asks for has sorts
  abbrev AsksBelow : Spot → Type 0
  AsksBelow s = AllByRecursion IsBelow (asked_by spec s.term)

  side_below :
      (conclusion : Bool) (n : ℕ) (left : Bool) (t : Tree) (s : SortId) →
      Sorted spec.sig ctx t s → AllByRecursion AsksBelow (side_spots conclusion n left t)
  side_below conclusion n left t s h = go (paths t) (paths_below t s h)
    where
      go :
          (ps : List (List ℕ × Tree)) → AllByRecursion Stands ps →
          AllByRecursion AsksBelow
          (map
          (λ p. record {
            place = record { conclusion = conclusion; number = n; left = left; path = p.0 };
            term = p.1;
          })
          ps)
      go [] k = tt
      go (p ∷ ps) k = (asked_below p.1 k.0, go ps k.1)

  equations_below :
      (conclusion : Bool) (n : ℕ) (es : List Equation) → EquationsAreSorted spec.sig ctx es →
      AllByRecursion AsksBelow (equation_spots conclusion n es)
  equations_below conclusion n [] h = tt
  equations_below conclusion n (e ∷ es) h =
      let left : List Spot = side_spots conclusion n true e.left in
      let right : List Spot = side_spots conclusion n false e.right in
      let rest : List Spot = equation_spots conclusion (suc n) es in
      let here = h 0 e refl in
      all_append AsksBelow left (right ++ rest)
      (side_below conclusion n true e.left here.0 here.1)
      (all_append AsksBelow right rest
      (side_below conclusion n false e.right here.0 here.2)
      (equations_below conclusion (suc n) es (λ k d at. h (suc k) d at)))

pub asked_variable :
    (spec : Spec) (c : Clause) (v : ℕ) → ClauseIsSorted spec.sig c → Contains (asked spec c) v →
    v < length c.ctx
asked_variable spec c v sorted has =
    let below = IsBelow spec c.ctx in
    let asks = λ (s : Spot). asked_by spec s.term in
    let each : AllByRecursion (AsksBelow spec c.ctx) (spots c) =
    all_append (AsksBelow spec c.ctx) (equation_spots false 1 c.premises)
    (equation_spots true 1 c.conclusions)
    (equations_below spec c.ctx false 1 c.premises sorted.premises)
    (equations_below spec c.ctx true 1 c.conclusions sorted.conclusions) in
    all_in below (asked spec c) v
    (all_first below (flat_map asks (spots c)) (all_flat below asks (spots c) each))
    (in_contained (asked spec c) v has)
