-- What is asked for in a call, in a list of terms, and in a clause by its sides.
use Rattle.std.proofs.Common.{◌≡◌, ℕ, suc, List, [], ◌∷◌, ◌++◌, Bool, true, false, refl, ap, ◌∙◌, map}
use Rattle.std.specs.List.{flat_map}
use Rattle.std.proofs.lemmas.Grind.{flat_map-append}
use Rattle.std.proofs.lemmas.List.{append-nil}
use Rattle.std.proofs.lemmas.List.Folds.{flat_map-map}
use Rattle.term_core.specs.Tree.{Tree, Trees, app, none, some, trees_of, list_of}
use Rattle.term_core.proofs.Trees.{list_of-trees_of}
use Rattle.spec_core.specs.declared.records.Equation.{Equation}
use Rattle.spec_core.specs.declared.records.Spec.{Spec}
use Rattle.clause_core.specs.declared.clauses.Clause.{Clause}
use Rattle.clause_core.specs.Clauses.{sides_of}
use Rattle.clause_places.specs.Spots.{Spot, paths, argument_paths, side_spots, equation_spots, spots}
use Rattle.clause_places.specs.Asked.{asked_by}
use Rattle.clause_places.specs.Demand.{asked_in, asked_among}

module _ (spec : Spec) where
  -- what is asked for at a path, and at a spot
  abbrev at_path : List ℕ × Tree → List ℕ
  at_path p = asked_by spec p.1

  abbrev at_spot : Spot → List ℕ
  at_spot s = asked_by spec s.term

  in_arguments :
      (n : ℕ) (ts : Trees) → flat_map at_path (argument_paths n ts) ≡ asked_among spec (list_of ts)
  in_arguments n none = refl
  in_arguments n (some t ts) =
      let below = λ (p : List ℕ × Tree). let q : List ℕ × Tree = (n ∷ p.0, p.1) in q in
      flat_map-append at_path (map below (paths t)) (argument_paths (suc n) ts)
      ∙ (λ i. flat_map-map at_path below (paths t) i ++ in_arguments (suc n) ts i)

  -- the calls in the arguments ask before the call itself
  pub asked_in_call :
      (f : ℕ) (ts : List Tree) →
      asked_in spec (app f (trees_of ts))
      ≡ asked_among spec ts ++ asked_by spec (app f (trees_of ts))
  asked_in_call f ts =
      let call : Tree = app f (trees_of ts) in
      let arguments : flat_map at_path (argument_paths 1 (trees_of ts)) ≡ asked_among spec ts =
      in_arguments 1 (trees_of ts) ∙ ap (asked_among spec) (list_of-trees_of ts) in
      flat_map-append at_path (argument_paths 1 (trees_of ts)) (([], call) ∷ [])
      ∙ (λ i. arguments i ++ append-nil (asked_by spec call) i)

  -- the spots of a side ask for what its calls ask
  in_side :
      (conclusion : Bool) (n : ℕ) (left : Bool) (t : Tree) →
      flat_map at_spot (side_spots conclusion n left t) ≡ asked_in spec t
  in_side conclusion n left t =
      flat_map-map at_spot
      (λ p. record {
        place = record { conclusion = conclusion; number = n; left = left; path = p.0 };
        term = p.1;
      })
      (paths t)

  in_equations :
      (conclusion : Bool) (n : ℕ) (es : List Equation) →
      flat_map at_spot (equation_spots conclusion n es) ≡ asked_among spec (sides_of es)
  in_equations conclusion n [] = refl
  in_equations conclusion n (e ∷ es) =
      let left : List Spot = side_spots conclusion n true e.left in
      let right : List Spot = side_spots conclusion n false e.right in
      let rest : List Spot = equation_spots conclusion (suc n) es in
      let first = in_side conclusion n true e.left in
      let second = in_side conclusion n false e.right in
      let others = in_equations conclusion (suc n) es in
      flat_map-append at_spot left (right ++ rest)
      ∙ ap (λ ns. flat_map at_spot left ++ ns) (flat_map-append at_spot right rest)
      ∙ (λ i. first i ++ (second i ++ others i))

  -- what is asked for in a clause, by its sides
  pub asked_by_sides :
      (c : Clause) →
      flat_map at_spot (spots c)
      ≡ asked_among spec (sides_of c.premises) ++ asked_among spec (sides_of c.conclusions)
  asked_by_sides c =
      let first = in_equations false 1 c.premises in
      let second = in_equations true 1 c.conclusions in
      flat_map-append at_spot (equation_spots false 1 c.premises)
      (equation_spots true 1 c.conclusions)
      ∙ (λ i. first i ++ second i)
