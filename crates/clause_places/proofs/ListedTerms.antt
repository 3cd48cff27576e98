-- The terms at the places of a clause, side by side and term by term, and by the list of spots.
use Rattle.std.proofs.Common.{◌≡◌, ℕ, suc, ◌+◌, ◌<◌, List, [], ◌∷◌, ◌++◌, Bool, true, false, Some, refl, ap, sym, ◌∙◌}
use Rattle.std.proofs.Common.{subst, length, map, take, get_or, append_assoc}
use Rattle.std.specs.Prelude.{Result, Ok, Err, OnOk, slice_get, option_map}
use Rattle.std.specs.Borrow.{Bor}
use Rattle.std.specs.List.{flat_map}
use Rattle.std.proofs.lemmas.Grind.{flat_map-append}
use Rattle.std.proofs.lemmas.List.{append-nil, map-append, length-map}
use Rattle.std.proofs.lemmas.Simd.{map-map}
use Rattle.std.proofs.lemmas.Option.{slice_get-map, slice_get-get_or}
use Rattle.term_core.specs.Tree.{Tree, Trees, app, none, some, trees_of, list_of}
use Rattle.term_core.specs.References.{terms_of}
use Rattle.term_core.proofs.Items.{taken_next}
use Rattle.term_core.proofs.Trees.{list_of-trees_of}
use Rattle.spec_core.specs.declared.records.Equation.{Equation}
use Rattle.clause_core.specs.declared.clauses.Clause.{Clause}
use Rattle.clause_core.specs.Clauses.{sides_of, sides}
use Rattle.clause_core.proofs.Sides.{sides_next}
use Rattle.clause_places.specs.Spots.{Spot, paths, argument_paths, side_spots, equation_spots, spots, spot_of_index}
use Rattle.clause_places.specs.Counts.{counts_of}
use Rattle.clause_places.specs.Listed.{subterms}
use Rattle.clause_places.specs.declared.terms.Counts.{Counts}

abbrev pub term_of : Spot → Tree
term_of s = s.term

abbrev term_at : List ℕ × Tree → Tree
term_at p = p.1

in_arguments :
    (n : ℕ) (ts : Trees) → map term_at (argument_paths n ts) ≡ flat_map subterms (list_of ts)
in_arguments n none = refl
in_arguments n (some t ts) =
    let below = λ (p : List ℕ × Tree). let q : List ℕ × Tree = (n ∷ p.0, p.1) in q in
    map-append term_at (map below (paths t)) (argument_paths (suc n) ts)
    ∙ (λ i. map-map term_at below (paths t) i ++ in_arguments (suc n) ts i)

-- those of the arguments of a call, and the call
pub subterms_at :
    (f : ℕ) (ts : Trees) →
    subterms (app f ts) ≡ flat_map subterms (list_of ts) ++ app f ts ∷ []
subterms_at f ts =
    map-append term_at (argument_paths 1 ts) (([], app f ts) ∷ [])
    ∙ ap (λ us. us ++ app f ts ∷ []) (in_arguments 1 ts)

subterms_of_call :
    (f : ℕ) (ts : List Tree) →
    subterms (app f (trees_of ts)) ≡ flat_map subterms ts ++ app f (trees_of ts) ∷ []
subterms_of_call f ts =
    subterms_at f (trees_of ts)
    ∙ ap (λ us. flat_map subterms us ++ app f (trees_of ts) ∷ []) (list_of-trees_of ts)

pub call_added :
    {T E : Type 0} (r : Result T E) (t : Tree) (f : ℕ) (ts us old made new : List Tree) →
    app f (trees_of ts) ≡ t → us ≡ ts → made ≡ old ++ flat_map subterms us →
    OnOk r (new ≡ made ++ t ∷ []) → OnOk r (new ≡ old ++ subterms t)
call_added (Err x) t f ts us old made new is same e h = tt
call_added (Ok x) t f ts us old made new is same e h =
    let there : app f (trees_of us) ≡ t = ap (λ vs. app f (trees_of vs)) same ∙ is in
    let whole : subterms t ≡ flat_map subterms us ++ t ∷ [] =
    subst (λ u. subterms u ≡ flat_map subterms us ++ u ∷ []) there (subterms_of_call f us) in
    h
    ∙ ap (λ ms. ms ++ t ∷ []) e
    ∙ append_assoc old (flat_map subterms us) (t ∷ [])
    ∙ ap (λ ms. old ++ ms) (sym whole)

-- one more equation
pub equation_added :
    (es : List Equation) (k : ℕ) (e : Equation) (old made first more : List Tree) →
    k < length es → e ≡ get_or es k e →
    made ≡ old ++ flat_map subterms (sides_of (take k es)) →
    first ≡ made ++ subterms e.left → more ≡ first ++ subterms e.right →
    more ≡ old ++ flat_map subterms (sides_of (take (k + 1) es))
equation_added es k e old made first more lt is before left right =
    let done : List Tree = flat_map subterms (sides_of (take k es)) in
    let both : List Tree = subterms e.left ++ subterms e.right in
    let all : flat_map subterms (sides_of (take (k + 1) es)) ≡ done ++ both =
    ap (λ ts. flat_map subterms ts) (sides_next es k e lt is)
    ∙ flat_map-append subterms (sides_of (take k es)) (e.left ∷ e.right ∷ [])
    ∙ ap (λ ts. done ++ (subterms e.left ++ ts)) (append-nil (subterms e.right)) in
    right
    ∙ ap (λ ts. ts ++ subterms e.right) left
    ∙ append_assoc made (subterms e.left) (subterms e.right)
    ∙ ap (λ ts. ts ++ both) before
    ∙ append_assoc old done both
    ∙ ap (λ ts. old ++ ts) (sym all)

-- and how many places its sides have
pub counts_added :
    (es : List Equation) (k : ℕ) (e : Equation) (counts more : List Counts) (left right : ℕ) →
    k < length es → e ≡ get_or es k e → counts ≡ map counts_of (take k es) →
    left ≡ length (paths e.left) → right ≡ length (paths e.right) →
    more ≡ counts ++ (record { left = left; right = right }) ∷ [] →
    more ≡ map counts_of (take (k + 1) es)
counts_added es k e counts more left right lt is before many other added =
    let made = λ (n m : ℕ). let c : Counts = record { left = n; right = m } in c in
    let own : made left right ≡ counts_of e = λ i. made (many i) (other i) in
    added
    ∙ (λ i. before i ++ own i ∷ [])
    ∙ sym (map-append counts_of (take k es) (e ∷ []))
    ∙ ap (λ ds. map counts_of ds) (sym (taken_next es k e lt is))

in_side :
    (conclusion : Bool) (n : ℕ) (left : Bool) (t : Tree) →
    map term_of (side_spots conclusion n left t) ≡ subterms t
in_side conclusion n left t =
    map-map term_of
    (λ p. record {
      place = record { conclusion = conclusion; number = n; left = left; path = p.0 };
      term = p.1;
    })
    (paths t)

in_equations :
    (conclusion : Bool) (n : ℕ) (es : List Equation) →
    map term_of (equation_spots conclusion n es) ≡ flat_map subterms (sides_of es)
in_equations conclusion n [] = refl
in_equations conclusion n (e ∷ es) =
    let left : List Spot = side_spots conclusion n true e.left in
    let right : List Spot = side_spots conclusion n false e.right in
    let rest : List Spot = equation_spots conclusion (suc n) es in
    let first = in_side conclusion n true e.left in
    let second = in_side conclusion n false e.right in
    let others = in_equations conclusion (suc n) es in
    map-append term_of left (right ++ rest)
    ∙ ap (λ ts. map term_of left ++ ts) (map-append term_of right rest)
    ∙ (λ i. first i ++ (second i ++ others i))

-- by the sides of a clause
pub by_sides : (c : Clause) → map term_of (spots c) ≡ flat_map subterms (sides c)
by_sides c =
    let first = in_equations false 1 c.premises in
    let second = in_equations true 1 c.conclusions in
    map-append term_of (equation_spots false 1 c.premises) (equation_spots true 1 c.conclusions)
    ∙ (λ i. first i ++ second i)
    ∙ sym (flat_map-append subterms (sides_of c.premises) (sides_of c.conclusions))

-- as many terms as spots, and the term of each spot
module _ (c : Clause) (ts : List Tree) (ss : List Spot) (listed : ts ≡ flat_map subterms (sides c))
    (view : spots c ≡ ss) where
  terms_are : ts ≡ map term_of ss
  terms_are = listed ∙ sym (by_sides c) ∙ ap (λ xs. map term_of xs) view

  pub as_many : length ts ≡ length ss
  as_many = ap (λ (us : List Tree). length us) terms_are ∙ length-map ss term_of

  pub as_many_references : (refs : List (Bor Tree)) → terms_of refs ≡ ts → length refs ≡ length ss
  as_many_references refs are =
      sym (length-map refs (λ (t : Bor Tree). t.now))
      ∙ ap (λ (us : List Tree). length us) are
      ∙ as_many

  pub term_of_spot :
      (k : ℕ) (t : Tree) → k < length ss → slice_get ts k ≡ Some t → t ≡ (spot_of_index ss k).term
  term_of_spot k t lt at =
      let spot = spot_of_index ss k in
      let found : slice_get ss k ≡ Some spot = slice_get-get_or ss k _ lt in
      let there : Some t ≡ Some (term_of spot) =
      sym at
      ∙ ap (λ us. slice_get us k) terms_are
      ∙ slice_get-map term_of ss k
      ∙ ap (λ o. option_map term_of o) found in
      cc
