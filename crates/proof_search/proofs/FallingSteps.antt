-- The steps that rewrite a term by a clause, by the sides of its only conclusion. A side that the
-- other one is above rewrites nothing to what is less.
use Rattle.std.proofs.Common.{◌≡◌, zero, suc, List, [], ◌∷◌, ◌++◌, Bool, true, false, not, cond, Option, Some, None}
use Rattle.std.proofs.Common.{inl, inr, ◌⊎◌, refl, ap, sym, ◌∙◌, subst, map, length}
use Rattle.std.specs.Prelude.{slice_get, filter, is_some}
use Rattle.std.proofs.lemmas.List.{append-nil}
use Rattle.term_core.specs.Tree.{Tree, trees_of, instance}
use Rattle.term_core.specs.declared.ids.SortId.{SortId}
use Rattle.substitutions.proofs.Instances.{apply_values, fitting_apply}
use Rattle.substitutions.specs.Fitting.{Fits}
use Rattle.spec_core.specs.Sig.{Sig}
use Rattle.spec_core.specs.Sorts.{Sorted, SortedAll}
use Rattle.spec_core.specs.declared.records.Equation.{Equation}
use Rattle.clause_core.specs.Clauses.{ClauseIsSorted}
use Rattle.clause_core.specs.Places.{side}
use Rattle.clause_core.specs.declared.answers.Children.{Children}
use Rattle.clause_core.specs.declared.clauses.Clause.{Clause}
use Rattle.clause_core.specs.declared.steps.Place.{Place}
use Rattle.clause_core.specs.declared.steps.Step.{Step}
use Rattle.clause_places.specs.Spots.{Spot, spots}
use Rattle.fitting_lists.specs.Answering.{AreVariables}
use Rattle.fitting_lists.specs.Fitting.{has_all, sides_of}
use Rattle.fitting_lists.proofs.Variables.{side_variables}
use Rattle.place_comparison.specs.AtPlaces.{PlaceDecides}
use Rattle.routine_proof.specs.Candidates.{Candidate, Gives, each}
use Rattle.routine_proof.specs.Entries.{by_rewriting}
use Rattle.routine_proof.specs.First.{HasNone, NoneIs, IsFirst}
use Rattle.routine_proof.specs.declared.moves.Move.{Move}
use Rattle.proof_search.specs.declared.at.At.{At}
use Rattle.proof_search.specs.declared.falling_sides.FallingSides.{FallingSides}
use Rattle.proof_search.specs.Falling.{IsReferred, NeverRises}
use Rattle.proof_search.specs.FallingSides.{MayFall, AreFalling, marked}
use Rattle.proof_search.specs.Referring.{Target, rewriting_by, rewritings, rewritings_at, falling_rewriting}
use Rattle.proof_search.specs.Referring.{falling_rewritings}
use Rattle.proof_search.specs.Taking.{IsAt, SaysAt}
use Rattle.proof_search.proofs.LessSteps.{falling, sides_fall}

-- instances by terms of the variables' sorts
module _ (sig : Sig) (to : List SortId) where
  fit :
      (list : List Tree) (ss : List SortId) → SortedAll sig to (trees_of list) ss →
      Fits sig ss to (map (λ (t : Tree). Some t) list)
  fit [] [] p n s at = absurd (let q : ◌≡◌ {A = Option SortId} None (Some s) = at in cc)
  fit [] (r ∷ ss) p n s at = absurd p
  fit (t ∷ ts) [] p n s at = absurd p
  fit (t ∷ ts) (r ∷ ss) p zero s at =
      let q : ◌≡◌ {A = Option SortId} (Some r) (Some s) = at in
      let same : r ≡ s = cc in
      (t, refl, subst (λ (x : SortId). Sorted sig to t x) same p.0)
  fit (t ∷ ts) (r ∷ ss) p (suc n) s at = fit ts ss p.1 n s at

  pub instance_sorted :
      (list : List Tree) (ss : List SortId) → SortedAll sig to (trees_of list) ss →
      (t : Tree) (s : SortId) → Sorted sig ss t s → Sorted sig to (instance list t) s
  instance_sorted list ss p t s q =
      subst (λ (x : Tree). Sorted sig to x s) (apply_values list t)
      (fitting_apply sig ss to (map (λ (t : Tree). Some t) list) t s (fit list ss p) q)

-- items without a result change nothing
module _ {A R : Type 0} (is : A → R → Type 0) where
  behind :
      (xs ys : List A) (found : Option R) → NoneIs is xs → IsFirst is ys found →
      IsFirst is (xs ++ ys) found
  behind [] ys found without first = first
  behind (x ∷ xs) ys (Some r) without first =
      inr (without.0, behind xs ys (Some r) without.1 first)
  behind (x ∷ xs) ys None without first = (without.0, behind xs ys None without.1 first)

  before :
      (xs ys : List A) (found : Option R) → IsFirst is xs found → NoneIs is ys →
      IsFirst is (xs ++ ys) found
  before [] ys (Some r) first without = absurd first
  before [] ys None first without = without
  before (x ∷ xs) ys (Some r) (inl first) without = inl first
  before (x ∷ xs) ys (Some r) (inr first) without =
      inr (first.0, before xs ys (Some r) first.1 without)
  before (x ∷ xs) ys None first without = (first.0, before xs ys None first.1 without)

  -- the first item of two lists
  pub found_in_first :
      (xs ys : List A) (found : Option R) → is_some found ≡ true → IsFirst is xs found →
      IsFirst is (xs ++ ys) found
  found_in_first xs ys None some first = absurd (let q : false ≡ true = some in cc)
  found_in_first [] ys (Some r) some first = absurd first
  found_in_first (x ∷ xs) ys (Some r) some (inl first) = inl first
  found_in_first (x ∷ xs) ys (Some r) some (inr first) =
      inr (first.0, found_in_first xs ys (Some r) some first.1)

  pub found_in_second :
      (xs ys : List A) (one found : Option R) → is_some one ≡ false → IsFirst is xs one →
      IsFirst is ys found → IsFirst is (xs ++ ys) found
  found_in_second xs ys (Some r) found none first second =
      absurd (let q : true ≡ false = none in cc)
  found_in_second xs ys None found none first second = behind xs ys found first second

  -- the items are those that are kept, or none is kept and they have no result
  abbrev KeepsFirst : List A → List A → Type 0
  KeepsFirst kept xs = (kept ≡ xs) ⊎ ((kept ≡ []) × NoneIs is xs)

  both_kept :
      (kept xs more ys : List A) (found : Option R) → KeepsFirst kept xs → KeepsFirst more ys →
      IsFirst is (kept ++ more) found → IsFirst is (xs ++ ys) found
  both_kept kept xs more ys found (inl e) (inl f) first =
      subst (λ (p : List A × List A). IsFirst is (p.0 ++ p.1) found) (λ i. (e i, f i)) first
  both_kept kept xs more ys found (inl e) (inr f) first =
      let same : kept ++ more ≡ xs =
      (λ i. e i ++ f.0 i) ∙ append-nil xs in
      before xs ys found (subst (λ (l : List A). IsFirst is l found) same first) f.1
  both_kept kept xs more ys found (inr e) (inl f) first =
      behind xs ys found e.1
      (subst (λ (p : List A × List A). IsFirst is (p.0 ++ p.1) found) (λ i. (e.0 i, f i)) first)
  both_kept kept xs more ys found (inr e) (inr f) first =
      behind xs ys found e.1
      (before [] ys found
      (subst (λ (p : List A × List A). IsFirst is (p.0 ++ p.1) found) (λ i. (e.0 i, f.0 i)) first)
      f.1)

  -- one item that is there if a test says so
  keeps_one :
      (marked there : Bool) (x : A) → (marked ≡ true → there ≡ true) →
      (marked ≡ false → there ≡ true → HasNone is x) →
      KeepsFirst (cond marked (x ∷ []) []) (cond there (x ∷ []) [])
  keeps_one true true x given none = inl refl
  keeps_one true false x given none =
      absurd (let q : false ≡ true = given refl in cc)
  keeps_one false true x given none = inr (refl, (none refl refl, tt))
  keeps_one false false x given none = inl refl

-- items that are kept by two tests, one by one
kept_both :
    {X Y : Type 0} (f : X → Y) (p q : Bool) (x y : X) →
    map f (cond p (x ∷ cond q (y ∷ []) []) (cond q (y ∷ []) []))
    ≡ cond p (f x ∷ []) [] ++ cond q (f y ∷ []) []
kept_both f true true x y = refl
kept_both f true false x y = refl
kept_both f false true x y = refl
kept_both f false false x y = refl

-- the steps by both sides that have the variables of the clause
pub by_sides :
    (target : Target) (d : Clause) (e : Equation) (s : Spot) → d.conclusions ≡ e ∷ [] →
    rewritings_at target d s
    ≡ cond (has_all d (e.left ∷ [])) (rewriting_by target d s.place s.term true e.left ∷ []) []
    ++ cond (has_all d (e.right ∷ [])) (rewriting_by target d s.place s.term false e.right ∷ []) []
unfolding by_rewriting
by_sides target d e s alone =
    let by : Bool × Tree → Candidate =
    λ (x : Bool × Tree). rewriting_by target d s.place s.term x.0 x.1 in
    ap
    (λ (es : List Equation).
    map by (filter (λ (x : Bool × Tree). has_all d (x.1 ∷ [])) (sides_of es)))
    alone
    ∙ kept_both by (has_all d (e.left ∷ [])) (has_all d (e.right ∷ [])) (true, e.left)
    (false, e.right)

-- a clause with several conclusions, or none, rewrites nothing
none_alone :
    (target : Target) (d : Clause) (s : Spot) →
    ((e : Equation) → d.conclusions ≡ e ∷ [] → ⊥) → rewritings_at target d s ≡ []
unfolding by_rewriting
none_alone target d s several = go d.conclusions several
  where
    go :
        (es : List Equation) → ((e : Equation) → es ≡ e ∷ [] → ⊥) →
        map
        (λ (x : Bool × Tree). rewriting_by target d s.place s.term x.0 x.1)
        (filter (λ (x : Bool × Tree). has_all d (x.1 ∷ [])) (sides_of es))
        ≡ []
    go [] h = refl
    go (e ∷ []) h = absurd (h e refl)
    go (e ∷ f ∷ es) h = refl

none_of_each :
    {A B R : Type 0} (is : B → R → Type 0) (f : A → List B) (xs : List A) →
    ((x : A) → f x ≡ []) → NoneIs is (each xs f)
unfolding each
none_of_each is f [] h = tt
none_of_each {A} {B} is f (x ∷ xs) h =
    subst (λ (ys : List B). NoneIs is (ys ++ each xs f)) (sym (h x)) (none_of_each is f xs h)

pub none_rewrites :
    {R : Type 0} (is : Candidate → R → Type 0) (here : Clause) (target : Target) (d : Clause) →
    ((e : Equation) → d.conclusions ≡ e ∷ [] → ⊥) → NoneIs is (rewritings here target d)
none_rewrites is here target d several =
    none_of_each is (rewritings_at target d) (spots here) (λ s. none_alone target d s several)

module _ (above : Tree → Tree → Type 0) (d : Clause) (sides : FallingSides)
    (may : AreFalling above d sides) (e : Equation) (alone : d.conclusions ≡ e ∷ []) where
  given : (t u : Tree) (mark : Bool) → MayFall above d t u mark → mark ≡ true →
      has_all d (t ∷ []) ≡ true
  given t u true m is = m
  given t u false m is = absurd (let q : false ≡ true = is in cc)

  over : (t u : Tree) (mark : Bool) → MayFall above d t u mark → mark ≡ false →
      has_all d (t ∷ []) ≡ true → above u t
  over t u true m is all = absurd (let q : true ≡ false = is in cc)
  over t u false (inl none) is all = absurd (let q : true ≡ false = sym all ∙ none in cc)
  over t u false (inr m) is all = m

  pub side_given : (left : Bool) → marked left sides ≡ true → has_all d (side left e ∷ []) ≡ true
  side_given left is =
      given (side left e) (side (not left) e) (marked left sides) (may.each left e alone) is

  -- the variables of a side that may fall
  pub falling_variables :
      (sig : Sig) → ClauseIsSorted sig d → (left : Bool) → marked left sides ≡ true →
      AreVariables (length d.ctx) (side left e ∷ [])
  falling_variables sig sorted left is =
      side_variables sig d sorted e alone left (side_given left is)

  module _ (decides : PlaceDecides above) (rises : NeverRises above) (at : At) (is : IsAt at)
      (target : Target) (sorted : ClauseIsSorted at.setting.now.spec.now.sig d)
      (referred : IsReferred at target d) where
    abbrev sig : Sig
    sig = at.setting.now.spec.now.sig

    abbrev says : Step → Children → Type 0
    says = SaysAt above at

    side_sorted : (s : SortId) × ((left : Bool) → Sorted sig d.ctx (side left e) s)
    side_sorted =
        let p = sorted.conclusions 0 e (ap (λ (es : List Equation). slice_get es 0) alone) in
        (p.0, by_side p.0 p.1 p.2)
      where
        by_side :
            (s : SortId) → Sorted sig d.ctx e.left s → Sorted sig d.ctx e.right s →
            (left : Bool) → Sorted sig d.ctx (side left e) s
        by_side s p q true = p
        by_side s p q false = q

    -- a side that the other one is above rewrites nothing
    none_falls :
        (place : Place) (term : Tree) (left : Bool) → above (side (not left) e) (side left e) →
        HasNone (Gives says) (rewriting_by target d place term left (side left e))
    none_falls place term left up = λ move g.
        let list = g.list in
        let fall =
        falling above decides at place list left move.made g.meets target d is referred
        (subst (λ (s : Step). says s move.made) g.step g.defined) in
        let down = sides_fall above decides at place list left move.made g.meets d e alone fall in
        let here = at.here.now.ctx in
        let sort = side_sorted.0 in
        let first : Sorted sig here (instance list (side (not left) e)) sort =
        instance_sorted sig here list d.ctx fall.sorted (side (not left) e) sort
        (side_sorted.1 (not left)) in
        let second : Sorted sig here (instance list (side left e)) sort =
        instance_sorted sig here list d.ctx fall.sorted (side left e) sort (side_sorted.1 left) in
        rises sig here list (side (not left) e) (side left e) sort sort
        is.setting.fine.signature is.setting.fine.arities is.node.sorted.variables first second up
        down

    keeps_side :
        (place : Place) (term : Tree) (left : Bool) →
        KeepsFirst (Gives says) (falling_rewriting target d place term e sides left)
        (cond (has_all d (side left e ∷ []))
        (rewriting_by target d place term left (side left e) ∷ []) [])
    keeps_side place term left =
        keeps_one (Gives says) (marked left sides) (has_all d (side left e ∷ []))
        (rewriting_by target d place term left (side left e)) (side_given left)
        (λ no all. none_falls place term left
        (over (side left e) (side (not left) e) (marked left sides) (may.each left e alone) no all))

    -- the first step by the sides that may fall is the first step at the spot
    pub first_at_spot :
        (s : Spot) (found : Option Move) →
        IsFirst (Gives says) (falling_rewritings target d s.place s.term e sides) found →
        IsFirst (Gives says) (rewritings_at target d s) found
    first_at_spot s found first =
        subst (λ (cs : List Candidate). IsFirst (Gives says) cs found)
        (sym (by_sides target d e s alone))
        (both_kept (Gives says) (falling_rewriting target d s.place s.term e sides true)
        (cond (has_all d (e.left ∷ [])) (rewriting_by target d s.place s.term true e.left ∷ []) [])
        (falling_rewriting target d s.place s.term e sides false)
        (cond (has_all d (e.right ∷ [])) (rewriting_by target d s.place s.term false e.right ∷ [])
        []) found
        (keeps_side s.place s.term true) (keeps_side s.place s.term false) first)
