-- What the steps that replace a term by an equation say of small clauses.
use Rattle.std.proofs.Common.{◌≡◌, ◌≢◌, ℕ, List, [], ◌∷◌, ◌++◌, false, inl, inr, refl, ap, sym, ◌∙◌, subst, arith}
use Rattle.std.specs.Prelude.{Contains, IsPermutation}
use Rattle.std.proofs.lemmas.List.Sorted.{IsPermutation-refl, IsPermutation-append_comm}
use Rattle.term_core.specs.Tree.{Tree, var, app, none, some}
use Rattle.term_core.specs.Contexts.{hole, under}
use Rattle.term_core.proofs.Members.{In, in_contained}
use Rattle.spec_core.specs.declared.records.Equation.{Equation}
use Rattle.spec_core.specs.Naturals.{zero_term, succ_term, plus_term}
use Rattle.sample_specs.specs.SumOrder.{AboveInSums}
use Rattle.clause_core.specs.Multisets.{Exceeds}
use Rattle.clause_core.specs.Limits.{IsWithin}
use Rattle.clause_core.specs.Places.{TermAt}
use Rattle.clause_core.specs.Replacing.{Rewrites}
use Rattle.clause_core.specs.ExampleClauses.{one, unit_of, unit_clause}
use Rattle.clause_core.specs.ClosingExamples.{unit_where_zero}
use Rattle.clause_core.specs.ReplacingExamples.{ReplacingExamples, succ_sides, succ_clause, first_argument}
use Rattle.clause_core.proofs.SmallPlaces.{first}
use Rattle.clause_core.proofs.ClosingSteps.{unit_usable, no_premise, where_zero_within}

-- one greater term in the place of one
exceeds_one : (common : List Tree) (xs ys : List Tree) (a b : Tree) → IsPermutation xs (common ++ (a ∷ [])) →
    IsPermutation ys (common ++ (b ∷ [])) → a ≢ b → AboveInSums a b → Exceeds AboveInSums xs ys
exceeds_one common xs ys a b p q d above = record {
  rest = a ∷ [];
  other = b ∷ [];
  rests = record {
    common = common;
    of_first = p;
    of_second = q;
    apart = λ x i j. different x
        (in_contained (a ∷ []) x i) (in_contained (b ∷ []) x j);
  };
  not_empty = omega arith;
  has_greater = λ y j. (a, (0, omega arith, refl), greater y (in_contained (b ∷ []) y j));
}
  where
    different : (x : Tree) → In x (a ∷ []) → In x (b ∷ []) → ⊥
    different x (inl e) (inl f) = d (sym e ∙ f)
    different x (inl e) (inr f) = f
    different x (inr e) f = e

    greater : (y : Tree) → In y (b ∷ []) → AboveInSums a y
    greater y (inl e) = subst (λ z. AboveInSums a z) (sym e) above
    greater y (inr e) = absurd e

abbrev sum : Tree
sum = plus_term (var 0) zero_term

succ_not : succ_term sum ≢ succ_term (var 0)
succ_not e = let q : app 3 (some (app 4 (some (var 0) (some zero_term none))) none) ≡ app 3
    (some (var 0) none) = e in cc

succ_above : AboveInSums (succ_term sum) (succ_term (var 0))
succ_above = λ env. omega arith

-- succ(plus(?0, zero)) and succ(?0) are greater than plus(?0, zero) and ?0
behind : Exceeds AboveInSums (succ_term sum ∷ succ_term (var 0) ∷ []) (sum ∷ var 0 ∷ [])
behind = record {
  rest = succ_term sum ∷ succ_term (var 0) ∷ [];
  other = sum ∷ var 0 ∷ [];
  rests = record {
    common = [];
    of_first = IsPermutation-refl _;
    of_second = IsPermutation-refl _;
    apart = λ x i
        j. different x (in_contained (succ_term sum ∷ succ_term (var 0) ∷ []) x i)
        (in_contained (sum ∷ var 0 ∷ []) x j);
  };
  not_empty = omega arith;
  has_greater = λ y j. greater y (in_contained (sum ∷ var 0 ∷ []) y j);
}
  where
    different : (x : Tree) → In x (succ_term sum ∷ succ_term (var 0) ∷ []) → In x (sum ∷ var 0 ∷ []) → ⊥
    different x (inl e) (inl f) = let q : succ_term sum ≡ sum = sym e ∙ f in let k : ◌≡◌ {A = ℕ} 3 4 = cc in omega arith
    different x (inl e) (inr (inl f)) = let q : succ_term sum ≡ var 0 = sym e ∙ f in cc
    different x (inl e) (inr (inr f)) = f
    different x (inr (inl e)) (inl f) = let q : succ_term (var 0) ≡ sum = sym e ∙ f in
        let k : ◌≡◌ {A = ℕ} 3 4 = cc in omega arith
    different x (inr (inl e)) (inr (inl f)) = let q : succ_term (var 0) ≡ var 0 = sym e ∙ f in cc
    different x (inr (inl e)) (inr (inr f)) = f
    different x (inr (inr e)) f = e

    greater : (y : Tree) → In y (sum ∷ var 0 ∷ []) → (x : Tree) × Contains (succ_term sum ∷ succ_term (var 0) ∷ [])
        x × AboveInSums x y
    greater y (inl e) = (
      succ_term sum,
      (0, omega arith, refl),
      subst (λ z. AboveInSums (succ_term sum) z) (sym e) (λ env. omega arith),
    )
    greater y (inr (inl e)) = (
      succ_term (var 0),
      (1, omega arith, refl),
      subst (λ z. AboveInSums (succ_term (var 0)) z) (sym e) (λ env. omega arith),
    )
    greater y (inr (inr e)) = absurd e

-- the place is plus(?0, zero) under succ
abbrev inner : (premises : List Equation) →
    TermAt (record { ctx = one; premises = premises; conclusions = succ_sides ∷ [] }) first_argument
inner premises = record { at = first succ_sides []; round = under 3 none hole none; term = sum; is = refl; path = refl }

-- plus(?0, zero) is exchanged for ?0 beside these sides
abbrev others : List Tree
others = var 0 ∷ succ_term sum ∷ succ_term (var 0) ∷ []

less_sum : Exceeds AboveInSums (sum ∷ var 0 ∷ succ_term sum ∷ succ_term (var 0) ∷ [])
    (var 0 ∷ var 0 ∷ succ_term sum ∷ succ_term (var 0) ∷ [])
less_sum = exceeds_one others _ _ sum (var 0) (IsPermutation-append_comm (sum ∷ []) others)
    (IsPermutation-append_comm (var 0 ∷ []) others) (λ e. (let q : sum ≡ var 0 = e in cc)) (λ env. omega arith)

wrong_side : Rewrites succ_clause unit_clause sum false → ⊥
wrong_side r =
    let q : unit_of (var 0) ∷ [] ≡ r.equation ∷ [] = r.alone in
    let e : unit_of (var 0) ≡ r.equation = cc in
    let k : var 0 ≡ sum = ap (λ (x : Equation). x.right) e ∙ r.is in
    cc

-- succ(plus(?0, zero)) = succ(?0) compares with succ(?0) = succ(?0) as Less
less_sides : Exceeds AboveInSums (succ_term sum ∷ succ_term (var 0) ∷ [])
    (succ_term (var 0) ∷ succ_term (var 0) ∷ [])
less_sides = exceeds_one (succ_term (var 0) ∷ []) _ _ (succ_term sum) (succ_term (var 0))
    (record { moves = (0, 1) ∷ []; below = (omega arith, omega arith, tt); is = refl }) (IsPermutation-refl _)
    succ_not succ_above

unit_within : IsWithin unit_clause
unit_within = record { equations = omega arith; depth = omega arith; size = omega arith }

pub examples : ReplacingExamples
examples = record {
  by_premise = inl (
    (inner (unit_of (var 0) ∷ []), first _ []),
    inl (
      refl,
      (
        _,
        (
          (
            refl,
            exceeds_one (sum ∷ var 0 ∷ succ_term (var 0) ∷ []) _ _ (succ_term sum)
                (succ_term (var 0)) (record { moves = (2, 3) ∷ []; below = (omega arith, omega arith, tt); is = refl })
                (IsPermutation-refl _) succ_not succ_above,
          ),
          tt,
        ),
        tt,
        inl (((record { equations = omega arith; depth = omega arith; size = omega arith }, tt), omega arith), refl),
      ),
    ),
  );
  not_by_premise = inl ((inner (unit_of (var 0) ∷ []), first _ []), inr (λ e. (let q : var 0 ≡ sum = e in cc), refl));
  in_itself = inl (
    (record { at = first _ []; round = hole; term = sum; is = refl; path = refl }, first _ []),
    inl (
      refl,
      (
        _,
        ((refl, less_sum), tt),
        tt,
        inl (((record { equations = omega arith; depth = omega arith; size = omega arith }, tt), omega arith), refl),
      ),
    ),
  );
  by_hypothesis = inl (
    record { clause = unit_clause; is = refl },
    inl (
      (refl, tt),
      inl (
        unit_within,
        inl (
          inner [],
          inl (
            record { equation = unit_of (var 0); alone = refl; premises = tt; is = refl },
            (
              _,
              ((refl, less_sides), tt),
              ((refl, behind), tt),
              inl (
                ((record { equations = omega arith; depth = omega arith; size = omega arith }, tt), omega arith),
                refl,
              ),
            ),
          ),
        ),
      ),
    ),
  );
  by_goal = inl (
    unit_usable,
    inl (
      (refl, tt),
      inl (
        unit_within,
        inl (
          inner [],
          inl (
            record { equation = unit_of (var 0); alone = refl; premises = tt; is = refl },
            (
              _,
              ((refl, less_sides), tt),
              tt,
              inl (
                ((record { equations = omega arith; depth = omega arith; size = omega arith }, tt), omega arith),
                refl,
              ),
            ),
          ),
        ),
      ),
    ),
  );
  without_premise = inl (
    record { clause = unit_where_zero; is = refl },
    inl ((refl, tt), inl (where_zero_within, inl (inner [], inr (λ r. no_premise r.premises.0, refl)))),
  );
  no_terms = inl (unit_usable, inr (λ h. h, refl));
  from_the_right = inl (unit_usable, inl ((refl, tt), inl (unit_within, inl (inner [], inr (wrong_side, refl)))));
}
