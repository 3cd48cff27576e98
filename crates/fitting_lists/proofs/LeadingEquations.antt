-- The first of the equations that pass a test, and the first of conclusions and premises.
use Rattle.std.proofs.Common.{◌≡◌, Option, Some, None, ℕ, zero, suc, ◌<◌, List, [], ◌∷◌, ◌++◌, Bool, true, false, cond}
use Rattle.std.proofs.Common.{refl, ap, sym, ◌∙◌, arith, length, get_or, take}
use Rattle.std.specs.Prelude.{filter, is_some, slice_get}
use Rattle.std.proofs.lemmas.List.Elements.{filter-append}
use Rattle.spec_core.specs.declared.records.Equation.{Equation}
use Rattle.clause_core.specs.declared.clauses.Clause.{Clause}
use Rattle.clause_core.specs.NumberedEquations.{equations}
use Rattle.fitting_lists.specs.declared.leading_equations.LeadingPlace.{LeadingPlace}
use Rattle.fitting_lists.specs.Fitting.{Located, both_sides, has_all, located, leading}
use Rattle.fitting_lists.specs.Leading.{IsFirstWithAll, IsPlace}

module _ {A : Type 0} where
  first_of_both : (x : A) (xs ys : List A) → take 1 xs ≡ x ∷ [] → take 1 (xs ++ ys) ≡ x ∷ []
  first_of_both x [] ys e = absurd (cc)
  first_of_both x (z ∷ xs) ys e = e

  module _ (p : A → Bool) where
    kept_at : (b : Bool) (y : A) (xs : List A) → b ≡ true → take 1 (cond b (y ∷ xs) xs) ≡ y ∷ []
    kept_at true y xs e = refl
    kept_at false y xs e = absurd (cc)

    left_at :
        (b : Bool) (y : A) (xs zs : List A) → cond b (y ∷ xs) xs ≡ [] →
        (xs ≡ []) × (cond b (y ∷ zs) zs ≡ zs)
    left_at true y xs zs e = absurd (let q : (y ∷ xs) ≡ [] = e in cc)
    left_at false y xs zs e = (e, refl)

    -- the first item that is kept, if none before it is
    pub first_kept :
        (xs : List A) (i : ℕ) (x : A) → i < length xs → x ≡ get_or xs i x →
        filter p (take i xs) ≡ [] → p x ≡ true → take 1 (filter p xs) ≡ x ∷ []
    first_kept [] i x lt is before h = absurd (omega arith)
    first_kept (y ∷ ys) zero x lt is before h =
        let k : x ≡ y = is in
        kept_at (p y) y (filter p ys) (ap p (sym k) ∙ h) ∙ ap (λ z. z ∷ []) (sym k)
    first_kept (y ∷ ys) (suc i) x lt is before h =
        let r = left_at (p y) y (filter p (take i ys)) (filter p ys) before in
        ap (λ zs. take 1 zs) r.1 ∙ first_kept ys i x (omega arith) is r.0 h

module _ (c : Clause) where
  -- the test of an equation, and of one with its kind
  abbrev has : Equation → Bool
  has e = has_all c (both_sides e)

  abbrev has_located : Located → Bool
  has_located e = has_all c (both_sides e.equation)

  kept_located :
      (k : Bool) (es : List Equation) →
      filter has_located (located k es) ≡ located k (filter has es)
  kept_located k [] = refl
  kept_located k (e ∷ es) = located_at (has e) (kept_located k es)
    where
      located_at :
          (b : Bool) → filter has_located (located k es) ≡ located k (filter has es) →
          cond b (record { conclusion = k; equation = e } ∷ filter has_located (located k es))
          (filter has_located (located k es))
          ≡ located k (cond b (e ∷ filter has es) (filter has es))
      located_at true q = ap (λ ls. record { conclusion = k; equation = e } ∷ ls) q
      located_at false q = q

  -- the equations that are kept, with their kinds
  abbrev conclusions : List Located
  conclusions = located true (filter has c.conclusions)

  abbrev premises : List Located
  premises = located false (filter has c.premises)

  leading_is : leading c ≡ take 1 (conclusions ++ premises)
  leading_is =
      ap (λ ls. take 1 ls) (
      filter-append has_located (located true c.conclusions) (located false c.premises)
      ∙ ap (λ ls. ls ++ filter has_located (located false c.premises))
      (kept_located true c.conclusions)
      ∙ ap (λ ls. conclusions ++ ls) (kept_located false c.premises))

  first_located :
      (k : Bool) (es : List Equation) (e : Equation) → take 1 es ≡ e ∷ [] →
      take 1 (located k es) ≡ record { conclusion = k; equation = e } ∷ []
  first_located k [] e q = absurd (cc)
  first_located k (d ∷ es) e q =
      let same : d ≡ e = only d e q in
      ap (λ x. record { conclusion = k; equation = x } ∷ []) same
    where
      only : (d e : Equation) → (d ∷ []) ≡ (e ∷ []) → d ≡ e
      only d e q = cc

  conclusion_leads :
      (e : Equation) → take 1 (filter has c.conclusions) ≡ e ∷ [] →
      leading c ≡ record { conclusion = true; equation = e } ∷ []
  conclusion_leads e q =
      leading_is
      ∙ first_of_both (record { conclusion = true; equation = e }) conclusions premises
      (first_located true (filter has c.conclusions) e q)

  premise_leads :
      (e : Equation) → filter has c.conclusions ≡ [] → take 1 (filter has c.premises) ≡ e ∷ [] →
      leading c ≡ record { conclusion = false; equation = e } ∷ []
  premise_leads e none q =
      leading_is
      ∙ ap (λ es. take 1 (located true es ++ premises)) none
      ∙ first_located false (filter has c.premises) e q

  none_leads : filter has c.conclusions ≡ [] → filter has c.premises ≡ [] → leading c ≡ []
  none_leads p q =
      leading_is
      ∙ ap (λ es. take 1 (located true es ++ premises)) p
      ∙ ap (λ es. take 1 (located false es)) q

  -- the first conclusion with all variables leads, or else the first premise
  pub conclusion_place :
      (found : Option LeadingPlace) → is_some found ≡ true → IsFirstWithAll c true found →
      IsPlace c found
  conclusion_place None some h = absurd (let q : false ≡ true = some in cc)
  conclusion_place (Some place) some h = record {
    equation = h.equation;
    there =
        ap (λ k. slice_get (equations k c) place.index) h.kind ∙ h.there;
    leads =
        conclusion_leads h.equation h.first
        ∙ ap (λ k. record { conclusion = k; equation = h.equation } ∷ []) (sym h.kind);
    spines = h.spines;
  }

  pub premise_place :
      (found premise : Option LeadingPlace) → is_some found ≡ false →
      IsFirstWithAll c true found → IsFirstWithAll c false premise → IsPlace c premise
  premise_place (Some place) premise some h k = absurd (let q : true ≡ false = some in cc)
  premise_place None None some h k = none_leads h k
  premise_place None (Some place) some h k = record {
    equation = k.equation;
    there =
        ap (λ b. slice_get (equations b c) place.index) k.kind ∙ k.there;
    leads =
        premise_leads k.equation h k.first
        ∙ ap (λ b. record { conclusion = b; equation = k.equation } ∷ []) (sym k.kind);
    spines = k.spines;
  }
