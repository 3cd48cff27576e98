-- A term in the place of another one with the same value and sort.
use Rattle.std.proofs.Common.{◌≡◌, ℕ, ◌+◌, List, [], ◌∷◌, Bool, true, false, refl, subst}
use Rattle.term_core.specs.declared.ids.SortId.{SortId}
use Rattle.term_core.specs.Tree.{Tree, Trees, none, some, instance, instances}
use Rattle.term_core.specs.Contexts.{Context, hole, under, around, plug}
use Rattle.spec_core.specs.declared.records.Equation.{Equation}
use Rattle.spec_core.specs.declared.records.Spec.{Spec}
use Rattle.spec_core.specs.Sorts.{Sorted}
use Rattle.spec_core.specs.Gives.{Gives, GivesAll, built, called, more_terms}
use Rattle.spec_core.specs.Groups.{GroupsAreWhole}
use Rattle.spec_core.specs.Overlap.{NoOverlap}
use Rattle.spec_core.specs.Truth.{EquationHolds, EquationBroken, AllHold, AllBroken, AreValuesOf}
use Rattle.spec_core.specs.WellSorted.{IsWellSorted}
use Rattle.clause_core.specs.declared.clauses.Clause.{Clause}
use Rattle.clause_core.specs.declared.steps.Place.{Place}
use Rattle.clause_core.specs.Clauses.{ClauseIsSorted}
use Rattle.clause_core.specs.NumberedEquations.{EquationAt, equations, exchanged}
use Rattle.clause_core.specs.Places.{TermAt, side, with_side, holding}
use Rattle.clause_core.specs.Failing.{ClauseFails}
use Rattle.descent.proofs.Closers.{one_under, holds_at, broken_at}
use Rattle.descent.proofs.Decomposing.{holds_replaced, broken_replaced}

module _ (spec : Spec) (fine : IsWellSorted spec) (apart : NoOverlap spec) (whole : GroupsAreWhole spec)
    (ctx : List SortId) (xs : List Tree) (values : AreValuesOf spec ctx xs) (t u : Tree) (r : SortId)
    (sorted_t : Sorted spec.sig ctx t r) (w : Tree) (k m : ℕ) (gives_t : Gives spec (instance xs t) w k)
    (gives_u : Gives spec (instance xs u) w m) where
  gives_around : (before : Trees) (x y : Tree) (after : Trees) (vs : Trees) (n : ℕ) →
      ((v : Tree) (j : ℕ) → Gives spec (instance xs x) v j → (i : ℕ) × Gives spec (instance xs y) v i) →
      GivesAll spec (instances xs (around before x after)) vs n →
      (i : ℕ) × GivesAll spec (instances xs (around before y after)) vs i
  gives_around none x y after none n h g = elim g [ ]
  gives_around none x y after (some v vs) n h (more_terms {n = a} {k = b} one more cost) = let i = h v a one in
      (i.0 + b, more_terms i.1 more refl)
  gives_around (some z before) x y after none n h g = elim g [ ]
  gives_around (some z before) x y after (some v vs) n h
      (more_terms {n = a} {k = b} one more cost) = let i = gives_around before x y after vs b h more in
      (a + i.0, more_terms one i.1 refl)

  -- the value of a term stays when one with the same value is put into it
  pub same_in : (c : Context) (v : Tree) (n : ℕ) → Gives spec (instance xs (plug c t)) v n →
      (i : ℕ) × Gives spec (instance xs (plug c u)) v i
  same_in hole v n g = let e : w ≡ v = one_under spec fine apart whole ctx xs values t r sorted_t gives_t g in
      (m, subst (λ z. Gives spec (instance xs u) z m) e gives_u)
  same_in (under f before c after) v n (built {vs = vs} {n = j} con all) = let a = gives_around before
      (plug c t) (plug c u) after vs j (λ z i g. same_in c z i g) all in (a.0, built con a.1)
  same_in (under f before c after) v n (called {vs = vs} {n = j} number rule ys all at bs is gs right
      cost) = let a = gives_around before (plug c t) (plug c u) after vs j (λ z i g. same_in c z i g) all in
      (_, called number rule ys a.1 at bs is gs right refl)

  -- and so an equation holds, or is broken, with it
  pub still_holds : (left : Bool) (e : Equation) (c : Context) → side left e ≡ plug c t →
      EquationHolds spec xs e → EquationHolds spec xs (with_side left e (plug c u))
  still_holds true e c q h = let a = same_in c h.0 h.1
      (subst (λ z. Gives spec (instance xs z) h.0 h.1) q h.3) in (h.0, a.0, h.2, a.1, h.4)
  still_holds false e c q h = let a = same_in c h.0 h.2
      (subst (λ z. Gives spec (instance xs z) h.0 h.2) q h.4) in (h.0, h.1, a.0, h.3, a.1)

  pub still_broken : (left : Bool) (e : Equation) (c : Context) → side left e ≡ plug c t →
      EquationBroken spec xs e → EquationBroken spec xs (with_side left e (plug c u))
  still_broken true e c q h = let a = same_in c h.0 h.2
      (subst (λ z. Gives spec (instance xs z) h.0 h.2) q h.5) in (h.0, h.1, a.0, h.3, h.4, a.1, h.6)
  still_broken false e c q h = let a = same_in c h.1 h.3
      (subst (λ z. Gives spec (instance xs z) h.1 h.3) q h.6) in (h.0, h.1, h.2, a.0, h.4, h.5, a.1)

module _ (spec : Spec) (fine : IsWellSorted spec) (apart : NoOverlap spec) (whole : GroupsAreWhole spec)
    (c : Clause) (sorted : ClauseIsSorted spec.sig c) (xs : List Tree) (fails : ClauseFails spec c xs)
    (round : Context) (t u : Tree) (r : SortId) (pt : Sorted spec.sig c.ctx t r) where
  -- the clause fails with the other term in the place
  exchanged_fails : (w : Tree) (k m : ℕ) → Gives spec (instance xs t) w k → Gives spec (instance xs u) w m →
      (kind left : Bool) (n : ℕ) (at : EquationAt (equations kind c) n) → side left at.equation ≡ plug round t →
      ClauseFails spec (exchanged kind c at (with_side left at.equation (plug round u) ∷ [])) xs
  exchanged_fails w k m gt gu true left n at q = record {
    values_fit = fails.values_fit;
    premises = fails.premises;
    conclusions = broken_replaced spec xs at.before at.after (with_side left at.equation (plug round u) ∷ [])
        at.equation (subst (λ es. AllBroken spec xs es) at.is fails.conclusions) (
          still_broken spec fine apart whole c.ctx xs fails.values_fit t u r pt w k m gt gu left at.equation
              round q (broken_at spec xs c.conclusions n at fails.conclusions),
          tt,
        );
  }
  exchanged_fails w k m gt gu false left n at q = record {
    values_fit = fails.values_fit;
    premises = holds_replaced spec xs at.before at.after (with_side left at.equation (plug round u) ∷ [])
        at.equation (subst (λ es. AllHold spec xs es) at.is fails.premises) (
          still_holds spec fine apart whole c.ctx xs fails.values_fit t u r pt w k m gt gu left at.equation round
              q (holds_at spec xs c.premises n at fails.premises),
          tt,
        );
    conclusions = fails.conclusions;
  }

module _ (spec : Spec) (fine : IsWellSorted spec) (apart : NoOverlap spec) (whole : GroupsAreWhole spec)
    (c : Clause) (sorted : ClauseIsSorted spec.sig c) (xs : List Tree) (fails : ClauseFails spec c xs)
    (place : Place) (at : TermAt c place) (u : Tree) (r : SortId) (pt : Sorted spec.sig c.ctx at.term r) where
  pub holding_fails : (w : Tree) (k m : ℕ) → Gives spec (instance xs at.term) w k →
      Gives spec (instance xs u) w m → ClauseFails spec (holding at u) xs
  holding_fails w k m gt gu = exchanged_fails spec fine apart whole c sorted xs fails at.round at.term u r pt w
      k m gt gu place.conclusion place.left place.number at.at at.is
