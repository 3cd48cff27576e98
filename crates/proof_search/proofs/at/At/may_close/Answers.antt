use Rattle.std.proofs.Common.{◌≡◌, ℕ, ◌+◌, ◌<◌, ◌≤◌, ◌⊎◌, List, Option, Some, true, false, inl, inr, refl, ap, sym}
use Rattle.std.proofs.Common.{◌∙◌, subst, arith, length, get_or}
use Rattle.std.specs.Prelude.{Any, slice_get}
use Rattle.std.proofs.lemmas.Option.{slice_get-get_or, get_or_from_slice_get}
use Rattle.term_core.proofs.Numbers.{below_or_last}
use Rattle.clause_core.specs.declared.clauses.Clause.{Clause}
use Rattle.clause_core.specs.NumberedEquations.{equations}
use Rattle.fitting_lists.specs.declared.leading_equations.LeadingPlace.{LeadingPlace}
use Rattle.proof_search.specs.declared.side_spines.SideSpines.{SideSpines}
use Rattle.proof_search.specs.Leading.{MayClose, kept_spines}
use Rattle.proof_search.specs.SideSpines.{listed_spines, MayBecomeEither}
use Rattle.proof_search.proofs.Tests.{not_is}
use Rattle.proof_search.proofs.at.At.may_close.Goals as goal

module _ (here : Clause) (place : LeadingPlace) (o : Option LeadingPlace) (is : o ≡ Some place)
    (xs : List SideSpines) (listed : xs ≡ listed_spines (equations place.conclusion here)) where
  abbrev fits : SideSpines → Type 0
  fits = MayBecomeEither (kept_spines place)

  there : (k : ℕ) (d : SideSpines) → k < length xs → fits (get_or xs k d) → MayClose here o
  there k d lt may =
      let own = get_or xs k d in
      let found : Any fits xs =
      (k, own, lt, get_or_from_slice_get xs k own own (slice_get-get_or xs k d lt), may) in
      subst (λ (p : Option LeadingPlace). MayClose here p) (sym is)
      (subst (λ (ys : List SideSpines). Any fits ys) listed found)

  not_there :
      (n : ℕ) → length xs ≤ n →
      ((k : ℕ) (own : SideSpines) → k < n → slice_get xs k ≡ Some own → fits own → ⊥) →
      MayClose here o → ⊥
  not_there n le none may =
      let found = subst (λ (ys : List SideSpines). Any fits ys) (sym listed)
      (subst (λ (p : Option LeadingPlace). MayClose here p) is may) in
      let k = found.0 in
      none k found.1 (omega (arith, found.2, le))
      (slice_get-get_or xs k found.1 found.2 ∙ ap (λ x. Some x) found.3) found.4

-- one more that isn't such
one_more :
    (P : SideSpines → Type 0) (xs : List SideSpines) (n : ℕ) (d : SideSpines) → n < length xs →
    (P (get_or xs n d) → ⊥) →
    ((k : ℕ) (own : SideSpines) → k < n → slice_get xs k ≡ Some own → P own → ⊥) →
    (k : ℕ) (own : SideSpines) → k < n + 1 → slice_get xs k ≡ Some own → P own → ⊥
one_more P xs n d lt isnt none k own before at may = by (below_or_last k n before)
  where
    by : (k < n) ⊎ (k ≡ n) → ⊥
    by (inl h) = none k own h at may
    by (inr e) =
        let same : own ≡ get_or xs n d =
        sym (get_or_from_slice_get xs k own d at) ∙ ap (λ m. get_or xs m d) e in
        isnt (subst (λ (x : SideSpines). P x) same may)

pub returns-then-may_close : goal.returns-then-may_close
returns-then-may_close c = (
  λ t.
      there c.args.self.now.here.now c.in-Some.place c.args.place.now c.in-Some.is
      c.spines-own-items.result.now c.spines-own-items.ensures c.loop-own.own-index _
      c.loop-own-test.true (c.may_close.ensures.0 c.if-may_close.true),
  λ may. refl,
)

pub loop-own-preserved : goal.loop-own-preserved
loop-own-preserved c =
    one_more (MayBecomeEither (kept_spines c.in-Some.place)) c.spines-own-items.result.now
    c.loop-own.own-index _ c.loop-own-test.true
    (not_is c.may_close.result _ c.if-may_close.false c.may_close.ensures)
    c.loop-own.invariant

pub returns : goal.returns
returns c = (
  λ t. absurd (let q : false ≡ true = t in cc),
  λ may.
      absurd (not_there c.args.self.now.here.now c.in-Some.place c.args.place.now c.in-Some.is
      c.spines-own-items.result.now c.spines-own-items.ensures c.loop-own.own-index
      c.loop-own-test.false c.loop-own.invariant may),
)
