-- Applications to values at places.
use Rattle.std.proofs.Common.{◌≡◌, ℕ, List, [], ◌∷◌, ◌++◌, Some, refl, sym, ◌∙◌, subst}
use Rattle.term_core.specs.Tree.{Tree, app, trees_of}
use Rattle.term_core.specs.declared.ids.SortId.{SortId}
use Rattle.spec_core.specs.declared.records.SymInfo.{SymInfo}
use Rattle.spec_core.specs.declared.records.Spec.{Spec}
use Rattle.spec_core.specs.Sig.{Sig, info_of, IsConstructor}
use Rattle.spec_core.specs.Sorts.{Sorted, SortedAll, AreBuilt, IsValue}
use Rattle.spec_core.specs.Truth.{AreValuesOf}
use Rattle.std.specs.Prelude.{slice_get}
use Rattle.value_bank.specs.Cells.{Cell, cell, IsTerm, AreTerms, AddsCells}
use Rattle.value_bank.proofs.Placed.{app_placed}
use Rattle.sample_values.specs.Evaluators.{Evaluated, evaluated, HasValue, HaveValues, CanApply, IsGiven}

-- values have their sorts, and are built of constructors
values_sorted : (spec : Spec) (ss : List SortId) (ts : List Tree) → AreValuesOf spec ss ts →
    SortedAll spec.sig [] (trees_of ts) ss × AreBuilt spec.sig (trees_of ts)
values_sorted spec [] [] h = (tt, tt)
values_sorted spec [] (t ∷ ts) h = absurd h
values_sorted spec (s ∷ ss) [] h = absurd h
values_sorted spec (s ∷ ss) (t ∷ ts) h =
    let r = values_sorted spec ss ts h.1 in
    ((h.0.0, r.0), (h.0.1, r.1))

same_info : (sig : Sig) (f : ℕ) (i j : SymInfo) → info_of sig f ≡ Some i → info_of sig f ≡ Some j → i ≡ j
same_info sig f i j a b =
    let e : Some i ≡ Some j = sym a ∙ b in
    cc

module _ (e : Evaluated) (f : ℕ) (places : List ℕ) (can : CanApply e f places) where
  pub call_sorted : Sorted e.spec.sig [] (app f (trees_of can.args.values)) can.info.result
  call_sorted =
      (can.info, can.declared, refl, (values_sorted e.spec can.info.args can.args.values can.args.are).0)

  pub call_sorted_as : (i : SymInfo) → info_of e.spec.sig f ≡ Some i →
      Sorted e.spec.sig [] (app f (trees_of can.args.values)) i.result
  call_sorted_as i declared =
      subst (λ (j : SymInfo). Sorted e.spec.sig [] (app f (trees_of can.args.values)) j.result)
      (same_info e.spec.sig f can.info i can.declared declared) call_sorted

  -- a constructor's application is a value
  pub built_given : (new : List Cell) (place : ℕ) → IsConstructor e.spec.sig f → AddsCells e.cells new →
      slice_get new place ≡ Some (cell f places) → IsGiven (evaluated e.spec new) f place
  built_given new place c adds at i declared = (
    app f (trees_of can.args.values),
    app_placed e.cells new place f places (trees_of can.args.values) can.args.stand adds at,
    (
      call_sorted_as i declared,
      (c, (values_sorted e.spec can.info.args can.args.values can.args.are).1),
    ),
  )

are_append : (spec : Spec) (ss : List SortId) (ts : List Tree) (s : SortId) (t : Tree) → AreValuesOf spec ss ts →
    IsValue spec.sig s t → AreValuesOf spec (ss ++ s ∷ []) (ts ++ t ∷ [])
are_append spec [] [] s t h one = (one, tt)
are_append spec [] (u ∷ us) s t h one = absurd h
are_append spec (x ∷ xs) [] s t h one = absurd h
are_append spec (x ∷ xs) (u ∷ us) s t h one = (h.0, are_append spec xs us s t h.1 one)

terms_append : (cells : List Cell) (ps : List ℕ) (ts : List Tree) (p : ℕ) (t : Tree) →
    AreTerms cells ps (trees_of ts) → IsTerm cells p t → AreTerms cells (ps ++ p ∷ []) (trees_of (ts ++ t ∷ []))
terms_append cells [] [] p t h one = (one, tt)
terms_append cells [] (u ∷ us) p t h one = absurd h
terms_append cells (q ∷ qs) [] p t h one = absurd h
terms_append cells (q ∷ qs) (u ∷ us) p t h one = (h.0, terms_append cells qs us p t h.1 one)

pub no_values : (e : Evaluated) (places : List ℕ) → places ≡ [] → HaveValues e places []
no_values e places none = record {
  values = [];
  are = tt;
  stand = subst (λ ps. AreTerms e.cells ps (trees_of [])) (sym none) tt;
}

-- one value more
pub more_values : (e : Evaluated) (places new : List ℕ) (sorts : List SortId) (place : ℕ) (sort : SortId) →
    new ≡ places ++ place ∷ [] → HaveValues e places sorts → HasValue e place sort →
    HaveValues e new (sorts ++ sort ∷ [])
more_values e places new sorts place sort is h one = record {
  values = h.values ++ one.0 ∷ [];
  are = are_append e.spec sorts h.values sort one.0 h.are one.2;
  stand = subst (λ ps. AreTerms e.cells ps (trees_of (h.values ++ one.0 ∷ []))) (sym is)
      (terms_append e.cells places h.values place one.0 h.stand one.1);
}
