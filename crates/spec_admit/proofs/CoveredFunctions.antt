-- Functions that are covered, and the first one that isn't.
use Rattle.std.proofs.Common.{◌≡◌, ◌<◌, ◌≤◌, ◌+◌, ◌-◌, ◌⊎◌, ℕ, List, [], Some, None, Option, inl, inr, refl, sym}
use Rattle.std.proofs.Common.{subst, arith, length}
use Rattle.std.specs.Prelude.{option_map, slice_get}
use Rattle.std.proofs.lemmas.Option.{slice_get_within}
use Rattle.term_core.specs.Tree.{Tree, trees_of, list_of}
use Rattle.term_core.proofs.Trees.{trees_of-list_of}
use Rattle.term_core.proofs.Numbers.{below_or_not, below_or_last}
use Rattle.spec_core.specs.declared.records.SymInfo.{SymInfo}
use Rattle.spec_core.specs.declared.records.Spec.{Spec}
use Rattle.spec_core.specs.Sig.{Sig, info_of}
use Rattle.spec_core.specs.Sorts.{SortedAll, AreBuilt}
use Rattle.spec_core.specs.Covering.{IsMatched, IsCovering}
use Rattle.spec_core.specs.Findings.{test}
use Rattle.coverage_check.specs.LeftSides.{rows_of, MatchLeftSides}
use Rattle.coverage_check.specs.Named.{IsNamed}
use Rattle.coverage_check.specs.Values.{IsMissing, AreCovered}
use Rattle.spec_admit.specs.Tests.{FunctionIsCovered}
use Rattle.spec_admit.specs.FirstFault.{IsUncovered}
use Rattle.spec_admit.specs.Parts.{AreNamedFor}
use Rattle.spec_admit.proofs.Searches.{first_from}

module _ (spec : Spec) (f : ℕ) (info : SymInfo) (declared : info_of spec.sig f ≡ Some info)
    (rows : List (List Tree)) (matched : MatchLeftSides spec f rows) where
  pub covered : AreCovered spec.sig rows info.args → FunctionIsCovered spec f
  covered h i vs at sorted built =
      let same : Some i ≡ Some info = let q : info_of spec.sig f ≡ Some i = at in cc in
      let is : i ≡ info = cc in
      let back = sym (trees_of-list_of vs) in
      let sort = subst (λ us. SortedAll spec.sig [] us info.args) back
      (subst (λ (j : SymInfo). SortedAll spec.sig [] vs j.args) is sorted) in
      subst (λ us. IsMatched spec f us) (trees_of-list_of vs)
      ((matched (list_of vs)).0 (h (list_of vs) (sort, subst (λ us. AreBuilt spec.sig us) back built)))

  pub named_for : (values : List Tree) → rows ≡ rows_of f spec.rules →
      IsMissing spec.sig rows info.args values → IsNamed spec.sig rows info.args values → AreNamedFor spec f values
  named_for values are missing named =
      record {
        uncovered = λ c. missing.1 ((matched values).1 (c info (trees_of values) declared missing.0.0 missing.0.1));
        info = info;
        declared = declared;
        named = subst (λ rs. IsNamed spec.sig rs info.args values) are named;
      }

declared_within : (sig : Sig) (f : ℕ) (i : SymInfo) → info_of sig f ≡ Some i → f < length sig.table
declared_within sig f i at = by (slice_get sig.table f) refl at
  where
    by : (o : Option (List ℕ × SymInfo)) → slice_get sig.table f ≡ o →
        option_map (λ (e : List ℕ × SymInfo). e.1) o ≡ Some i → f < length sig.table
    by (Some e) is h = slice_get_within sig.table f e is
    by None is h = absurd (let q : None ≡ Some i = h in cc)

module _ (spec : Spec) where
  pub covered_more : (n : ℕ) → ((f : ℕ) → spec.sig.constructors ≤ f → f < n → FunctionIsCovered spec f) →
      FunctionIsCovered spec n → (f : ℕ) → spec.sig.constructors ≤ f → f < n + 1 → FunctionIsCovered spec f
  covered_more n before here f above below = by (below_or_last f n below)
    where
      by : (f < n) ⊎ (f ≡ n) → FunctionIsCovered spec f
      by (inl l) = before f above l
      by (inr e) = subst (λ g. FunctionIsCovered spec g) (sym e) here

  -- a signature's functions are covered if those from the first number on are
  pub covering : ((f : ℕ) → spec.sig.constructors ≤ f → f < length spec.sig.table → FunctionIsCovered spec f) →
      IsCovering spec
  covering h f i vs at function sorted built = by (below_or_not f spec.sig.constructors)
    where
      by : (f < spec.sig.constructors) ⊎ (spec.sig.constructors ≤ f) → IsMatched spec f vs
      by (inl below) = absurd (function below)
      by (inr above) = h f above (declared_within spec.sig f i at) i vs at sorted built

  pub first_uncovered : (f : ℕ) (values : List Tree) → spec.sig.constructors ≤ f → f < length spec.sig.table →
      ((g : ℕ) → spec.sig.constructors ≤ g → g < f → FunctionIsCovered spec g) → AreNamedFor spec f values →
      IsUncovered spec f values
  first_uncovered f values from within before named =
      let least = spec.sig.constructors in
      let place : least + (f - least) ≡ f = omega arith in
      record {
        first = first_from (λ g. test g (¬ (FunctionIsCovered spec g))) least (length spec.sig.table - least)
            (f - least) f (omega arith) (λ g l k. λ n. n (before g l (omega arith)))
            (subst (λ g. (FunctionIsCovered spec g → ⊥) × (f ≡ g)) (sym place) (named.uncovered, refl));
        info = named.info;
        declared = named.declared;
        named = named.named;
      }
