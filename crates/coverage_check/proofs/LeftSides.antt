-- The rows of a function's rules are rows of its argument sorts, and match what its left sides match.
use Rattle.std.proofs.Common.{◌≡◌, ℕ, zero, suc, List, [], ◌∷◌, ◌++◌, Bool, true, false, ◌==◌, cond, Some, None, ◌⊎◌}
use Rattle.std.proofs.Common.{inl, inr, refl, ap, sym, ◌∙◌, subst, eqb}
use Rattle.std.specs.Prelude.{slice_get}
use Rattle.std.specs.List.{AllByRecursion}
use Rattle.std.proofs.lemmas.Bool.{eq-eqb}
use Rattle.std.proofs.lemmas.Bool.Decides.{eqb_tells}
use Rattle.term_core.specs.Tree.{Tree, Trees, var, app, instance, instances, trees_of, list_of}
use Rattle.term_core.proofs.Trees.{trees_of-list_of, list_of-trees_of}
use Rattle.term_core.specs.declared.ids.SortId.{SortId}
use Rattle.spec_core.specs.declared.records.SymInfo.{SymInfo}
use Rattle.spec_core.specs.declared.records.Rule.{Rule}
use Rattle.spec_core.specs.Sig.{Sig, info_of}
use Rattle.spec_core.specs.Sorts.{Sorted, SortedAll}
use Rattle.spec_core.specs.WellSorted.{ArePatterns, RuleIsSorted, IsLeft, sorts_of}
use Rattle.spec_core.specs.Linear.{OccurTwice, IsLinear}
use Rattle.coverage_check.specs.LeftSides.{row_of, rows_of}
use Rattle.coverage_check.specs.Rows.{IsRow}
use Rattle.coverage_check.specs.Values.{MatchesRow, MatchesSome}

module _ (sig : Sig) (f : ℕ) (i : SymInfo) (info : info_of sig f ≡ Some i) where
  call_is_row : (ctx : List SortId) (g : ℕ) (ts : Trees) (s : SortId) → g ≡ f → Sorted sig ctx (app g ts) s →
      ArePatterns sig ts → IsLinear (app g ts) → IsRow sig i.args (list_of ts)
  call_is_row ctx g ts s e sorted patterns linear =
      let same : Some sorted.0 ≡ Some i = sym sorted.1 ∙ ap (λ n. info_of sig n) e ∙ info in
      let k : sorted.0 ≡ i = cc in
      let back = sym (trees_of-list_of ts) in
      record {
        sorted = (
          ctx,
          subst (λ us. SortedAll sig ctx us i.args) back
              (subst (λ (x : SymInfo). SortedAll sig ctx ts x.args) k sorted.3),
        );
        patterns = subst (λ us. ArePatterns sig us) back patterns;
        linear = subst (λ us. (n : ℕ) → OccurTwice n us → ⊥) back linear;
      }

  row_before : (ctx : List SortId) (left : Tree) (s : SortId) (rows : List (List Tree)) →
      Sorted sig ctx left s → IsLeft sig left → IsLinear left → AllByRecursion (IsRow sig i.args) rows →
      AllByRecursion (IsRow sig i.args) (row_of f left ++ rows)
  row_before ctx (var n) s rows sorted left linear h = absurd left
  row_before ctx (app g ts) s rows sorted left linear h =
      elim (eqb_tells g f) [
        | inl e ↦ subst (λ b. AllByRecursion (IsRow sig i.args) (cond b (list_of ts ∷ []) [] ++ rows)) (sym e.0)
            (call_is_row ctx g ts s e.1 sorted left.1 linear, h)
        | inr e ↦ subst (λ b. AllByRecursion (IsRow sig i.args) (cond b (list_of ts ∷ []) [] ++ rows)) (sym e.0) h
      ]

  pub are_rows : (rules : List Rule) → ((k : ℕ) (rule : Rule) → slice_get rules k ≡ Some rule →
      RuleIsSorted sig rule) → ((k : ℕ) (rule : Rule) → slice_get rules k ≡ Some rule → IsLinear rule.left) →
      AllByRecursion (IsRow sig i.args) (rows_of f rules)
  are_rows [] sorted linear = tt
  are_rows (r ∷ rules) sorted linear =
      let first = sorted 0 r refl in
      row_before (sorts_of r.vars) r.left first.sides.0 (rows_of f rules) first.sides.1 first.left
      (linear 0 r refl) (are_rows rules (λ k. sorted (suc k)) (λ k. linear (suc k)))

-- some rule of the list has a left side that makes the call
abbrev pub SomeCalls : ℕ → Trees → List Rule → Type 0
SomeCalls f vs rules = (k : ℕ)
    × ((rule : Rule) × (slice_get rules k ≡ Some rule) × ((xs : List Tree) × (instance xs rule.left ≡ app f vs)))

module _ (f : ℕ) (vs : List Tree) where
  row_or_rest : (left : Tree) (rows : List (List Tree)) → MatchesSome (row_of f left ++ rows) vs →
      ((xs : List Tree) × (instance xs left ≡ app f (trees_of vs))) ⊎ MatchesSome rows vs
  row_or_rest (var n) rows h = inr h
  row_or_rest (app g ts) rows h = by (g == f) (eqb_tells g f) h
    where
      by : (b : Bool) → ((eqb g f ≡ true) × (g ≡ f)) ⊎ ((eqb g f ≡ false) × (g ≡ f → ⊥)) →
          MatchesSome (cond (eqb g f) (list_of ts ∷ []) [] ++ rows) vs →
          ((xs : List Tree) × (instance xs (app g ts) ≡ app f (trees_of vs))) ⊎ MatchesSome rows vs
      by b (inl e) m = at (subst (λ c. MatchesSome (cond c (list_of ts ∷ []) [] ++ rows) vs) e.0 m)
        where
          at : MatchesRow (list_of ts) vs ⊎ MatchesSome rows vs →
              ((xs : List Tree) × (instance xs (app g ts) ≡ app f (trees_of vs))) ⊎ MatchesSome rows vs
          at (inl r) = inl (r.0, λ j. app (e.1 j) ((ap (λ us. instances r.0 us) (sym (trees_of-list_of ts)) ∙ r.1) j))
          at (inr r) = inr r
      by b (inr e) m = inr (subst (λ c. MatchesSome (cond c (list_of ts ∷ []) [] ++ rows) vs) e.0 m)

  pub some_calls : (rules : List Rule) → MatchesSome (rows_of f rules) vs → SomeCalls f (trees_of vs) rules
  some_calls [] h = absurd h
  some_calls (r ∷ rules) h = by (row_or_rest r.left (rows_of f rules) h) (λ m. some_calls rules m)
    where
      by : ((xs : List Tree) × (instance xs r.left ≡ app f (trees_of vs))) ⊎ MatchesSome (rows_of f rules) vs →
          (MatchesSome (rows_of f rules) vs → SomeCalls f (trees_of vs) rules) → SomeCalls f (trees_of vs) (r ∷ rules)
      by (inl m) later = (0, (r, refl, m))
      by (inr m) later = let k = later m in (suc k.0, k.1)

  rest_matches : (left : Tree) (rows : List (List Tree)) → MatchesSome rows vs → MatchesSome (row_of f left ++ rows) vs
  rest_matches (var n) rows h = h
  rest_matches (app g ts) rows h = by (g == f)
    where
      by : (b : Bool) → MatchesSome (cond b (list_of ts ∷ []) [] ++ rows) vs
      by true = inr h
      by false = h

  row_matches : (sig : Sig) (left : Tree) (rows : List (List Tree)) (xs : List Tree) → IsLeft sig left →
      instance xs left ≡ app f (trees_of vs) → MatchesSome (row_of f left ++ rows) vs
  row_matches sig (var n) rows xs left e = absurd left
  row_matches sig (app g ts) rows xs left e =
      let calls : app g (instances xs ts) ≡ app f (trees_of vs) = e in
      let same : g ≡ f = cc in
      let args : instances xs ts ≡ trees_of vs = cc in
      subst (λ b. MatchesSome (cond b (list_of ts ∷ []) [] ++ rows) vs) (sym (eq-eqb g f same))
      (inl (xs, ap (λ us. instances xs us) (trees_of-list_of ts) ∙ args))

  pub calls_match : (sig : Sig) (rules : List Rule) → ((k : ℕ) (rule : Rule) → slice_get rules k ≡ Some rule →
      RuleIsSorted sig rule) → SomeCalls f (trees_of vs) rules → MatchesSome (rows_of f rules) vs
  calls_match sig [] sorted (k, (rule, at, m)) = absurd (let e : None ≡ Some rule = at in cc)
  calls_match sig (r ∷ rules) sorted (zero, (rule, at, m)) =
      let e : Some r ≡ Some rule = at in
      let same : rule ≡ r = cc in
      row_matches sig r.left (rows_of f rules) m.0 (sorted 0 r refl).left
      (sym (ap (λ (x : Rule). instance m.0 x.left) same) ∙ m.1)
  calls_match sig (r ∷ rules) sorted (suc k, (rule, at, m)) = rest_matches r.left (rows_of f rules)
      (calls_match sig rules (λ j. sorted (suc j)) (k, (rule, at, m)))

pub row_here : (f g : ℕ) (args : List Tree) (left : Tree) → app g (trees_of args) ≡ left → g ≡ f →
    args ∷ [] ≡ row_of f left
row_here f g args left e same =
    subst (λ t. args ∷ [] ≡ row_of f t) e (ap (λ us. us ∷ []) (sym (list_of-trees_of args))
    ∙ ap (λ b. cond b (list_of (trees_of args) ∷ []) []) (sym (eq-eqb g f same)))
