-- Patterns as rows of one column, and the values that they match.
use Rattle.std.proofs.Common.{◌≡◌, ℕ, zero, suc, ◌<◌, List, [], ◌∷◌, inl, inr, length, get_or, refl, ap, ◌∙◌, arith}
use Rattle.std.specs.Prelude.{Any}
use Rattle.std.specs.List.{AllByRecursion, AllZip}
use Rattle.term_core.specs.Tree.{Tree, none, some, instance}
use Rattle.term_core.specs.declared.ids.SortId.{SortId}
use Rattle.spec_core.specs.Sig.{Sig}
use Rattle.clause_core.specs.Patterns.{IsPatternOf, IsInstanceOf, AreCovering}
use Rattle.coverage_check.specs.Rows.{IsRow}
use Rattle.coverage_check.specs.Named.{IsNamed}
use Rattle.coverage_check.specs.Values.{MatchesSome, AreCovered, IsMissing}
use Rattle.test_sets.specs.Children.{IsSomePattern}
use Rattle.test_sets.specs.Covers.{IsUncovered, rows_of}
use Rattle.test_sets.proofs.LinearPatterns.{numbered_once}

pub any_behind : {X : Type 0} (P : X → Type 0) (x : X) (xs : List X) → Any P xs → Any P (x ∷ xs)
any_behind P x xs a = (suc a.0, a.1, omega (arith, a.2), a.3, a.4)

pub any_first : {X : Type 0} (P : X → Type 0) (x : X) (xs : List X) → P x → Any P (x ∷ xs)
any_first P x xs p = (0, x, omega arith, refl, p)

module _ (sig : Sig) (s : SortId) where
  is_row : (p : Tree) → IsSomePattern sig s p → IsRow sig (s ∷ []) (p ∷ [])
  is_row p is = record {
    sorted = (is.0, (is.1.sorted, tt));
    patterns = (is.1.pattern, tt);
    linear = numbered_once p 0 (length is.0) is.1.numbered;
  }

  pub are_rows : (ps : List Tree) → AllByRecursion (IsSomePattern sig s) ps →
      AllByRecursion (IsRow sig (s ∷ [])) (rows_of ps)
  are_rows [] h = tt
  are_rows (p ∷ ps) h = (is_row p h.0, are_rows ps h.1)

  -- patterns, each over some variables
  pub some_patterns : (contexts : List (List SortId)) (ps : List Tree) →
      AllZip (IsPatternOf sig s) contexts ps → AllByRecursion (IsSomePattern sig s) ps
  some_patterns [] [] h = tt
  some_patterns [] (p ∷ ps) h = absurd h
  some_patterns (ctx ∷ contexts) [] h = absurd h
  some_patterns (ctx ∷ contexts) (p ∷ ps) h = ((ctx, h.0), some_patterns contexts ps h.1)

  matched : (ps : List Tree) (v : Tree) → MatchesSome (rows_of ps) (v ∷ []) → Any (IsInstanceOf v) ps
  matched [] v m = absurd m
  matched (p ∷ ps) v (inl m) = any_first (IsInstanceOf v) p ps (
    m.0,
    (let q : some (instance m.0 p) none ≡ some v none = m.1 in cc),
  )
  matched (p ∷ ps) v (inr m) = any_behind (IsInstanceOf v) p ps (matched ps v m)

  matching_at : (ps : List Tree) (v : Tree) (k : ℕ) (p : Tree) → k < length ps → get_or ps k p ≡ p →
      IsInstanceOf v p → MatchesSome (rows_of ps) (v ∷ [])
  matching_at [] v k p lt at i = absurd (omega arith)
  matching_at (q ∷ ps) v zero p lt at i = inl (i.0, ap (λ t. some t none) (ap (λ t. instance i.0 t) at ∙ i.1))
  matching_at (q ∷ ps) v (suc k) p lt at i = inr (matching_at ps v k p (omega arith) at i)

  pub covered : (ps : List Tree) → AreCovered sig (rows_of ps) (s ∷ []) → AreCovering sig s ps
  covered ps all v is = matched ps v (all (v ∷ []) ((is.0, tt), (is.1, tt)))

  -- missing values are one value that is an instance of no pattern
  pub uncovered :
      (ps vs : List Tree) → IsMissing sig (rows_of ps) (s ∷ []) vs → IsNamed sig (rows_of ps) (s ∷ []) vs →
      (v : Tree) × (vs ≡ v ∷ []) × IsUncovered sig s ps v
  uncovered ps [] m is = absurd m.0.0
  uncovered ps (v ∷ []) m is = (
    v,
    refl,
    record {
      value = (m.0.0.0, m.0.1.0);
      missing = λ a. m.1 (matching_at ps v a.0 a.1 a.2 a.3 a.4);
      named = is;
    },
  )
  uncovered ps (v ∷ (w ∷ vs)) m is = absurd m.0.0.1
