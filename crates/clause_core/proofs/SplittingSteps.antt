-- What the steps that put patterns for a variable, or a variable for a term, say of small clauses.
use Rattle.std.proofs.Common.{◌≡◌, ℕ, ◌≤◌, List, [], ◌∷◌, Some, None, inl, inr, refl, ap, ◌∙◌, arith}
use Rattle.std.specs.List.{range_with_len, AllZip}
use Rattle.term_core.specs.Tree.{Tree, Trees, var, none, some, tree_size, sizes}
use Rattle.term_core.specs.Contexts.{Context, hole, under, around, plug}
use Rattle.term_core.specs.declared.ids.SortId.{SortId}
use Rattle.term_core.proofs.Members.{In, in_contained}
use Rattle.spec_core.specs.Sig.{Sig}
use Rattle.spec_core.specs.Naturals.{nat, naturals_sig, zero_term, succ_term, plus_term}
use Rattle.clause_core.specs.Clauses.{sides}
use Rattle.clause_core.specs.Patterns.{IsPatternOf, AreCovering}
use Rattle.clause_core.specs.Generalizing.{StandsIn}
use Rattle.clause_core.specs.ExampleClauses.{unit_clause}
use Rattle.clause_core.specs.CoveringExamples.{CoveringExamples}

-- what isn't a pattern over any variables isn't one of a list
none_of : (sig : Sig) (s : SortId) (p : Tree) → ((ctx : List SortId) → IsPatternOf sig s ctx p → ⊥) →
    (contexts : List (List SortId)) → AllZip (IsPatternOf sig s) contexts (p ∷ []) → ⊥
none_of sig s p h [] m = m
none_of sig s p h (ctx ∷ more) m = h ctx m.0

not_zero : (s : SortId) (ctx : List SortId) → IsPatternOf naturals_sig s ctx (succ_term (var 1)) → ⊥
not_zero s [] m = let q : ◌≡◌ {A = List ℕ} (1 ∷ []) [] = m.numbered in cc
not_zero s (u ∷ us) m = let q : ◌≡◌ {A = List ℕ} (1 ∷ []) (0 ∷ range_with_len 1 _) = m.numbered in
    let k : ◌≡◌ {A = ℕ} 1 0 = cc in omega arith

all_covered : AreCovering naturals_sig nat (var 0 ∷ [])
all_covered v h = (0, var 0, omega arith, refl, (v ∷ [], refl))

-- a term is no larger than what it occurs in
size_around : (before : Trees) (t : Tree) (after : Trees) → tree_size t ≤ sizes (around before t after)
size_around none t after = omega arith
size_around (some b before) t after = omega (arith, size_around before t after)

size_plug : (c : Context) (t : Tree) → tree_size t ≤ tree_size (plug c t)
size_plug hole t = omega arith
size_plug (under f before c after) t = omega (arith, size_plug c t, size_around before (plug c t) after)

too_large : (s : Tree) (c : Context) → In s (sides unit_clause) →
    plug c (plus_term (var 0) (succ_term zero_term)) ≡ s → ⊥
too_large s c (inl i) e =
    let q : tree_size (plug c (plus_term (var 0) (succ_term zero_term))) ≡ 3 = ap (λ t. tree_size t) e
    ∙ ap (λ t. tree_size t) i in
    omega (arith, q, size_plug c (plus_term (var 0) (succ_term zero_term)))
too_large s c (inr (inl i)) e =
    let q : tree_size (plug c (plus_term (var 0) (succ_term zero_term))) ≡ 1 = ap (λ t. tree_size t) e
    ∙ ap (λ t. tree_size t) i in
    omega (arith, q, size_plug c (plus_term (var 0) (succ_term zero_term)))
too_large s c (inr (inr i)) e = absurd i

not_there : StandsIn (plus_term (var 0) (succ_term zero_term)) unit_clause → ⊥
not_there (s, c, i, e) = too_large s c (in_contained (sides unit_clause) s i) e

pub examples : CoveringExamples
examples = record {
  by_anything = inl (
    record {
      sort = nat;
      is = refl;
      contexts = (nat ∷ []) ∷ [];
      each = (record { sorted = refl; pattern = tt; numbered = refl }, tt);
    },
    inl (
      all_covered,
      (
        _,
        ((refl, refl), tt),
        tt,
        inl (((record { equations = omega arith; depth = omega arith; size = omega arith }, tt), omega arith), refl),
      ),
    ),
  );
  no_variable = inr (λ a. (let q : None ≡ Some a.sort = a.is in cc), refl);
  no_pattern = inr (
    λ a. none_of naturals_sig a.sort (plus_term (var 0) (var 1))
        (λ ctx m. omega (arith, m.pattern.0)) a.contexts a.each,
    refl,
  );
  not_from_zero = inr (λ a. none_of naturals_sig a.sort (succ_term (var 1)) (not_zero a.sort) a.contexts a.each, refl);
  generalizes = inl (
    (nat, (_, refl, refl, (refl, (refl, tt)))),
    inl (
      (plus_term (var 0) (var 1), hole, (1, omega arith, refl), refl),
      (
        _,
        ((refl, refl), tt),
        tt,
        inl (((record { equations = omega arith; depth = omega arith; size = omega arith }, tt), omega arith), refl),
      ),
    ),
  );
  not_by_a_variable = inr (λ h. h.1, refl);
  not_there = inl (
    (nat, (_, refl, refl, (refl, ((_, refl, refl, ((_, refl, refl, tt), tt)), tt)))),
    inr (not_there, refl),
  );
}
