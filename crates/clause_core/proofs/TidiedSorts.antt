-- Tidied clauses are sorted if the clauses are.
use Rattle.std.proofs.Common.{◌≡◌, ℕ, zero, suc, ◌+◌, List, [], ◌∷◌, ◌++◌, not, cond, Some, None, inl, inr, map}
use Rattle.std.proofs.Common.{length, refl, ap, sym, ◌∙◌, subst, arith}
use Rattle.std.specs.Prelude.{slice_get, slice_index_or}
use Rattle.std.specs.List.{AllByRecursion}
use Rattle.std.proofs.lemmas.Bool.Decides.{eqb_tells}
use Rattle.term_core.specs.Tree.{Tree, Trees, var, app, none, some, trees_of}
use Rattle.term_core.specs.Variables.{occurrences, occurrences_all, Occurs, OccursAny}
use Rattle.term_core.specs.Gathered.{met, gathered}
use Rattle.term_core.specs.declared.ids.SortId.{SortId}
use Rattle.spec_core.specs.declared.records.Equation.{Equation}
use Rattle.spec_core.specs.Sig.{Sig, IsSort}
use Rattle.spec_core.specs.Sorts.{Sorted, SortedAll}
use Rattle.spec_core.specs.Declarations.{IsDeclared, bool_sort}
use Rattle.spec_core.specs.WellSorted.{EquationsAreSorted}
use Rattle.clause_core.specs.declared.clauses.Clause.{Clause}
use Rattle.clause_core.specs.Clauses.{sides_of, sides, ClauseIsSorted}
use Rattle.clause_core.specs.Tidied.{variables_of, place_of, renumbered, renumbered_all, renumbered_equation, sorts_at}
use Rattle.clause_core.specs.Tidied.{tidied}
use Rattle.clause_core.proofs.FirstOccurrences.{gathered_firsts}
use Rattle.clause_core.proofs.Renumbering.{Met, met_here, gathered_kept, gathered-append}

mutual
  -- each variable that occurs is met
  occurring_met : (t : Tree) (olds : List ℕ) (n : ℕ) → Occurs n t → Met (gathered olds (occurrences t)) n
  occurring_met (var m) olds n o = subst (λ k. Met (met olds m) k) (sym o) (met_here olds m)
  occurring_met (app f ts) olds n o = any_occurring_met ts olds n o

  any_occurring_met : (ts : Trees) (olds : List ℕ) (n : ℕ) → OccursAny n ts → Met (gathered olds (occurrences_all ts)) n
  any_occurring_met none olds n o = absurd o
  any_occurring_met (some t ts) olds n (inl o) =
      subst (λ os. Met os n) (sym (gathered-append olds (occurrences t) (occurrences_all ts)))
      (gathered_kept (gathered olds (occurrences t)) (occurrences_all ts) n (occurring_met t olds n o)).0
  any_occurring_met (some t ts) olds n (inr o) =
      subst (λ os. Met os n) (sym (gathered-append olds (occurrences t) (occurrences_all ts)))
      (any_occurring_met ts (gathered olds (occurrences t)) n o)

pub variables_met : (c : Clause) (n : ℕ) → OccursAny n (trees_of (sides c)) → Met (variables_of c) n
variables_met c n o = subst (λ os. Met os n) (gathered_firsts (occurrences_all (trees_of (sides c))))
    (any_occurring_met (trees_of (sides c)) [] n o)

-- what is at the place of a number that was met
pub at_place : {X : Type 0} (f : ℕ → X) (olds : List ℕ) (n : ℕ) → Met olds n →
    slice_get (map f olds) (place_of olds n) ≡ Some (f n)
at_place f [] n h = absurd (omega (arith, h))
at_place f (m ∷ ms) n h = elim (eqb_tells m n) [
  | inl e ↦ ap (λ b. slice_get (f m ∷ map f ms) (cond (not b) (1 + place_of ms n) 0)) e.0 ∙ ap (λ k. Some (f k)) e.1
  | inr e ↦ (
      let p : place_of (m ∷ ms) n ≡ suc (place_of ms n) = ap (λ b. cond (not b) (1 + place_of ms n) 0) e.0
      ∙ omega arith in
      ap (λ k. slice_get (f m ∷ map f ms) k) p ∙ at_place f ms n (omega (arith, h, p)))
]

pub sort_at : (ctx : List SortId) (n : ℕ) (s : SortId) → slice_get ctx n ≡ Some s → slice_index_or ctx n bool_sort ≡ s
sort_at [] n s e = absurd (let q : None ≡ Some s = e in cc)
sort_at (r ∷ rs) zero s e = let q : Some r ≡ Some s = e in cc
sort_at (r ∷ rs) (suc n) s e = sort_at rs n s e

module _ (sig : Sig) (ctx : List SortId) (olds : List ℕ) where
  mutual
    sorted_tree :
        (t : Tree) (s : SortId) → ((n : ℕ) → Occurs n t → Met olds n) → Sorted sig ctx t s →
        Sorted sig (sorts_at ctx olds) (renumbered olds t) s
    sorted_tree (var n) s h p = at_place (λ m. slice_index_or ctx m bool_sort) olds n (h n refl)
        ∙ ap (λ r. Some r) (sort_at ctx n s p)
    sorted_tree (app f ts) s h p = (p.0, p.1, p.2, sorted_trees ts p.0.args h p.3)

    sorted_trees :
        (ts : Trees) (ss : List SortId) → ((n : ℕ) → OccursAny n ts → Met olds n) → SortedAll sig ctx ts ss →
        SortedAll sig (sorts_at ctx olds) (renumbered_all olds ts) ss
    sorted_trees none [] h p = tt
    sorted_trees none (s ∷ ss) h p = absurd p
    sorted_trees (some t ts) [] h p = absurd p
    sorted_trees (some t ts) (s ∷ ss) h p = (
      sorted_tree t s (λ n o. h n (inl o)) p.0,
      sorted_trees ts ss (λ n o. h n (inr o)) p.1,
    )

  sorted_equations :
      (es : List Equation) → ((n : ℕ) → OccursAny n (trees_of (sides_of es)) → Met olds n) →
      EquationsAreSorted sig ctx es → EquationsAreSorted sig (sorts_at ctx olds) (map (renumbered_equation olds) es)
  sorted_equations [] h p k d at = absurd (let q : None ≡ Some d = at in cc)
  sorted_equations (e ∷ es) h p zero d at =
      let q : Some (renumbered_equation olds e) ≡ Some d = at in
      let w : renumbered_equation olds e ≡ d = cc in
      let s = p 0 e refl in
      subst (λ (x : Equation). (r : SortId) × Sorted sig (sorts_at ctx olds) x.left r
      × Sorted sig (sorts_at ctx olds) x.right r) w
      (s.0, sorted_tree e.left s.0 (λ n o. h n (inl o)) s.1, sorted_tree e.right s.0 (λ n o. h n (inr (inl o))) s.2)
  sorted_equations (e ∷ es) h p (suc k) d at = sorted_equations es (λ n o. h n (inr (inr o)))
      (λ j x a. p (suc j) x a) k d at

  sort_in : (ss : List SortId) → AllByRecursion (IsSort sig) ss → IsSort sig bool_sort → (n : ℕ) →
      IsSort sig (slice_index_or ss n bool_sort)
  sort_in [] p b n = b
  sort_in (s ∷ ss) p b zero = p.0
  sort_in (s ∷ ss) p b (suc n) = sort_in ss p.1 b n

  sorts_in : (ns : List ℕ) → AllByRecursion (IsSort sig) ctx → IsSort sig bool_sort →
      AllByRecursion (IsSort sig) (sorts_at ctx ns)
  sorts_in [] p b = tt
  sorts_in (n ∷ ns) p b = (sort_in ctx p b n, sorts_in ns p b)

pub any_in_first : (n : ℕ) (ts us : List Tree) → OccursAny n (trees_of ts) → OccursAny n (trees_of (ts ++ us))
any_in_first n [] us o = absurd o
any_in_first n (t ∷ ts) us (inl o) = inl o
any_in_first n (t ∷ ts) us (inr o) = inr (any_in_first n ts us o)

pub any_in_second : (n : ℕ) (ts us : List Tree) → OccursAny n (trees_of us) → OccursAny n (trees_of (ts ++ us))
any_in_second n [] us o = o
any_in_second n (t ∷ ts) us o = inr (any_in_second n ts us o)

bool_in : (sig : Sig) → IsDeclared sig → IsSort sig bool_sort
bool_in sig d = let e : length sig.sorts ≡ suc (length d.sorts) = ap (λ (s : Sig). length s.sorts) d.is in
    omega (arith, e)

pub keeps_sorts : (sig : Sig) (c : Clause) → IsDeclared sig → ClauseIsSorted sig c → ClauseIsSorted sig (tidied c)
keeps_sorts sig c d s = record {
  variables = sorts_in sig c.ctx (variables_of c) (variables_of c) s.variables (bool_in sig d);
  premises = sorted_equations sig c.ctx (variables_of c) c.premises
      (λ n o. variables_met c n (any_in_first n (sides_of c.premises) (sides_of c.conclusions) o)) s.premises;
  conclusions = sorted_equations sig c.ctx (variables_of c) c.conclusions
      (λ n o. variables_met c n (any_in_second n (sides_of c.premises) (sides_of c.conclusions) o)) s.conclusions;
}
