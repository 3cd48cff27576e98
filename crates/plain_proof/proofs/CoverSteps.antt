-- The first node's cases are those of the goal.
use Rattle.std.proofs.Common.{◌≡◌, ℕ, ◌+◌, ◌<◌, ◌≤◌, ◌⊎◌, List, [], ◌∷◌, Some, inl, inr, map, length, refl, ap, sym}
use Rattle.std.proofs.Common.{◌∙◌, subst, arith}
use Rattle.std.specs.Prelude.{slice_get, slice_index_or, zip}
use Rattle.std.specs.List.{AllByRecursion}
use Rattle.std.proofs.lemmas.List.{length-map, map-id}
use Rattle.term_core.specs.Tree.{Tree}
use Rattle.term_core.specs.Variables.{Occurs}
use Rattle.term_core.specs.declared.ids.SortId.{SortId}
use Rattle.term_core.proofs.Trees.{size_positive}
use Rattle.spec_core.specs.declared.records.Equation.{Equation}
use Rattle.spec_core.specs.declared.records.Spec.{Spec}
use Rattle.spec_core.specs.Declarations.{bool_sort}
use Rattle.spec_core.specs.Order.{constructors_of}
use Rattle.spec_core.specs.WellSorted.{sorts_of}
use Rattle.spec_core.proofs.Determined.{occurs_within}
use Rattle.clause_core.specs.declared.clauses.Clause.{Clause}
use Rattle.clause_core.specs.Limits.{IsWithin}
use Rattle.clause_core.specs.Covering.{ArePatternsFor, covered_by}
use Rattle.clause_core.specs.Tidied.{place_of, variables_of, tidied, written_clause}
use Rattle.clause_core.proofs.Renumbering.{Met}
use Rattle.clause_core.proofs.TidiedLimits.{tidied_within}
use Rattle.clause_core.proofs.TidiedSorts.{at_place, sort_at, variables_met}
use Rattle.test_sets.specs.Covers.{AreChildren}
use Rattle.test_sets.specs.TestSets.{applied, test_set_of, contexts_of}
use Rattle.test_sets.proofs.CoverSays.{cover_says}
use Rattle.test_sets.proofs.SortConstructors.{test_set_covers, test_set_patterns}
use Rattle.plain_proof.specs.Cases.{in_case, case_ctx}
use Rattle.plain_proof.specs.FirstSteps.{case_clause, FirstStep, FirstSteps}
use Rattle.plain_proof.specs.PlainProofs.{CasesClose}
use Rattle.plain_proof.specs.Limits.{equation_clause}
use Rattle.plain_proof.proofs.CasesOfClauses.{case_tidied}

-- each case has a length of at least two, for the sizes of its normal forms
cases_few : (spec : Spec) (ctx : List SortId) (e : Equation) (x : ℕ) (cs : List (ℕ × List SortId)) (n : ℕ) →
    CasesClose spec ctx e x cs n → length cs ≤ n
cases_few spec ctx e x [] n h = omega (arith, h)
cases_few spec ctx e x (c ∷ cs) n h = omega (
  arith,
  cases_few spec ctx e x cs h.1 h.3,
  h.2.length_is,
  h.4,
  size_positive h.2.left,
)

cases_within : (spec : Spec) (ctx : List SortId) (e : Equation) (x : ℕ) (cs : List (ℕ × List SortId)) (n : ℕ) →
    CasesClose spec ctx e x cs n → AllByRecursion IsWithin (map (case_clause ctx e x) cs)
cases_within spec ctx e x [] n h = tt
cases_within spec ctx e x (c ∷ cs) n h =
    let w = h.2.within in (
      (tidied_within (equation_clause (case_ctx ctx c) (in_case ctx x c e.left) (in_case ctx x c e.right))).1
          (record { equations = w.equations; depth = w.depth; size = w.size }),
      cases_within spec ctx e x cs h.1 h.3,
    )

module _ (ctx : List SortId) (e : Equation) (x : ℕ) (ranges : (n : ℕ) → Occurs n e.left ⊎ Occurs n e.right →
    n < length ctx) (occurs : Occurs x e.left ⊎ Occurs x e.right) where
  abbrev written : Clause
  written = equation_clause ctx e.left e.right

  abbrev number : ℕ
  number = place_of (variables_of written) x

  children_are : (cs : List (ℕ × List SortId)) →
      map (case_clause ctx e x) cs ≡ map
      (λ (q : List SortId × Tree). tidied (covered_by (tidied written) number q))
      (zip (map (λ (c : ℕ × List SortId). c.1) cs) (map applied cs))
  children_are [] = refl
  children_are (c ∷ cs) =
      let one = case_tidied ctx e.left e.right x c ranges occurs in
      let rest = children_are cs in
      λ i. sym one i ∷ rest i

  met_there : Met (variables_of written) x
  met_there = elim occurs as (λ _. Met (variables_of written) x)
      [ inl o ↦ variables_met written x (inl o) | inr o ↦ variables_met written x (inr (inl o)) ]

  first_of_clause : (above : Tree → Tree → Type 0) (spec : Spec) (sort : SortId) (long : ℕ) →
      slice_get ctx x ≡ Some sort → CasesClose spec ctx e x (constructors_of spec.sig sort) long →
      long < 10000 → FirstStep above spec written x sort (map (case_clause ctx e x) (constructors_of spec.sig sort))
  first_of_clause above spec sort long at cases short =
      let sig = spec.sig in
      let olds = variables_of written in
      let cs = constructors_of sig sort in
      let here : slice_get (tidied written).ctx number ≡ Some sort = at_place
      (λ i. slice_index_or ctx i bool_sort) olds x met_there
      ∙ ap (λ (s : SortId). Some s) (sort_at ctx x sort at) in
      let are : ArePatternsFor sig (tidied written) number
      (test_set_of sig sort) = record {
        sort = sort;
        is = here;
        contexts = contexts_of sig sort;
        each = test_set_patterns sig sort;
      } in
      let made = map (case_clause ctx e x) cs in
      let children : AreChildren sig (tidied written) number (test_set_of sig sort) are
      made = record {
        covering = test_set_covers sig sort;
        children = children_are cs;
        within = cases_within
            spec ctx e x cs long cases;
      } in
      let few : 1 + length made ≤ 10000 = omega (
        arith,
        length-map cs (case_clause ctx e x),
        cases_few spec ctx e x cs long cases,
        short,
      ) in
      record {
        variable = number;
        is = subst (λ (ns : List ℕ). slice_get ns number ≡ Some x) (map-id olds) (at_place (λ i. i) olds x met_there);
        says = (cover_says above).children spec (tidied written ∷ []) (tidied written) number
            (test_set_of sig sort) are made children few;
      }

pub first_steps : (above : Tree → Tree → Type 0) → FirstSteps above
first_steps above spec goal x long sorted p short =
    let ctx = sorts_of goal.vars in
    let e = p.equation in
    let sides = sorted.conclusions 0 e (ap (λ (es : List Equation). slice_get es 0) p.conclusion) in
    let ranges = λ (n : ℕ) (o : Occurs n e.left ⊎ Occurs n e.right).
    (elim o as (λ _. n < length ctx) [
      | inl q ↦ occurs_within spec.sig ctx e.left sides.0 sides.1 n q
      | inr q
          ↦ occurs_within spec.sig ctx e.right sides.0 sides.2 n q
    ]) in
    let is : equation_clause ctx e.left e.right ≡ written_clause goal = λ i.
    record { ctx = ctx; premises = sym p.no_premises i; conclusions = sym p.conclusion i } in
    subst (λ c. FirstStep above spec c x p.sort (map (case_clause ctx e x) (constructors_of spec.sig p.sort)))
    is (first_of_clause ctx e x ranges p.occurs above spec p.sort long p.sorted p.cases short)
