-- The block of a goal with a plain proof.
use Rattle.std.proofs.Common.{◌≡◌, ℕ, ◌+◌, ◌*◌, ◌^◌, suc, ◌<◌, ◌≤◌, ◌⊎◌, inl, inr, List, [], ◌∷◌, ◌++◌, take, length}
use Rattle.std.proofs.Common.{map, Bool, true, Some, refl, ap, sym, ◌∙◌, subst, arith, length-append}
use Rattle.std.specs.Prelude.{slice_get, slice_index_or, flat_map, Contains, Ok}
use Rattle.std.specs.List.{AllByRecursion}
use Rattle.std.proofs.lemmas.List.{length-map}
use Rattle.std.proofs.lemmas.Option.{slice_get_within}
use Rattle.term_core.specs.Tree.{Tree, trees_of}
use Rattle.term_core.specs.Variables.{Occurs}
use Rattle.term_core.specs.declared.ids.SortId.{SortId}
use Rattle.term_core.specs.declared.ids.VarId.{VarId}
use Rattle.term_core.proofs.Trees.{size_positive}
use Rattle.spec_core.specs.declared.records.Equation.{Equation}
use Rattle.spec_core.specs.declared.records.Spec.{Spec}
use Rattle.spec_core.specs.Declarations.{bool_sort}
use Rattle.spec_core.specs.Order.{constructors_of}
use Rattle.spec_core.specs.Sorts.{Sorted}
use Rattle.spec_core.specs.WellSorted.{IsWellSorted, sorts_of}
use Rattle.spec_core.proofs.Determined.{occurs_within}
use Rattle.clause_core.specs.declared.clauses.Clause.{Clause}
use Rattle.clause_core.specs.declared.clauses.Relation.TheVariants.{Same}
use Rattle.clause_core.specs.declared.steps.Step.{Step}
use Rattle.clause_core.specs.declared.steps.Step.TheVariants.{Cover}
use Rattle.clause_core.specs.declared.answers.Child.{Child}
use Rattle.clause_core.specs.declared.answers.Children.{Children}
use Rattle.clause_core.specs.Clauses.{sides}
use Rattle.clause_core.specs.Limits.{IsWithin}
use Rattle.clause_core.specs.Says.{Says}
use Rattle.clause_core.specs.Covering.{cover_row}
use Rattle.clause_core.specs.Steps.{row_of}
use Rattle.clause_core.specs.Tidied.{variables_of, tidied, IsTidied, written_clause, goal_clause}
use Rattle.acceptance.specs.Blocks.{clauses_of, nodes_of, StepsMake}
use Rattle.acceptance.specs.Claims.{ProvedBefore}
use Rattle.acceptance.specs.Strict.{AllAreAllowed}
use Rattle.normalization.specs.Narrow.{IsNarrow}
use Rattle.test_sets.specs.Laws.{same_children}
use Rattle.test_sets.specs.TestSets.{test_set_of}
use Rattle.test_sets.proofs.SortConstructors.{IsOneOf, each_of_sort}
use Rattle.plain_proof.specs.Cases.{in_case, case_ctx}
use Rattle.plain_proof.specs.FirstSteps.{case_clause, FirstSteps}
use Rattle.plain_proof.specs.Limits.{equation_clause}
use Rattle.plain_proof.specs.PlainProofs.{CaseCloses, CasesClose}
use Rattle.plain_proof.proofs.NarrowTerms.{case_narrow}
use Rattle.plain_search.specs.Choices.{IsChosen}
use Rattle.plain_search.specs.Blocks.{AreChosen}
use Rattle.plain_search.specs.Laws.{PlainBlocks}
use Rattle.plain_search.proofs.NodePairs.{node_is}
use Rattle.plain_search.proofs.PendingNodes.{Pending, pending_positive, within_node}
use Rattle.plain_search.proofs.StepBytes.{bytes, IsCheap, numbered_all_few}
use Rattle.plain_search.proofs.ClaimBytes.{cover_short, head_short, claim_parts}
use Rattle.plain_search.proofs.Building.{AllClosable, total, total_cost, aligned, rest}
use Rattle.plain_search.proofs.StrictBlocks.{all_allowed}
use Rattle.plain_search.proofs.NextSteps.{start, Chosen, has_steps}

same_clauses : (ds : List Clause) → clauses_of (same_children ds) ≡ ds
same_clauses [] = refl
same_clauses (d ∷ ds) = ap (λ es. d ∷ es) (same_clauses ds)

same_relations : (ds : List Clause) → AllByRecursion (λ (x : Child). x.relation ≡ Same) (same_children ds).clauses
same_relations [] = tt
same_relations (d ∷ ds) = (refl, same_relations ds)

module _ (spec : Spec) (fine : IsWellSorted spec) (ctx : List SortId) (e : Equation) (sort : SortId)
    (left : Sorted spec.sig ctx e.left sort) (right : Sorted spec.sig ctx e.right sort) (x : ℕ) (s : SortId) where
  narrow_in : (t : Tree) → Sorted spec.sig ctx t sort → (c : ℕ × List SortId) → IsOneOf spec.sig s c →
      IsNarrow (in_case ctx x c t)
  narrow_in t sorted c is = subst (λ (k : ℕ × List SortId). IsNarrow (in_case ctx x k t))
      (λ i. (c.0, is.args i)) (case_narrow spec fine ctx x c.0 is.info is.at t sort sorted)

  case_pending : (c : ℕ × List SortId) (n : ℕ) → IsOneOf spec.sig s c → CaseCloses spec ctx e x c n →
      Pending spec ctx e (case_clause ctx e x c) n true
  case_pending c n is h = record {
    over = case_ctx ctx c;
    a = in_case ctx x c e.left;
    b = in_case ctx x c e.right;
    left = h.left;
    right = h.right;
    left_uses = h.left_uses;
    right_uses = h.right_uses;
    strippings = h.strippings;
    instances = h.instances;
    is = refl;
    within = h.within;
    left_runs = h.left_runs;
    left_normal = h.left_normal;
    right_runs = h.right_runs;
    right_normal = h.right_normal;
    closes = h.closes;
    progress = λ q. h.progress;
    number = h.length_is;
    left_narrow = narrow_in e.left left c is;
    right_narrow = narrow_in e.right right c is;
  }

  -- the cases are pending, and their lengths add up
  record CasesPending (cs : List (ℕ × List SortId)) (n : ℕ) : Type 0 where
    marks : List (ℕ × Bool)
    closable : AllClosable (Pending spec ctx e) (map (case_clause ctx e x) cs) marks
    marked : AllByRecursion (λ (m : ℕ × Bool). m.1 ≡ true) marks
    sum : total marks ≡ n
    few : 2 * length cs ≤ n

  cases_pending : (cs : List (ℕ × List SortId)) (n : ℕ) → AllByRecursion (IsOneOf spec.sig s) cs →
      CasesClose spec ctx e x cs n → CasesPending cs n
  cases_pending [] n is h = record { marks = []; closable = tt; marked = tt; sum = sym h; few = omega (arith, h) }
  cases_pending (c ∷ cs) n is h =
      let r = cases_pending cs h.1 is.1 h.3 in
      record {
        marks = (h.0, true) ∷ r.marks;
        closable = (case_pending c h.0 is.0 h.2, r.closable);
        marked = (refl, r.marked);
        sum = omega (arith, r.sum, h.4);
        few = omega (arith, r.few, h.4, h.2.length_is, size_positive h.2.left, size_positive h.2.right);
      }

-- the steps after the first one, with what all steps make
record BlockOf (above : Tree → Tree → Type 0) (spec : Spec) (long : ℕ) (c : Clause) (split : Step) : Type 1 where
  others : List Step
  made : List Children
  makes : (usable : ℕ → Type 0) → StepsMake above spec usable (c ∷ []) 0 (split ∷ others) made
  finished : length (nodes_of c made) ≡ length (split ∷ others)
  chosen : AreChosen above spec c others made
  allowed : AllAreAllowed made
  count : length others ≤ long
  costs : IsCheap spec → total_cost (bytes spec.sig) others ≤ 213 * long

module _ (tidies : (c : Clause) → IsTidied (tidied c)) (above : Tree → Tree → Type 0) (spec : Spec)
    (fine : IsWellSorted spec) (ctx : List SortId) (e : Equation) (ranges : (n : ℕ) →
    Occurs n e.left ⊎ Occurs n e.right → n < length ctx) where
  abbrev first_node : Clause
  first_node = start tidies above spec fine ctx e ranges

  block : (cases : List Clause) (marks : List (ℕ × Bool)) (long : ℕ) (split : Step) →
      AllClosable (Pending spec ctx e) cases marks → AllByRecursion (λ (m : ℕ × Bool). m.1 ≡ true) marks →
      total marks ≡ long → long < 10000 →
      ((usable : ℕ → Type 0) →
      Says above first_node (first_node ∷ []) (row_of spec usable (first_node ∷ []) first_node split)
      (Ok (same_children cases))) → BlockOf above spec long first_node split
  block cases marks long split closable marked sum short says =
      let first = same_children cases in
      let chosen = Chosen tidies above spec fine ctx e ranges in
      let r = rest above spec chosen first_node (Pending spec ctx e) (IsCheap spec) (bytes spec.sig) 213
      (pending_positive spec ctx e) (has_steps tidies above spec fine ctx e ranges) (total marks)
      (first_node ∷ []) cases marks (omega arith) refl (omega (arith, sum, short)) closable in
      let same = same_clauses cases in
      let many = aligned above spec chosen first_node (Pending spec ctx e) (IsCheap spec) (bytes spec.sig) 213
      cases marks closable in
      record {
        others = r.steps;
        made = first ∷ r.made;
        makes = λ usable. (
          record { clause = first_node; is = refl; says = says usable },
          subst (λ (ds : List Clause). StepsMake above spec usable (first_node ∷ ds) 1 r.steps r.made)
              (sym same) (r.makes usable),
        );
        finished = omega (
          arith,
          r.finished,
          length-append (clauses_of first) (flat_map clauses_of r.made),
          ap (λ (ds : List Clause). length ds) same,
        );
        chosen = λ k step d get here.
            let nodes = λ (ds : List Clause). first_node ∷ (ds ++ flat_map clauses_of (take k r.made)) in
            let z : suc k ≡ 1 + k = omega arith in
            let there = subst (λ j. slice_get (nodes cases) j ≡ Some d) z
            (subst (λ (ds : List Clause). slice_get (nodes ds) (suc k) ≡ Some d) same here) in
            subst (λ (ds : List Clause). IsChosen above spec (Contains []) first_node (nodes ds) d step)
            (sym same) (r.chosen k step d get there);
        allowed = all_allowed first marks r.made refl (same_relations cases)
            (length-map cases (λ (d : Clause). record { clause = d; relation = Same }) ∙ many) marked r.fine r.marked;
        count = omega (arith, r.count, sum);
        costs = λ z. omega (arith, r.costs z, ap (λ n. 213 * n) sum);
      }

few_arguments : (spec : Spec) → IsWellSorted spec → (s : SortId) (cs : List (ℕ × List SortId)) →
    AllByRecursion (IsOneOf spec.sig s) cs → AllByRecursion (λ (c : ℕ × List SortId). length c.1 ≤ 8) cs
few_arguments spec fine s [] h = tt
few_arguments spec fine s (c ∷ cs) h = (
  omega (
    arith,
    fine.arities c.0 h.0.info h.0.at,
    ap (λ (ss : List SortId). length ss) h.0.args,
  ),
  few_arguments spec fine s cs h.1,
)

pub plain_blocks : ((c : Clause) → IsTidied (tidied c)) → (above : Tree → Tree → Type 0) → FirstSteps above →
    PlainBlocks above
plain_blocks tidies above firsts spec goal x long fine sorted p short =
    let ctx = sorts_of goal.vars in
    let e = p.equation in
    let one_sort = sorted.conclusions 0 e (ap (λ (es : List Equation). slice_get es 0) p.conclusion) in
    let ranges = λ (n : ℕ) (o : Occurs n e.left ⊎ Occurs n e.right).
    (elim o as (λ _. n < length ctx) [
      | inl q ↦ occurs_within spec.sig ctx e.left one_sort.0 one_sort.1 n q
      | inr q ↦ occurs_within spec.sig ctx e.right one_sort.0 one_sort.2 n q
    ]) in
    let written : equation_clause ctx e.left e.right ≡ written_clause goal = λ i.
    record { ctx = ctx; premises = sym p.no_premises i; conclusions = sym p.conclusion i } in
    let node : goal_clause goal ≡ start tidies above spec fine ctx e ranges = ap (λ c. tidied c) (sym written)
    ∙ node_is ctx e.left e.right in
    let cs = constructors_of spec.sig p.sort in
    let of_sort = each_of_sort spec.sig p.sort in
    let first = firsts spec goal x long sorted p short in
    let cases = cases_pending spec fine ctx e one_sort.0 one_sort.1 one_sort.2 x p.sort cs long of_sort p.cases in
    let variable : VarId = record { 0 = first.variable } in
    let patterns = test_set_of spec.sig p.sort in
    let split = Cover variable patterns in
    let made = map (case_clause ctx e x) cs in
    let says = subst (λ c. Says above c (c ∷ []) (cover_row spec c first.variable patterns)
    (Ok (same_children made))) node first.says in
    let built = block tidies above spec fine ctx e ranges made cases.marks long split cases.closable
    cases.marked cases.sum short (λ usable. says) in
    let b : BlockOf above spec long (goal_clause goal) split = subst (λ c. BlockOf above spec long c split)
    (sym node) built in
    let within : IsWithin (goal_clause goal) = subst (λ c. IsWithin (tidied c)) written
    (within_node ctx e.left e.right p.within) in
    record {
      steps = split ∷ b.others;
      plain = record {
        split = split;
        others = b.others;
        is = refl {a = split ∷ b.others};
        splits = record { variable = variable; sort = p.sort; is = first.is; sorted = p.sorted; covers = refl };
        made = b.made;
        makes = b.makes (Contains []);
        finished = b.finished;
        chosen = b.chosen;
      };
      proves = λ before. record {
        within = within;
        made = b.made;
        makes = b.makes (ProvedBefore spec before);
        finished = b.finished;
        allowed = b.allowed;
      };
      few = omega (arith, b.count);
      short = λ small name names rules.
          let many : length (split ∷ b.others) < 10 ^ 4 = omega (arith, b.count, small) in
          let small_variable : first.variable < 10 ^ 4 = omega (
            arith,
            slice_get_within (variables_of (written_clause goal)) first.variable x first.is,
            length-map (variables_of (written_clause goal)) (λ n. slice_index_or ctx n bool_sort),
            numbered_all_few 0 (length (goal_clause goal).ctx) (trees_of (sides (goal_clause goal)))
                (tidies (written_clause goal)),
            within.size,
          ) in
          omega (
            arith,
            claim_parts spec.sig goal.name split b.others,
            head_short spec.sig goal.name (split ∷ b.others) name many,
            cover_short spec.sig names variable cs small_variable (few_arguments spec fine p.sort cs of_sort),
            b.costs (names, rules),
            cases.few,
            small,
          );
    }
