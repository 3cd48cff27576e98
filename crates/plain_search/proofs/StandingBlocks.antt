-- The steps of the block of a plain proof may appear in a report.
use Rattle.std.proofs.Common.{◌≡◌, ℕ, zero, suc, ◌+◌, ◌^◌, ◌<◌, ◌≤◌, ◌⊎◌, inl, inr, List, [], ◌∷◌, ◌++◌, Bool, true}
use Rattle.std.proofs.Common.{false, Some, None, map, length, refl, sym, subst, lit<, lit≤, arith}
use Rattle.std.specs.Prelude.{Ok, Contains, slice_get}
use Rattle.std.specs.List.{AllByRecursion}
use Rattle.std.proofs.lemmas.List.{length-map}
use Rattle.std.proofs.lemmas.Option.{slice_get_within}
use Rattle.term_core.specs.Tree.{Tree, trees_of}
use Rattle.term_core.specs.Variables.{OccursAny, occurrences_all}
use Rattle.term_core.specs.declared.ids.SortId.{SortId}
use Rattle.term_core.proofs.Items.{all_at}
use Rattle.spec_core.specs.declared.records.Equation.{Equation}
use Rattle.spec_core.specs.declared.records.Goal.{Goal}
use Rattle.spec_core.specs.declared.records.Spec.{Spec}
use Rattle.spec_core.specs.declared.records.VarInfo.{VarInfo}
use Rattle.spec_core.specs.Sig.{Sig, IsSort}
use Rattle.spec_core.specs.Small.{AllHaveSmallValues}
use Rattle.spec_core.specs.Sorts.{Sorted}
use Rattle.spec_core.specs.WellSorted.{IsWellSorted, GoalIsSorted, EquationsAreSorted, sorts_of}
use Rattle.spec_core.proofs.Determined.{occurs_within}
use Rattle.clause_core.specs.declared.clauses.Clause.{Clause}
use Rattle.clause_core.specs.declared.steps.Step.{Step}
use Rattle.clause_core.specs.declared.answers.Child.{Child}
use Rattle.clause_core.specs.declared.answers.Children.{Children}
use Rattle.clause_core.specs.declared.answers.Why.TheVariants.{NoSuchNode, Sort, Limit}
use Rattle.clause_core.specs.ClauseLaws.{TidyingLaws}
use Rattle.clause_core.specs.Clauses.{sides_of, sides, ClauseIsSorted}
use Rattle.clause_core.specs.Equations.{swapped}
use Rattle.clause_core.specs.Limits.{IsWithin}
use Rattle.clause_core.specs.Places.{side}
use Rattle.clause_core.specs.Says.{Says}
use Rattle.clause_core.specs.Steps.{row_of}
use Rattle.clause_core.specs.Tidied.{IsTidied, variables_of, written_clause, goal_clause}
use Rattle.descent.specs.SortedChildren.{IsNode, ChildrenAreSorted}
use Rattle.acceptance.specs.Blocks.{clauses_of, StepMakes}
use Rattle.proof_script.specs.Standing.{StepStands}
use Rattle.normalization.specs.Narrow.{IsNarrow}
use Rattle.normalization.proofs.Fine.{sorted_narrow}
use Rattle.test_sets.specs.TestSets.{test_set_of}
use Rattle.test_sets.proofs.SortConstructors.{test_set_covers}
use Rattle.plain_proof.proofs.CasesOfClauses.{all_any_occurring}
use Rattle.plain_search.specs.Choices.{IsTrivial, IsUse, IsDecomposition, IsReference, IsPossible, IsChosen}
use Rattle.plain_search.specs.Blocks.{IsSplit, IsPlainBlock}
use Rattle.plain_search.specs.StandingBlocks.{SymbolNamesStand, PlainBlocksStand}
use Rattle.plain_search.proofs.BlockSteps.{nodes_more, nodes_at, at_number, first_splits, later_chosen}
use Rattle.plain_search.proofs.Conditions.{is_met}
use Rattle.plain_search.proofs.FewVariables.{firsts_below}
use Rattle.plain_search.proofs.ShallowTerms.{terms_shallow}
use Rattle.plain_search.proofs.StandingTerms.{path_stands, terms_stand, test_set_stands}
use Rattle.plain_search.proofs.StepBytes.{numbered_all_few}

all_of : {X : Type 0} (P : X → Type 0) (xs : List X) → ((k : ℕ) (x : X) → slice_get xs k ≡ Some x → P x) →
    AllByRecursion P xs
all_of P [] h = tt
all_of P (x ∷ xs) h = (h 0 x refl, all_of P xs (λ k y at. h (suc k) y at))

-- a clause as it is in a block at this number: after the first one it is within the limits
record IsAtPlace (spec : Spec) (j : ℕ) (c : Clause) : Type 0 where
  sorted : ClauseIsSorted spec.sig c
  is_tidied : IsTidied c
  within : 1 ≤ j → IsWithin c

abbrev AreInPlace : Spec → List Clause → Type 0
AreInPlace spec nodes = (j : ℕ) (d : Clause) → slice_get nodes j ≡ Some d → IsAtPlace spec j d

module _ (spec : Spec) where
  -- children after a list of nodes
  children_in_place : (j : ℕ) (ds : List Child) → 1 ≤ j →
      ((i : ℕ) (d : Child) → slice_get ds i ≡ Some d → IsNode spec.sig d.clause) → (k : ℕ) (c : Clause) →
      slice_get (map (λ (d : Child). d.clause) ds) k ≡ Some c → IsAtPlace spec (j + k) c
  children_in_place j [] pos h k c at = absurd (let q : None ≡ Some c = at in cc)
  children_in_place j (d ∷ ds) pos h zero c at =
      let q : Some d.clause ≡ Some c = at in
      let e : d.clause ≡ c = cc in
      let n = subst (λ x. IsNode spec.sig x) e (h 0 d refl) in
      record { sorted = n.sorted; is_tidied = n.is_tidied; within = λ p. n.within }
  children_in_place j (d ∷ ds) pos h (suc k) c at =
      let r = children_in_place j ds pos (λ i x get. h (suc i) x get) k c at in
      record { sorted = r.sorted; is_tidied = r.is_tidied; within = λ p. r.within (omega (arith, pos)) }

  more_in_place : (n : ℕ) (nodes : List Clause) (ds : List Child) → 1 ≤ n + length nodes →
      ((j : ℕ) (d : Clause) → slice_get nodes j ≡ Some d → IsAtPlace spec (n + j) d) →
      ((i : ℕ) (d : Child) → slice_get ds i ≡ Some d → IsNode spec.sig d.clause) → (j : ℕ) (d : Clause) →
      slice_get (nodes ++ map (λ (d : Child). d.clause) ds) j ≡ Some d → IsAtPlace spec (n + j) d
  more_in_place n [] ds pos h kids j d at = children_in_place n ds (omega (arith, pos)) kids j d at
  more_in_place n (c ∷ nodes) ds pos h kids zero d at = h 0 d at
  more_in_place n (c ∷ nodes) ds pos h kids (suc j) d at =
      let z : n + suc j ≡ suc n + j = omega arith in
      let shifted = λ (i : ℕ) (x : Clause) (get : slice_get nodes i ≡ Some x).
      (let y : n + suc i ≡ suc n + i = omega arith in subst (λ m. IsAtPlace spec m x) y (h (suc i) x get)) in
      subst (λ m. IsAtPlace spec m d) (sym z) (more_in_place (suc n) nodes ds (omega arith) shifted kids j d at)

module _ (above : Tree → Tree → Type 0) (keep : ChildrenAreSorted above) (spec : Spec) (fine : IsWellSorted spec) where
  next_in_place : (nodes : List Clause) (k : ℕ) (step : Step) (m : Children) → 1 ≤ length nodes →
      AreInPlace spec nodes → StepMakes above spec (Contains []) nodes k step m →
      AreInPlace spec (nodes ++ clauses_of m)
  next_in_place nodes k step m pos here p j d at =
      let kids = keep step spec [] nodes p.clause m fine (λ i c get. (here i c get).sorted)
      (here k p.clause p.is).sorted p.says in
      let z : 0 + j ≡ j = omega arith in
      let own = λ (i : ℕ) (c : Clause) (get : slice_get nodes i ≡ Some c). (let y : i ≡ 0 + i = omega arith in
      subst (λ m. IsAtPlace spec m c) y (here i c get)) in
      subst (λ n. IsAtPlace spec n d) z (more_in_place spec 0 nodes m.clauses (omega (arith, pos)) own kids j d at)

  module _ (names : SymbolNamesStand spec.sig) (rules : length spec.rules < 10 ^ 9) (start : Clause)
      (nodes : List Clause) (here : AreInPlace spec nodes) (c : Clause) (own : IsAtPlace spec 1 c) where
    abbrev Possible : (Step → Type 0) → Step → Type 0
    Possible IsOne step = IsPossible above spec (Contains []) start nodes c IsOne step

    trivial_stands : (step : Step) → Possible IsTrivial step → StepStands spec.sig step
    trivial_stands step p = subst (λ s. StepStands spec.sig s) (sym p.0) ((lit≤ tt, lit≤ tt), tt)

    decomposition_stands : (step : Step) → Possible IsDecomposition step → StepStands spec.sig step
    decomposition_stands step p = subst (λ s. StepStands spec.sig s) (sym p.0) ((lit≤ tt, lit≤ tt), tt)

    use_stands : (left : Bool) (step : Step) → Possible (IsUse spec c left) step → StepStands spec.sig step
    use_stands left step ((e, path, number, made, at, w, is), m, says) =
        let one = own.sorted.conclusions 0 e at in
        let narrow = side_narrow left one in
        let x = w.rule.listed in
        let below = slice_get_within spec.rules x.0 w.rule.rule x.2 in
        let few : number < 10 ^ 9 = omega (arith, x.1, below, rules) in
        subst (λ s. StepStands spec.sig s) (sym is)
        (record { number = (lit≤ tt, lit≤ tt); path = path_stands path (side left e) w.old w.at narrow }, (few, tt))
      where
        side_narrow : (left : Bool) → (s : SortId) × Sorted spec.sig c.ctx e.left s
            × Sorted spec.sig c.ctx e.right s → IsNarrow (side left e)
        side_narrow true o = sorted_narrow spec.sig c.ctx e.left o.0 fine.arities o.1
        side_narrow false o = sorted_narrow spec.sig c.ctx e.right o.0 fine.arities o.2

    few_variables : length c.ctx < 10 ^ 9
    few_variables =
        let w = own.within (omega arith) in
        omega (arith, numbered_all_few 0 (length c.ctx) (trees_of (sides c)) own.is_tidied, w.size)

    reference_stands : (es : List Equation) (step : Step) → Possible (IsReference start es) step →
        StepStands spec.sig step
    reference_stands es step (is, m, says) =
        let t = subst (λ s. Says above c nodes (row_of spec (Contains []) nodes c s) (Ok m)) is.2 says in
        let node = is_met m NoSuchNode t in
        let sorted = is_met m Sort node.1 in
        let within = is_met m Limit sorted.1 in
        let shallow = terms_shallow spec.sig c.ctx node.0.clause is.0 (here 0 node.0.clause node.0.is).is_tidied
        sorted.0 within.0 in
        subst (λ s. StepStands spec.sig s) (sym is.2) (
          lit< tt,
          (terms_stand spec.sig names c.ctx few_variables is.0 node.0.clause.ctx sorted.0 shallow, tt),
        )

    chosen_stands : (step : Step) → IsChosen above spec (Contains []) start nodes c step → StepStands spec.sig step
    chosen_stands step (inl p) = trivial_stands step p
    chosen_stands step (inr (a, inl p)) = use_stands true step p
    chosen_stands step (inr (a, inr (b, inl p))) = use_stands false step p
    chosen_stands step (inr (a, inr (b, inr (d, inl p)))) = decomposition_stands step p
    chosen_stands step (inr (a, inr (b, inr (d, inr (e, inl p))))) = reference_stands c.conclusions step p
    chosen_stands step (inr (a, inr (b, inr (d, inr (e, inr (f, p)))))) = reference_stands
        (map swapped c.conclusions) step p

first_alone : (spec : Spec) (start : Clause) → IsAtPlace spec 0 start → AreInPlace spec (start ∷ [])
first_alone spec start h zero d at = let q : Some start ≡ Some d = at in let e : start ≡ d = cc in
    subst (λ c. IsAtPlace spec 0 c) e h
first_alone spec start h (suc j) d at = absurd (let q : None ≡ Some d = at in cc)

sorts_in_range : (sig : Sig) (vars : List VarInfo) → AllByRecursion (λ (v : VarInfo). IsSort sig v.sort) vars →
    AllByRecursion (IsSort sig) (sorts_of vars)
sorts_in_range sig [] h = tt
sorts_in_range sig (v ∷ vars) h = (h.0, sorts_in_range sig vars h.1)

written_sorted : (spec : Spec) (goal : Goal) → GoalIsSorted spec.sig goal →
    ClauseIsSorted spec.sig (written_clause goal)
written_sorted spec goal sorted = record {
  variables = sorts_in_range spec.sig goal.vars sorted.variables;
  premises = sorted.premises;
  conclusions = sorted.conclusions;
}

-- each variable of a sorted clause is in its context
sides_below : (sig : Sig) (ctx : List SortId) (es : List Equation) → EquationsAreSorted sig ctx es → (n : ℕ) →
    OccursAny n (trees_of (sides_of es)) → n < length ctx
sides_below sig ctx [] h n o = absurd o
sides_below sig ctx (e ∷ es) h n (inl o) = let one = h 0 e refl in occurs_within sig ctx e.left one.0 one.1 n o
sides_below sig ctx (e ∷ es) h n (inr (inl o)) = let one = h 0 e refl in occurs_within sig ctx e.right one.0 one.2 n o
sides_below sig ctx (e ∷ es) h n (inr (inr o)) = sides_below sig ctx es (λ k d at. h (suc k) d at) n o

in_either : (xs ys : List Tree) (n : ℕ) → OccursAny n (trees_of (xs ++ ys)) → OccursAny n (trees_of xs)
    ⊎ OccursAny n (trees_of ys)
in_either [] ys n o = inr o
in_either (x ∷ xs) ys n (inl o) = inl (inl o)
in_either (x ∷ xs) ys n (inr o) = elim (in_either xs ys n o) as (λ _. OccursAny n (trees_of (x ∷ xs))
    ⊎ OccursAny n (trees_of ys)) [ inl p ↦ inl (inr p) | inr p ↦ inr p ]

occurs_below : (sig : Sig) (c : Clause) → ClauseIsSorted sig c → (n : ℕ) → OccursAny n (trees_of (sides c)) →
    n < length c.ctx
occurs_below sig c h n o = elim (in_either (sides_of c.premises) (sides_of c.conclusions) n o) as
    (λ _. n < length c.ctx) [
      | inl p ↦ sides_below sig c.ctx c.premises h.premises n p
      | inr p ↦ sides_below sig c.ctx c.conclusions h.conclusions n p
    ]

-- the variables of a goal's clause are no more than the goal's
variables_few : (spec : Spec) (goal : Goal) → IsWellSorted spec →
    ClauseIsSorted spec.sig (written_clause goal) → length (variables_of (written_clause goal)) ≤ length goal.vars
variables_few spec goal fine sorted =
    let c = written_clause goal in
    let ctx = sorts_of goal.vars in
    let below = λ (n : ℕ) (o : OccursAny n (trees_of (sides c))). occurs_below spec.sig c sorted n o in
    let all = all_any_occurring (λ n. n < length ctx) (trees_of (sides c)) below in
    omega (
      arith,
      firsts_below (length ctx) (occurrences_all (trees_of (sides c))) all,
      length-map goal.vars (λ (v : VarInfo). v.sort),
    )

not_empty : (sig : Sig) (s : SortId) → AllHaveSmallValues sig → IsSort sig s → 1 ≤ length (test_set_of sig s)
not_empty sig s small in_range =
    let v = small s.0 in_range in
    let a = test_set_covers sig s v.0 v.1 in
    omega (arith, a.2)

-- the first step
split_stands : (spec : Spec) (goal : Goal) (x : ℕ) (step : Step) → IsWellSorted spec →
    GoalIsSorted spec.sig goal → SymbolNamesStand spec.sig → ClauseIsSorted spec.sig (written_clause goal) →
    IsSplit spec goal x step → StepStands spec.sig step
split_stands spec goal x step fine sorted names written is =
    let there = slice_get_within (variables_of (written_clause goal)) is.variable.0 x is.is in
    let short : is.variable.0 < 10 ^ 9 = omega (
      arith,
      there,
      variables_few spec goal fine written,
      sorted.few_variables,
    ) in
    let in_range = all_at (IsSort spec.sig) (sorts_of goal.vars) written.variables x is.sort is.sorted in
    subst (λ s. StepStands spec.sig s) (sym is.covers) (
      short,
      (
        (
          not_empty spec.sig is.sort fine.signature.small in_range,
          test_set_stands spec.sig names fine.arities is.sort,
        ),
        tt,
      ),
    )

-- the nodes before each step
nodes_in_place :
    (above : Tree → Tree → Type 0) → ChildrenAreSorted above → (spec : Spec) → IsWellSorted spec →
    (goal : Goal) → IsAtPlace spec 0 (goal_clause goal) →
    (x : ℕ) (steps : List Step) (b : IsPlainBlock above spec goal x steps) →
    (k : ℕ) → k ≤ length steps → AreInPlace spec (nodes_at above spec goal x steps b k)
nodes_in_place above keep spec fine goal first x steps b zero le = first_alone spec (goal_clause goal) first
nodes_in_place above keep spec fine goal first x steps b (suc k) le =
    let t = at_number above spec goal x steps b k (omega arith) in
    let before = nodes_in_place above keep spec fine goal first x steps b k (omega arith) in
    subst (λ ns. AreInPlace spec ns) (sym (nodes_more (goal_clause goal) b.made k t.made_by t.makes_at))
    (next_in_place above keep spec fine (nodes_at above spec goal x steps b k) k t.step t.made_by (omega arith)
    before t.makes)

module _ (tidying : TidyingLaws) (above : Tree → Tree → Type 0) (keep : ChildrenAreSorted above) where
  pub blocks_stand : PlainBlocksStand above
  blocks_stand spec goal x steps fine sorted names rules b =
      let start = goal_clause goal in
      let written = written_sorted spec goal sorted in
      let first : IsAtPlace spec 0 start = record {
        sorted = tidying.keeps_sorts spec.sig (written_clause goal) fine.signature written;
        is_tidied = tidying.is_tidied (written_clause goal);
        within = λ p. absurd (omega (arith, p));
      } in
      all_of (StepStands spec.sig) steps (by first written)
    where
      by : IsAtPlace spec 0 (goal_clause goal) → ClauseIsSorted spec.sig (written_clause goal) →
          (k : ℕ) (step : Step) → slice_get steps k ≡ Some step → StepStands spec.sig step
      by first written zero step at = split_stands spec goal x step fine sorted names written
          (first_splits above spec goal x steps b step at)
      by first written (suc k) step at =
          let below = slice_get_within steps (suc k) step at in
          let t = at_number above spec goal x steps b (suc k) below in
          let nodes = nodes_at above spec goal x steps b (suc k) in
          let here = nodes_in_place above keep spec fine goal first x steps b (suc k) (omega (arith, below)) in
          let own = here (suc k) t.makes.clause t.makes.is in
          let placed : IsAtPlace spec 1
          t.makes.clause = record {
            sorted = own.sorted;
            is_tidied = own.is_tidied;
            within = λ p. own.within
                (omega arith);
          } in
          chosen_stands above keep spec fine names rules (goal_clause goal) nodes here t.makes.clause placed
          step (later_chosen above spec goal x steps b k step t.makes.clause at t.makes.is)
