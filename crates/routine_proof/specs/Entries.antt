-- The list by which the step of a node is chosen: the candidates, entry by entry in their order.
-- Within an entry the least number or the first place goes first, then the least second number.
use Rattle.std.specs.Prelude.{ℕ, ◌==◌, Bool, true, false, List, [], ◌∷◌, ◌++◌, map, filter, length, slice_get}
use Rattle.std.specs.Prelude.{option_to_list}
use Rattle.std.specs.List.{range_with_len, list_any}
use Rattle.term_core.specs.Tree.{Tree}
use Rattle.spec_core.specs.declared.records.Goal.{Goal}
use Rattle.spec_core.specs.declared.records.Spec.{Spec}
use Rattle.clause_core.specs.declared.clauses.Clause.{Clause}
use Rattle.clause_core.specs.declared.steps.Place.{Place}
use Rattle.clause_core.specs.declared.steps.Step.{Step}
use Rattle.clause_core.specs.declared.steps.Step.TheVariants.{Trivial, Match, Absurd, Decompose, Clash, Solve, Rule}
use Rattle.clause_core.specs.declared.steps.Step.TheVariants.{Subsume, ByLemma, Hyp, Lemma, Case, Cover}
use Rattle.clause_core.specs.Tidied.{goal_clause}
use Rattle.test_sets.specs.TestSets.{test_set_of}
use Rattle.clause_places.specs.Spots.{Spot, spots, places}
use Rattle.clause_places.specs.Asked.{asked}
use Rattle.fitting_lists.specs.Questions.{Question}
use Rattle.fitting_lists.specs.Fitting.{fittings, rewritable, rewriting}
use Rattle.routine_proof.specs.Candidates.{Candidate, Asks, nothing, reference_not_neither, all_less, certain, each}
use Rattle.routine_proof.specs.Ways.{Node, ancestors}

-- the goals with these numbers, in the order of the specification
abbrev pub lemma_goals : Spec → List ℕ → List Goal
lemma_goals spec lemmas =
    each
    (filter (λ k. list_any (λ n. n == k) lemmas) (range_with_len 0 (length spec.goals)))
    (λ k. option_to_list (slice_get spec.goals k))

abbrev pub premises : Clause → List ℕ
premises c = range_with_len 1 (length c.premises)

abbrev pub conclusions : Clause → List ℕ
conclusions c = range_with_len 1 (length c.conclusions)

abbrev pub rules : Spec → List ℕ
rules spec = range_with_len 1 (length spec.rules)

-- the clause of the node with this number
abbrev pub clause_at : List Node → ℕ → List Clause
clause_at nodes j = map (λ (n : Node). n.clause) (option_to_list (slice_get nodes j))

-- the step of each fitting list
unfoldable pub by_fitting : Clause → Clause → Asks → (List Tree → Step) → List Candidate
by_fitting here referred asks step =
    map (λ (q : Question). record { question = q; step = step; asks = asks })
    (fittings here referred)

-- the steps that rewrite the term of the spot by the clause, from left to right and then from right
-- to left
unfoldable pub by_rewriting : Clause → (List Tree → Bool → Step) → Spot → List Candidate
by_rewriting referred step spot =
    map
    (λ (s : Bool × Tree). record {
      question = rewriting referred s.1 spot.term;
      step = λ list. step list s.0;
      asks = all_less;
    })
    (rewritable referred)

-- the cover of a variable by the test set of its sort
abbrev pub cover : Spec → Clause → ℕ → List Candidate
cover spec c v =
    each (option_to_list (slice_get c.ctx v))
    (λ s. certain (Cover (record { 0 = v }) (test_set_of spec.sig s)))

-- The entries, at the clause of a node
abbrev pub trivials : Clause → List Candidate
trivials c = each (conclusions c) (λ k. certain (Trivial k))

abbrev pub matches : Clause → List Candidate
matches c = each (conclusions c) (λ k. each (premises c) (λ j. certain (Match k j)))

abbrev pub absurds : Clause → List Candidate
absurds c = each (premises c) (λ j. certain (Absurd j))

abbrev pub premise_decompositions : Clause → List Candidate
premise_decompositions c = each (premises c) (λ j. certain (Decompose false j))

abbrev pub clashes : Clause → List Candidate
clashes c = each (conclusions c) (λ k. certain (Clash k))

abbrev pub solutions : Clause → List Candidate
solutions c = each (premises c) (λ j. certain (Solve j))

abbrev pub rule_uses : Spec → Clause → List Candidate
rule_uses spec c = each (places c) (λ (p : Place). each (rules spec) (λ n. certain (Rule p n)))

abbrev pub conclusion_decompositions : Clause → List Candidate
conclusion_decompositions c = each (conclusions c) (λ k. certain (Decompose true k))

-- by an ancestor: the reference is Less or Same
abbrev pub subsumptions : List Node → Node → List Candidate
subsumptions nodes node =
    each (ancestors node.way) (λ j.
    each (clause_at nodes j) (λ d.
    by_fitting node.clause d reference_not_neither (λ list. Subsume j list)))

abbrev pub lemma_instances : List Goal → Clause → List Candidate
lemma_instances lemmas c =
    each lemmas (λ (g : Goal). by_fitting c (goal_clause g) nothing (λ list. ByLemma g.name list))

-- by node 0 as a hypothesis
abbrev pub hypothesis_uses : List Node → Clause → List Candidate
hypothesis_uses nodes c =
    each (spots c) (λ (s : Spot).
    each (clause_at nodes 0) (λ d.
    by_rewriting d (λ list left. Hyp 0 list s.place left) s))

abbrev pub lemma_uses : List Goal → Clause → List Candidate
lemma_uses lemmas c =
    each lemmas (λ (g : Goal).
    each (spots c) (λ (s : Spot).
    by_rewriting (goal_clause g) (λ list left. Lemma g.name list s.place left) s))

abbrev pub case_splits : Spec → Clause → List Candidate
case_splits spec c = each (places c) (λ (p : Place). each (rules spec) (λ n. certain (Case p n)))

abbrev pub demanded_covers : Spec → Clause → List Candidate
demanded_covers spec c = each (asked spec c) (λ v. cover spec c v)

-- the candidates of the first list, then those of the second, and so on
abbrev pub joined : List (List Candidate) → List Candidate
joined [] = []
joined (entry ∷ more) = entry ++ joined more

-- the list, for a node over the nodes made so far, with these goals as lemmas
abbrev pub entries : Spec → List Goal → List Node → Node → List Candidate
entries spec lemmas nodes node =
    let c = node.clause in
    joined (
    trivials c
    ∷ matches c
    ∷ absurds c
    ∷ premise_decompositions c
    ∷ clashes c
    ∷ solutions c
    ∷ rule_uses spec c
    ∷ conclusion_decompositions c
    ∷ subsumptions nodes node
    ∷ lemma_instances lemmas c
    ∷ hypothesis_uses nodes c
    ∷ lemma_uses lemmas c
    ∷ case_splits spec c
    ∷ demanded_covers spec c
    ∷ []
    )
