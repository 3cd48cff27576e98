-- The entries of the list at a node, by what is at hand there.
use Rattle.std.specs.Prelude.{ℕ, List, [], ◌∷◌, option_to_list, slice_get}
use Rattle.clause_core.specs.declared.clauses.Clause.{Clause}
use Rattle.inference_rules.specs.Answers.{clauses_of}
use Rattle.routine_proof.specs.Candidates.{Candidate, each}
use Rattle.routine_proof.specs.Entries.{trivials, matches, absurds, premise_decompositions, clashes, solutions}
use Rattle.routine_proof.specs.Entries.{rule_uses, conclusion_decompositions, case_splits, demanded_covers}
use Rattle.routine_proof.specs.Ways.{Node, ancestors}
use Rattle.proof_search.specs.declared.at.At.{At}
use Rattle.proof_search.specs.declared.choosing.Entry.{Entry}
use Rattle.proof_search.specs.declared.choosing.Entry.TheVariants.{Trivials, Matches, Absurds, PremiseDecompositions}
use Rattle.proof_search.specs.declared.choosing.Entry.TheVariants.{Clashes, Solutions, RuleUses}
use Rattle.proof_search.specs.declared.choosing.Entry.TheVariants.{ConclusionDecompositions, Subsumptions}
use Rattle.proof_search.specs.declared.choosing.Entry.TheVariants.{LemmaInstances, HypothesisUses, LemmaUses}
use Rattle.proof_search.specs.declared.choosing.Entry.TheVariants.{CaseSplits, DemandedCovers}
use Rattle.proof_search.specs.declared.setting.LemmaGoal.{LemmaGoal}
use Rattle.proof_search.specs.Building.{nodes_in}
use Rattle.proof_search.specs.Referring.{node, goal, closings, rewritings}

-- the clause of the node with this number
abbrev pub clause_of : At → ℕ → List Clause
clause_of at j = option_to_list (slice_get (clauses_of at.nodes.now) j)

-- the ancestors of the node from which some step on the way to it isn't a cover
abbrev pub ancestors_at : At → List ℕ
ancestors_at at =
    each (option_to_list (slice_get (nodes_in at.building.now) at.number))
    (λ (n : Node). ancestors n.way)

abbrev pub subsumptions_by : At → ℕ → List Candidate
subsumptions_by at j = each (clause_of at j) (λ d. closings at.here.now (node j) d)

abbrev pub lemma_instances_by : At → LemmaGoal → List Candidate
lemma_instances_by at lemma = closings at.here.now (goal lemma.name) lemma.clause

abbrev pub lemma_uses_by : At → LemmaGoal → List Candidate
lemma_uses_by at lemma = rewritings at.here.now (goal lemma.name) lemma.clause

-- the candidates of an entry of the list
abbrev pub candidates_of : At → Entry → List Candidate
candidates_of at Trivials = trivials at.here.now
candidates_of at Matches = matches at.here.now
candidates_of at Absurds = absurds at.here.now
candidates_of at PremiseDecompositions = premise_decompositions at.here.now
candidates_of at Clashes = clashes at.here.now
candidates_of at Solutions = solutions at.here.now
candidates_of at RuleUses = rule_uses at.setting.now.spec.now at.here.now
candidates_of at ConclusionDecompositions = conclusion_decompositions at.here.now
candidates_of at Subsumptions = each (ancestors_at at) (subsumptions_by at)
candidates_of at LemmaInstances = each at.setting.now.goals.items (lemma_instances_by at)
candidates_of at HypothesisUses =
    each (clause_of at 0) (λ d. rewritings at.here.now (node 0) d)
candidates_of at LemmaUses = each at.setting.now.goals.items (lemma_uses_by at)
candidates_of at CaseSplits = case_splits at.setting.now.spec.now at.here.now
candidates_of at DemandedCovers = demanded_covers at.setting.now.spec.now at.here.now

-- all entries, in their order
abbrev pub all_entries : List Entry
all_entries =
    Trivials
    ∷ Matches
    ∷ Absurds
    ∷ PremiseDecompositions
    ∷ Clashes
    ∷ Solutions
    ∷ RuleUses
    ∷ ConclusionDecompositions
    ∷ Subsumptions
    ∷ LemmaInstances
    ∷ HypothesisUses
    ∷ LemmaUses
    ∷ CaseSplits
    ∷ DemandedCovers
    ∷ []
