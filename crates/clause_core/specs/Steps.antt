-- The table of steps: the row of each step at a node, over the nodes so far and the goals that may
-- be used, by their numbers.
use Rattle.std.specs.Prelude.{ℕ, List}
use Rattle.spec_core.specs.declared.records.Spec.{Spec}
use Rattle.clause_core.specs.declared.clauses.Clause.{Clause}
use Rattle.clause_core.specs.declared.steps.Step.{Step}
use Rattle.clause_core.specs.declared.steps.Step.TheVariants.{Trivial, Match, Absurd, Subsume, ByLemma, Rule, Case}
use Rattle.clause_core.specs.declared.steps.Step.TheVariants.{Decompose, Clash, Drop, Solve, Cover, Generalize}
use Rattle.clause_core.specs.declared.steps.Step.TheVariants.{Context, Hyp, Lemma}
use Rattle.clause_core.specs.Rows.{Row}
use Rattle.clause_core.specs.Closing.{trivial_row, match_row, absurd_row}
use Rattle.clause_core.specs.Subsuming.{subsume_row, by_lemma_row}
use Rattle.clause_core.specs.Rewriting.{rule_row}
use Rattle.clause_core.specs.CaseSplitting.{case_row}
use Rattle.clause_core.specs.Simplifying.{decompose_row, clash_row, drop_row}
use Rattle.clause_core.specs.Solving.{solve_row}
use Rattle.clause_core.specs.Covering.{cover_row}
use Rattle.clause_core.specs.Generalizing.{generalize_row}
use Rattle.clause_core.specs.Replacing.{context_row, hyp_row, lemma_row}

abbrev pub row_of : Spec → (ℕ → Type 0) → List Clause → Clause → Step → Row
row_of spec usable nodes c (Trivial conclusion) = trivial_row spec c conclusion
row_of spec usable nodes c (Match conclusion premise) = match_row spec c conclusion premise
row_of spec usable nodes c (Absurd premise) = absurd_row spec c premise
row_of spec usable nodes c (Subsume node terms) = subsume_row spec c nodes node terms
row_of spec usable nodes c (ByLemma name terms) = by_lemma_row spec c usable name terms
row_of spec usable nodes c (Rule place rule) = rule_row spec c place rule
row_of spec usable nodes c (Case place rule) = case_row spec c place rule
row_of spec usable nodes c (Decompose conclusion number) = decompose_row spec c conclusion number
row_of spec usable nodes c (Clash conclusion) = clash_row spec c conclusion
row_of spec usable nodes c (Drop conclusion number) = drop_row spec c conclusion number
row_of spec usable nodes c (Solve premise) = solve_row spec c premise
row_of spec usable nodes c (Cover variable patterns) = cover_row spec c variable.0 patterns
row_of spec usable nodes c (Generalize term) = generalize_row spec c term
row_of spec usable nodes c (Context place premise left) = context_row spec c place premise left
row_of spec usable nodes c (Hyp node terms place left) = hyp_row spec c nodes node terms place left
row_of spec usable nodes c (Lemma name terms place left) =
    lemma_row spec c usable name terms place left
