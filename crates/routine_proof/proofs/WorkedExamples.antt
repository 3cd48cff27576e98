-- The examples: what computing settles, and the block of a sum.
use Rattle.std.proofs.Common.{refl}
use Rattle.spec_core.specs.Naturals.{naturals}
use Rattle.spec_core.specs.WellSorted.{IsWellSorted}
use Rattle.sample_specs.specs.SumOrder.{AboveInSums}
use Rattle.clause_core.specs.StepLaws.{OneAnswer}
use Rattle.routine_proof.specs.Candidates.{each}
use Rattle.routine_proof.specs.Entries.{by_fitting, by_rewriting}
use Rattle.routine_proof.specs.Examples.{WorkedExamples}
use Rattle.routine_proof.proofs.SumBlock.{block, first_proof, too_few_nodes}

pub worked_examples : OneAnswer AboveInSums → IsWellSorted naturals → WorkedExamples
unfolding each by_fitting by_rewriting
worked_examples one fine = record {
  block = block;
  first_proof = first_proof;
  too_few_nodes = too_few_nodes one fine;
  starts_of_unit = refl;
  split_covers = refl;
  behind_the_split = refl;
  ancestors_to_a_rule = refl;
  no_ancestors = refl;
  lemmas_in_order = refl;
  list_behind_unit = refl;
  list_with_premise = refl;
  cover_by_demand = refl;
}
