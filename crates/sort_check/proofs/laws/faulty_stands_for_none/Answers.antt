use Rattle.spec_core.proofs.Findings.{not_both}
use Rattle.sort_check.specs.FirstFault.{spec_tests, ground_tests}
use Rattle.sort_check.specs.declared.faults.SortFault.TheVariants.{Sort}
use Rattle.sort_check.proofs.laws.faulty_stands_for_none.Goals as goal

pub returns : goal.returns
returns c = record {
  specification = λ raw at kind first spec stands. not_both (spec_tests raw) (Sort at kind) stands.clean first;
  term = λ sig raw at kind first t stands. not_both (ground_tests sig raw) (Sort at kind) stands.clean first;
}
