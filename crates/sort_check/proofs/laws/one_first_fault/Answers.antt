use Rattle.std.proofs.Common.{◌≡◌}
use Rattle.spec_core.proofs.Findings.{one_first, not_both}
use Rattle.sort_check.specs.FirstFault.{spec_tests}
use Rattle.sort_check.specs.declared.faults.SortFault.TheVariants.{Sort}
use Rattle.sort_check.proofs.laws.one_first_fault.Goals as goal

pub returns : goal.returns
returns c = record {
  one = λ raw at other kind another p q. let e : Sort at kind ≡ Sort other another = one_first (spec_tests raw)
      (Sort at kind) (Sort other another) p q in (cc, cc);
  none = λ raw at kind p q. not_both (spec_tests raw) (Sort at kind) p q;
}
