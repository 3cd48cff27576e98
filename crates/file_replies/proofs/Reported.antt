-- What a text stands for is well sorted, and what it is accepted as has reports.
use Rattle.std.proofs.Common.{ℕ, ◌≤◌, List, length, arith}
use Rattle.std.proofs.lemmas.Slice.Zip.{AllZip-long}
use Rattle.spec_core.specs.declared.records.Spec.{Spec}
use Rattle.spec_core.specs.WellSorted.{IsWellSorted}
use Rattle.spec_grammar.specs.declared.raw.RawSpec.{RawSpec}
use Rattle.spec_grammar.specs.KeepsLimits.{KeepsLimits}
use Rattle.spec_grammar.proofs.KeepsLimits.{keeps_limits}
use Rattle.sort_check.specs.Goals.{GoalStands}
use Rattle.sort_check.specs.StandsFor.{StandsFor}
use Rattle.sort_check.proofs.WellSortedSpecs.{stands_well_sorted}
use Rattle.accepted_spec.specs.Meanings.{IsAcceptedAs, TextStandsFor}
use Rattle.file_replies.specs.Reported.{HasReports}
use Rattle.file_replies.proofs.StandingNames.{names_stand, rules_few}

pub well_sorted_meaning : (bytes : List ℕ) (spec : Spec) → TextStandsFor bytes spec → IsWellSorted spec
well_sorted_meaning bytes spec a = stands_well_sorted a.0 spec (keeps_limits bytes a.0 a.1) a.2

goals_few : (raw : RawSpec) (spec : Spec) → KeepsLimits raw → StandsFor raw spec → length spec.goals ≤ 200
goals_few raw spec limits stands =
    let as_many = AllZip-long (GoalStands spec.sig) raw.goals spec.goals stands.numbered.goals in
    omega (arith, as_many, limits.few_goals)

pub has_reports : (bytes : List ℕ) (raw : RawSpec) (spec : Spec) → IsAcceptedAs bytes raw spec → HasReports spec
has_reports bytes raw spec a = record {
  fine = well_sorted_meaning bytes spec (raw, a.derived, a.stands);
  admitted = a.admitted;
  names = names_stand bytes raw spec a.derived a.stands;
  few_rules = omega (arith, rules_few raw spec (keeps_limits bytes raw a.derived) a.stands);
  few_goals = goals_few raw spec (keeps_limits bytes raw a.derived) a.stands;
}
