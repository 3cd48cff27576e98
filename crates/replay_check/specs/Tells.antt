-- What replaying a report answers.
use Rattle.term_core.specs.Tree.{Tree}
use Rattle.spec_core.specs.declared.records.Spec.{Spec}
use Rattle.clause_core.specs.declared.reports.Report.{Report}
use Rattle.acceptance.specs.Accepting.{IsAccepted}
use Rattle.acceptance.specs.Refusals.{IsFirstRefusal}
use Rattle.soundness.specs.ReportTruth.{ReportIsTrue}
use Rattle.replay_check.specs.declared.answers.Answer.{Answer}
use Rattle.replay_check.specs.declared.answers.Answer.TheVariants.{Yes, No}

-- by this order on terms the report is accepted, and what it claims is true; or this is its first
-- refusal
abbrev pub Tells : (Tree → Tree → Type 0) → Spec → Report → Answer → Type 0
Tells above spec report Yes = IsAccepted above spec report × ReportIsTrue spec report
Tells above spec report (No line why) = IsFirstRefusal above spec report line why
