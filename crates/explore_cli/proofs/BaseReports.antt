-- The report of `prove` is read as the one that was written, and is an exploration that adds nothing.
use Rattle.std.proofs.Common.{◌≡◌, ◌≤◌, ℕ, List, length, subst}
use Rattle.spec_core.specs.declared.records.Spec.{Spec}
use Rattle.spec_core.specs.WellSorted.{IsWellSorted}
use Rattle.spec_grammar.specs.declared.raw.RawSpec.{RawSpec}
use Rattle.spec_grammar.specs.Limits.{file_limit}
use Rattle.spec_order.specs.Orders.{above_of}
use Rattle.clause_core.specs.declared.reports.Report.{Report}
use Rattle.accepted_spec.specs.Meanings.{IsAcceptedAs}
use Rattle.acceptance.specs.Accepting.{IsAccepted}
use Rattle.command_line.specs.Usual.{usual_bounds}
use Rattle.explorations.specs.Laws.{NothingAdded}
use Rattle.proof_script.specs.Laws.{OneReport}
use Rattle.search_claims.specs.Claims.{report_of}
use Rattle.soundness.specs.ReportTruth.{ReportIsTrue}
use Rattle.explore_cli.specs.Bases.{IsBase}
use Rattle.explore_cli.specs.Written.{Explores}

module _
    (one : OneReport) (spec : Spec) (fine : IsWellSorted spec) (text : List ℕ) (base : Report)
    (is : IsBase spec text base) where
  same : report_of usual_bounds.search.steps is.of_prove.claims ≡ base
  same =
      one.one spec.sig text (report_of usual_bounds.search.steps is.of_prove.claims) base
      fine.signature is.of_prove.stands is.is_text

  accepted : IsAccepted (above_of spec) spec base
  accepted = subst (λ (r : Report). IsAccepted (above_of spec) spec r) same is.of_prove.accepted

  true : ReportIsTrue spec base
  true = subst (λ (r : Report). ReportIsTrue spec r) same is.of_prove.true

  -- the text of a file with this report
  pub explores_alone :
      NothingAdded → (bytes : List ℕ) (raw : RawSpec) → length bytes ≤ file_limit bytes →
      IsAcceptedAs bytes raw spec → Explores spec bytes raw spec text base
  explores_alone nothing bytes raw short accepted_as = record {
    base_text = text;
    base = base;
    of_prove = is;
    is_exploration = nothing bytes text raw spec base short accepted_as is.is_text accepted true;
    short = is.of_prove.short;
  }
