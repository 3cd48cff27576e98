-- The generated text is accepted, its report is read again and replayed, and so what is written counts
-- its claims.
use Rattle.std.proofs.Common.{◌≡◌, ◌∙◌, ℕ, List, ap, subst}
use Rattle.std.specs.Prelude.{IfOk, Result, Ok, Err}
use Rattle.spec_core.specs.declared.records.Spec.{Spec}
use Rattle.spec_core.specs.WellSorted.{IsWellSorted}
use Rattle.spec_order.specs.Orders.{above_of}
use Rattle.clause_core.specs.declared.reports.Report.{Report}
use Rattle.proof_script.specs.Laws.{OneReport}
use Rattle.proof_script.specs.Texts.{IsReportText}
use Rattle.acceptance.specs.Accepting.{IsAccepted}
use Rattle.load_text.specs.Accepted.{IsAcceptedAs as IsAcceptedAsLoad}
use Rattle.load_text.specs.LoadSpec.{load_spec}
use Rattle.command_line.specs.Usual.{usual_bounds}
use Rattle.reply_lines.specs.Lines.{load_lines}
use Rattle.search_claims.specs.Claims.{report_of}
use Rattle.spec_grammar.specs.declared.raw.RawSpec.{RawSpec}
use Rattle.file_replies.specs.declared.statuses.Status.TheVariants.{Done, No}
use Rattle.spike_cli.specs.Loads.{IsLoad, SomeReport}
use Rattle.accepted_spec.specs.Meanings.{IsAcceptedAs}
use Rattle.spike_cli.specs.Outcomes.{OneEnding, OneReplay}
use Rattle.accepted_spec.specs.Refusals.{IsRefusalOf}
use Rattle.spike_cli.specs.Replays.{IsReplay}

pub if_ok_more :
    {A E : Type 0} (P Q : A → Type 0) → ((a : A) → P a → Q a) → (result : Result A E) →
    IfOk result P → IfOk result Q
if_ok_more P Q more (Ok a) h = more a h
if_ok_more P Q more (Err e) h = h

-- bytes that are accepted as a specification mean no other one, and aren't refused
module _ (ending : OneEnding) (bytes : List ℕ) (wanted : Spec)
    (is : IsAcceptedAsLoad bytes wanted) where
  meant : IsAcceptedAs bytes is.raw wanted
  meant = record { derived = is.derives; stands = is.stands; admitted = is.admitted }

  pub same_spec : (raw : RawSpec) (spec : Spec) → IsAcceptedAs bytes raw spec → spec ≡ wanted
  same_spec raw spec a = (ending.one_specification bytes raw is.raw spec wanted a meant).1

  pub not_refused : (line : List ℕ) → IsRefusalOf bytes line → ⊥
  not_refused line refusal = ending.no_refusal bytes line is.raw wanted meant refusal

-- an accepted report isn't replayed with No
pub never_no :
    OneReplay → (spec : Spec) (bytes text : List ℕ) → IsWellSorted spec →
    ((report : Report) × IsReportText spec.sig bytes report × IsAccepted (above_of spec) spec report) →
    IsReplay spec bytes text No → ⊥
never_no one spec bytes text fine r replayed =
    let done : No ≡ Done = one.done spec bytes text No r.0 fine r.1 r.2 replayed in
    cc

-- the claims that are counted are those of the report that was finished
pub load_told :
    OneReport → (goals : ℕ) (spec : Spec) (bytes : List ℕ) (report : Report) →
    spec ≡ load_spec goals → IsWellSorted spec → SomeReport spec bytes →
    IsReportText spec.sig bytes report → (text : List ℕ) →
    text ≡ load_lines goals report.claims → IsLoad goals text
load_told one goals spec bytes report same fine some is text is_text =
    let wanted = load_spec goals in
    let sorted : IsWellSorted wanted = subst IsWellSorted same fine in
    let r : SomeReport wanted bytes = subst (λ (s : Spec). SomeReport s bytes) same some in
    let read : IsReportText wanted.sig bytes report =
    subst (λ (s : Spec). IsReportText s.sig bytes report) same is in
    let made = report_of usual_bounds.search.steps r.1.claims in
    let one_text : report ≡ made =
    one.one wanted.sig bytes report made sorted.signature read r.1.stands in
    record {
      report = bytes;
      status = r.0;
      finished = r.1;
      is_text = is_text ∙ ap (λ (x : Report). load_lines goals x.claims) one_text;
    }
