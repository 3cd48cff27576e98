-- A report to which an accepted one leads has a text, if the accepted one has.
use Rattle.std.proofs.Common.{◌≡◌, ℕ, ◌+◌, ◌-◌, ◌*◌, ◌≤◌, ◌<◌, List, [], ◌∷◌, ◌++◌, Bool, Some, refl, sym}
use Rattle.std.proofs.Common.{◌∙◌, ap}
use Rattle.std.proofs.Common.{subst, take, arith, length, length-append, length-take, map}
use Rattle.std.specs.Prelude.{slice_get, slice_set}
use Rattle.std.specs.List.{AllByRecursion}
use Rattle.std.proofs.lemmas.List.{take_all}
use Rattle.std.proofs.lemmas.Option.{slice_get_within}
use Rattle.term_core.specs.Tree.{Tree}
use Rattle.term_core.proofs.Items.{all_at}
use Rattle.spec_core.specs.declared.records.Goal.{Goal}
use Rattle.spec_core.specs.declared.records.Spec.{Spec}
use Rattle.spec_core.specs.Sig.{Sig}
use Rattle.spec_core.specs.WellSorted.{IsWellSorted}
use Rattle.clause_core.specs.declared.clauses.Clause.{Clause}
use Rattle.clause_core.specs.declared.reports.Claim.{Claim}
use Rattle.clause_core.specs.declared.reports.Report.{Report}
use Rattle.clause_core.specs.declared.steps.Step.{Step}
use Rattle.clause_core.specs.ClauseLaws.{OneRelation}
use Rattle.clause_core.specs.Limits.{IsWithin}
use Rattle.clause_core.specs.Tidied.{goal_clause}
use Rattle.acceptance.specs.Accepting.{IsAccepted}
use Rattle.acceptance.specs.Blocks.{nodes_of}
use Rattle.acceptance.specs.Claims.{ProvedBefore}
use Rattle.block_links.proofs.LinksAlone.{there_mapped}
use Rattle.block_steps.proofs.AcceptedInRange.{accepted_in_range}
use Rattle.proof_script.specs.Claims.{claim_text, claims_text, header_lines, last_line, report_text}
use Rattle.proof_script.specs.Names.{IsReportName}
use Rattle.proof_script.specs.Reports.{ClaimStands, ReportStands}
use Rattle.proof_script.specs.Standing.{StepStands}
use Rattle.proof_script.specs.Texts.{IsFew, IsReportText}
use Rattle.proof_script.specs.Words.{lines_text}
use Rattle.script_trim.specs.Cut.{new_number, renumbered, staying}
use Rattle.script_trim.specs.Standing.{HasText, TrimmedReportsStand}
use Rattle.script_trim.specs.Trimmed.{proves, with_steps, Closes, LeadsTo, done, cut}
use Rattle.script_trim.proofs.AllItems.{all_set}
use Rattle.script_trim.proofs.ClosingKinds.{closing_has}
use Rattle.script_trim.proofs.NodesWithin.{nodes_within}
use Rattle.script_trim.proofs.OneCut.{anew_bound, length_rest}
use Rattle.script_trim.proofs.Places.{set_same}
use Rattle.script_trim.proofs.QuickTests.{finished, shown}
use Rattle.script_trim.proofs.Staying.{staying_at}
use Rattle.script_trim.proofs.StayingChildren.{stays_before}
use Rattle.script_trim.proofs.StandingSteps.{own_terms, same_terms, terms_in_line, left_stand, StandsWithFew}
use Rattle.script_trim.proofs.StandingSteps.{closing_stands}
use Rattle.script_trim.proofs.TextBound.{claim_length, line_within}

module _ (sig : Sig) where
  abbrev IsShortClaim : Claim → Type 0
  IsShortClaim claim = length (claim_text sig claim) ≤ 300000

  few_texts :
      (n : ℕ) (claims : List Claim) → AllByRecursion IsShortClaim claims →
      IsFew n (map (claim_text sig) claims)
  few_texts n [] h = tt
  few_texts n (c ∷ cs) h =
      let text = claim_text sig c in
      (omega (arith, h.0, length-take n text), few_texts (n - length text) cs h.1)

  short_claims :
      (n : ℕ) (claims : List Claim) → length (claims_text sig claims) ≤ n →
      IsFew n (map (claim_text sig) claims) → AllByRecursion IsShortClaim claims
  short_claims n [] l h = tt
  short_claims n (c ∷ cs) l h =
      let text = claim_text sig c in
      let parts = length-append text (claims_text sig cs) in
      let whole : length (take n text) ≡ length text =
      ap (λ (t : List ℕ). length t) (take_all n text (omega (arith, l, parts))) in (
        omega (arith, whole, h.0),
        short_claims (n - length text) cs (omega (arith, l, parts)) h.1,
      )

  pub claims_length :
      (claims : List Claim) → AllByRecursion IsShortClaim claims →
      length (claims_text sig claims) ≤ 300000 * length claims
  claims_length [] h = omega arith
  claims_length (c ∷ cs) h =
      let parts = length-append (claim_text sig c) (claims_text sig cs) in
      omega (arith, h.0, parts, claims_length cs h.1)

  pub report_length :
      (report : Report) →
      length (report_text sig report)
      ≡ length (lines_text sig (header_lines report.steps))
      + length (claims_text sig report.claims) + length (lines_text sig (last_line ∷ []))
  report_length report =
      let header = lines_text sig (header_lines report.steps) in
      let claims = claims_text sig report.claims in
      let last = lines_text sig (last_line ∷ []) in
      let a = length-append header (claims ++ last) in
      let b = length-append claims last in
      omega (arith, a, b)

module _
    (above : Tree → Tree → Type 0) (one : OneRelation above) (spec : Spec)
    (fine : IsWellSorted spec)
    (names : AllByRecursion (λ (goal : Goal). IsReportName goal.name) spec.goals)
  where
    -- what each cut keeps
    record IsStanding (report : Report) : Type 0 where
      accepted : IsAccepted above spec report
      stands : ReportStands spec.sig report
      short : AllByRecursion (IsShortClaim spec.sig) report.claims

    module _
        (report : Report) (old : IsStanding report) (number i : ℕ) (step : Step) (rest : List Step)
        (closes : Closes above spec report number i step rest)
      where
        abbrev goal : Goal
        goal = closes.claim.goal

        abbrev steps : List Step
        steps = closes.claim.steps

        abbrev nodes : List Clause
        nodes = nodes_of (goal_clause goal) closes.claim.made

        abbrev stays : ℕ → Bool
        stays = closes.cut.stays

        abbrev usable : ℕ → Type 0
        usable = ProvedBefore spec (take number report.claims)

        claim_stands : ClaimStands spec.sig (proves goal.name steps)
        claim_stands =
            all_at (ClaimStands spec.sig) report.claims old.stands.claims number
            (proves goal.name steps) closes.claim.is

        each_has_step : length nodes ≡ length steps
        each_has_step = finished above one spec fine report old.accepted number closes.claim

        within : i < length steps
        within = omega (arith, slice_get_within nodes i closes.node closes.node_is, each_has_step)

        node_within : IsWithin closes.node
        node_within =
            let start = (shown above one spec fine report old.accepted number closes.claim).within in
            all_at IsWithin nodes
            (nodes_within above spec usable (goal_clause goal ∷ []) 0 steps closes.claim.made
            closes.claim.makes (start, tt))
            i closes.node closes.node_is

        -- the closing step is among those that are left
        is_left : slice_get rest (new_number stays i) ≡ Some (renumbered stays step)
        is_left =
            let replaced = slice_set steps i step in
            let itself =
            stays_before stays i above spec usable (goal_clause goal) steps closes.claim.made
            closes.claim.makes each_has_step closes.cut.which within i (omega arith) in
            let at = staying_at stays i replaced step (set_same steps i step within) itself in
            ap (λ r. slice_get r (new_number stays i)) closes.cut.is
            ∙ there_mapped (renumbered stays) (staying stays 0 replaced) (new_number stays i) step at

        few_terms : length (own_terms step) ≤ 300000
        few_terms =
            let left = renumbered stays step in
            let same : length (own_terms left) ≡ length (own_terms step) =
            ap (λ (ts : List Tree). length ts) (same_terms stays step) in
            let line = line_within spec.sig rest (new_number stays i) left is_left in
            let whole = claim_length spec.sig goal.name rest in
            omega (arith, same, terms_in_line spec.sig left, line, whole, closes.short)

        step_stands : StepStands spec.sig step
        step_stands =
            let few : length nodes ≤ 10000 = omega (arith, each_has_step, claim_stands.outcome.0) in
            closing_has (StandsWithFew spec.sig) spec nodes closes.node
            (closing_stands spec nodes closes.node names few node_within) step closes.closing few_terms

        left_stands : ClaimStands spec.sig (proves goal.name rest)
        left_stands =
            let left = length_rest steps closes.claim.made i step rest closes.cut in
            let few : length rest ≤ 10000 =
            omega (arith, left, anew_bound stays (length steps), claim_stands.outcome.0) in
            let all =
            left_stand spec.sig stays steps i step claim_stands.outcome.1 step_stands in
            record {
              goal = claim_stands.goal;
              outcome =
                  (few, subst (λ s. AllByRecursion (StepStands spec.sig) s) (sym closes.cut.is) all);
            }

        cut_stands : IsStanding (with_steps report number goal.name rest)
        cut_stands = record {
          accepted = closes.accepted;
          stands = record {
            steps = old.stands.steps;
            claims =
                all_set (ClaimStands spec.sig) report.claims number (proves goal.name rest)
                old.stands.claims left_stands;
          };
          short =
              all_set (IsShortClaim spec.sig) report.claims number (proves goal.name rest) old.short
              closes.short;
        }

    last_stands : (old new : Report) → LeadsTo above spec old new → IsStanding old → IsStanding new
    last_stands old new (done h) s = s
    last_stands old new (cut next f r) s =
        last_stands next new r
        (subst IsStanding (sym f.is) (cut_stands old s f.number f.node f.step f.rest f.closes))

    read_stands :
        (bytes : List ℕ) (old : Report) → IsReportText spec.sig bytes old →
        IsAccepted above spec old → IsStanding old
    read_stands bytes old text accepted =
        let long : length bytes ≡ length (report_text spec.sig old) =
        ap (λ (t : List ℕ). length t) text.is in
        let room = length bytes - length (lines_text spec.sig (header_lines old.steps)) in
        let all : length (claims_text spec.sig old.claims) ≤ room =
        omega (arith, long, report_length spec.sig old) in
        record {
          accepted = accepted;
          stands = text.stands;
          short = short_claims spec.sig room old.claims all text.few;
        }

    has_text : (report : Report) → IsStanding report → HasText spec.sig report
    has_text report s = record {
      in_range = accepted_in_range above spec report s.accepted;
      text = record {
        stands = s.stands;
        is = refl;
        few = few_texts spec.sig _ report.claims s.short;
      };
      short =
          omega (arith, report_length spec.sig report, claims_length spec.sig report.claims s.short);
    }

pub trimmed_reports_stand :
    (above : Tree → Tree → Type 0) → OneRelation above → TrimmedReportsStand above
trimmed_reports_stand above one spec bytes old new fine names text accepted leads =
    has_text above one spec fine names new
    (last_stands above one spec fine names old new leads
    (read_stands above one spec fine names bytes old text accepted))
