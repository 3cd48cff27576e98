-- What was read at a stage begins the text of a report.
use Rattle.std.proofs.Common.{◌≡◌, ℕ, ◌≤◌, List, [], ◌∷◌, ◌++◌, ap, sym, ◌∙◌, subst, map, length, append_assoc, arith}
use Rattle.term_core.specs.Tree.{Tree, app, none}
use Rattle.term_core.proofs.Items.{all_append}
use Rattle.spec_core.specs.Sig.{Sig}
use Rattle.spec_core.specs.Declarations.{IsDeclared}
use Rattle.clause_core.specs.declared.reports.Claim.{Claim}
use Rattle.clause_core.specs.declared.reports.Outcome.TheVariants as outcomes
use Rattle.clause_core.specs.declared.reports.Report.{Report}
use Rattle.clause_core.specs.declared.steps.Step.{Step}
use Rattle.clause_core.specs.declared.steps.Step.TheVariants.{Trivial}
use Rattle.proof_script.specs.Claims.{claim_text, claims_text, header_lines, value_line}
use Rattle.proof_script.specs.Faults.{BeginsSome}
use Rattle.proof_script.specs.Reports.{ClaimStands, ValueStands}
use Rattle.proof_script.specs.Standing.{StepStands}
use Rattle.proof_script.specs.Steps.{step_line}
use Rattle.proof_script.specs.Words.{line_text, lines_text}
use Rattle.proof_script.proofs.Begun.{begins_between, begins_within}
use Rattle.proof_script.proofs.Prefixes.{some_shorter}
use Rattle.report_reader.specs.FirstLines.{line_of}
use Rattle.report_reader.specs.Stages.{Stage, start, titled, between, proving, refuting, IsSound, StageStands}
use Rattle.report_reader.specs.Stages.{part_text, stage_text, steps_line, title_line, whole_text}
use Rattle.report_reader.specs.declared.first_lines.FirstLine.TheVariants.{Proved, Refuted}
use Rattle.report_reader.proofs.Filled.{filled}
use Rattle.report_reader.proofs.LineTexts.{mapped_lines-append}
use Rattle.report_reader.proofs.TrueValue.{true_value}

module _ (sig : Sig) where
  -- a sound report and a part of a further claim
  begun_with : (report : Report) (claim : Claim) (part more : List ℕ) → IsSound sig report →
      ClaimStands sig claim → length part ≤ 300000 → claim_text sig claim ≡ part ++ more →
      BeginsSome sig (whole_text sig report ++ part)
  begun_with report claim part more s h l e =
      subst (λ z. BeginsSome sig z)
      (sym (append_assoc (lines_text sig (header_lines report.steps)) (claims_text sig report.claims) part)) (
        record { steps = report.steps; claims = report.claims ++ (claim ∷ []) },
        begins_within sig report.steps report.claims claim part more s.stands.steps s.stands.claims s.small h l e,
      )

  step_one : StepStands sig (Trivial 1)
  step_one = ((omega arith, omega arith), tt)

  abbrev proved_claim : List ℕ → List Step → Claim
  proved_claim goal steps = record { goal = goal; outcome = outcomes.Proved (record { steps = steps }) }

  begun_proving : (report : Report) (goal : List ℕ) (n : ℕ) (steps : List Step) →
      StageStands sig (proving report goal n steps) →
      length (part_text sig (proving report goal n steps)) ≤ 300000 →
      BeginsSome sig (stage_text sig (proving report goal n steps))
  begun_proving report goal n steps h l =
      let f = filled (StepStands sig) (Trivial 1) step_one steps n h.2 in
      let rest = lines_text sig (map step_line f.more) in
      let stands : ClaimStands sig (proved_claim goal (steps ++ f.more)) = record {
        goal = h.1.0;
        outcome = (omega (arith, f.long, h.1.1), all_append (StepStands sig) steps f.more h.3 f.stand);
      } in
      let text : claim_text sig (proved_claim goal (steps ++ f.more)) ≡ part_text sig
      (proving report goal n steps) ++ rest =
      ap (λ k. line_text sig (line_of (Proved goal k)) ++ lines_text sig (map step_line (steps ++ f.more))) f.long
      ∙ ap (λ z. line_text sig (line_of (Proved goal n)) ++ z) (mapped_lines-append sig step_line steps f.more)
      ∙ sym (append_assoc (line_text sig (line_of (Proved goal n))) (lines_text sig (map step_line steps)) rest) in
      begun_with report (proved_claim goal (steps ++ f.more)) (part_text sig (proving report goal n steps)) rest
      h.0 stands l text

  abbrev refuted_claim : List ℕ → ℕ → List (List ℕ × Tree) → Claim
  refuted_claim goal index values = record { goal = goal; outcome = outcomes.Refuted index values }

  begun_refuting : IsDeclared sig →
      (report : Report) (goal : List ℕ) (index n : ℕ) (values : List (List ℕ × Tree)) →
      StageStands sig (refuting report goal index n values) →
      length (part_text sig (refuting report goal index n values)) ≤ 300000 →
      BeginsSome sig (stage_text sig (refuting report goal index n values))
  begun_refuting d report goal index n values h l =
      let f = filled (ValueStands sig) (goal, app 0 none) (true_value sig d goal h.1.0) values n h.2 in
      let rest = lines_text sig (map value_line f.more) in
      let stands : ClaimStands sig (refuted_claim goal index (values ++ f.more)) = record {
        goal = h.1.0;
        outcome = (h.1.1, omega (arith, f.long, h.1.2), all_append (ValueStands sig) values f.more h.3 f.stand);
      } in
      let text : claim_text sig (refuted_claim goal index (values ++ f.more)) ≡ part_text sig
      (refuting report goal index n values) ++ rest =
      ap (λ k. line_text sig (line_of (Refuted goal index k))
      ++ lines_text sig (map value_line (values ++ f.more))) f.long
      ∙ ap (λ z. line_text sig (line_of (Refuted goal index n)) ++ z) (mapped_lines-append sig value_line values f.more)
      ∙ sym (append_assoc (line_text sig (line_of (Refuted goal index n)))
      (lines_text sig (map value_line values)) rest) in
      begun_with report (refuted_claim goal index (values ++ f.more))
      (part_text sig (refuting report goal index n values)) rest h.0 stands l text

  -- the first line of the shortest report, and what follows it
  abbrev behind_title : List ℕ
  behind_title = (line_text sig (steps_line 1) ++ []) ++ []

  shortest : BeginsSome sig (line_text sig title_line ++ behind_title)
  shortest = (record { steps = 1; claims = [] }, begins_between sig 1 [] (omega arith, omega arith) tt tt)

  pub begun : IsDeclared sig → (stage : Stage) → StageStands sig stage → length (part_text sig stage) ≤ 300000 →
      BeginsSome sig (stage_text sig stage)
  begun d start h l = some_shorter sig [] (line_text sig title_line ++ behind_title) shortest
  begun d titled h l = some_shorter sig (line_text sig title_line) behind_title shortest
  begun d (between report) h l = (
    report,
    begins_between sig report.steps report.claims h.stands.steps h.stands.claims h.small,
  )
  begun d (proving report goal n steps) h l = begun_proving report goal n steps h l
  begun d (refuting report goal index n values) h l = begun_refuting d report goal index n values h l
