-- What a report has if its text begins with whole claims, and a claim if its text begins with a first line and steps.
use Rattle.std.proofs.Common.{◌≡◌, ℕ, ◌≤◌, List, [], ◌∷◌, ◌++◌, refl, sym, ◌∙◌, map, length, append_assoc, append-nil}
use Rattle.std.proofs.Common.{arith}
use Rattle.std.specs.List.{AllByRecursion}
use Rattle.spec_core.specs.Sig.{Sig}
use Rattle.clause_core.specs.declared.steps.Step.{Step}
use Rattle.clause_core.specs.declared.reports.Claim.{Claim}
use Rattle.clause_core.specs.declared.reports.Report.{Report}
use Rattle.proof_script.specs.Words.{line_text, lines_text}
use Rattle.proof_script.specs.Steps.{step_line}
use Rattle.proof_script.specs.Claims.{header_lines, last_line, claims_text, report_text}
use Rattle.proof_script.specs.Standing.{IsShort, StepStands}
use Rattle.proof_script.specs.Reports.{ClaimStands, ReportStands}
use Rattle.proof_script.proofs.TermReads.{NamesDiffer}
use Rattle.proof_script.proofs.StepReads.{step_reads}
use Rattle.proof_script.proofs.ClaimReads.{claim_reads, next_claim, not_done, header_reads, report_grouped, short_by}

module _ (sig : Sig) (d : NamesDiffer sig) where
  -- the steps are these first ones and others, whose lines follow
  pub record StepsGoOn (us ts : List Step) (r s : List ℕ) : Type 0 where
    pub others : List Step
    pub are : us ≡ ts ++ others
    pub follow : lines_text sig (map step_line others) ++ r ≡ s

  pub steps_so_far : (ts us : List Step) (r s : List ℕ) → length ts ≤ length us →
      AllByRecursion (StepStands sig) ts → AllByRecursion (StepStands sig) us →
      lines_text sig (map step_line us) ++ r ≡ lines_text sig (map step_line ts) ++ s → StepsGoOn us ts r s
  steps_so_far [] us r s l p q e = record { others = us; are = refl; follow = e }
  steps_so_far (t ∷ ts) [] r s l p q e = absurd (omega (arith, l))
  steps_so_far (t ∷ ts) (u ∷ us) r s l p q e =
      let grouped = sym (append_assoc (line_text sig (step_line u)) (lines_text sig (map step_line us)) r) ∙ e
      ∙ append_assoc (line_text sig (step_line t)) (lines_text sig (map step_line ts)) s in
      let first = step_reads sig d u t (lines_text sig (map step_line us) ++ r)
      (lines_text sig (map step_line ts) ++ s) q.0 p.0 grouped in
      let next = steps_so_far ts us r s (omega (arith, l)) p.1 q.1 first.1 in
      let h : u ≡ t = first.0 in
      record { others = next.others; are = λ i. h i ∷ next.are i; follow = next.follow }

  -- the claims are these first ones and others, whose lines follow, and then the last line
  pub record ClaimsGoOn (ds cs : List Claim) (r s : List ℕ) : Type 0 where
    pub others : List Claim
    pub are : ds ≡ cs ++ others
    pub follow : claims_text sig others ++ (lines_text sig (last_line ∷ []) ++ r) ≡ s

  pub claims_so_far : (cs ds : List Claim) (r s : List ℕ) → AllByRecursion (ClaimStands sig) cs →
      AllByRecursion (ClaimStands sig) ds →
      claims_text sig ds ++ (lines_text sig (last_line ∷ []) ++ r) ≡ claims_text sig cs ++ s → ClaimsGoOn ds cs r s
  claims_so_far [] ds r s p q e = record { others = ds; are = refl; follow = e }
  claims_so_far (c ∷ cs) [] r s p q e = absurd (not_done sig d c cs s r (sym e))
  claims_so_far (c ∷ cs) (b ∷ ds) r s p q e =
      let x = lines_text sig (last_line ∷ []) ++ r in
      let first = claim_reads sig d b c (claims_text sig ds ++ x) (claims_text sig cs ++ s) q.0 p.0
      (sym (next_claim sig d b ds (lines_text sig (last_line ∷ []) ++ r)) ∙ e ∙ next_claim sig d c cs s) in
      let next = claims_so_far cs ds r s p.1 q.1 first.1 in
      let h : b ≡ c = first.0 in
      record { others = next.others; are = λ i. h i ∷ next.are i; follow = next.follow }

  pub record ReportGoesOn (report : Report) (steps : ℕ) (cs : List Claim) (s : List ℕ) : Type 0 where
    pub steps_are : report.steps ≡ steps
    pub claims : ClaimsGoOn report.claims cs [] s

  -- a report whose text begins with the first lines and whole claims has these, and goes on from there
  pub report_so_far : (report : Report) (steps : ℕ) (cs : List Claim) (s : List ℕ) → ReportStands sig report →
      IsShort steps → AllByRecursion (ClaimStands sig) cs →
      report_text sig report ≡ lines_text sig (header_lines steps) ++ (claims_text sig cs ++ s) →
      ReportGoesOn report steps cs s
  report_so_far report steps cs s p h q e =
      let whole = sym (report_grouped sig d report []) ∙ append-nil (report_text sig report) ∙ e in
      let first = header_reads sig d report.steps steps (claims_text sig report.claims
      ++ (lines_text sig (last_line ∷ []) ++ [])) (claims_text sig cs ++ s)
      (short_by 100000 report.steps p.steps.1 (omega arith)) h whole in
      record { steps_are = first.0; claims = claims_so_far cs report.claims [] s q p.claims first.1 }
