-- What follows in the text of a report that begins with what was read at a stage.
use Rattle.std.proofs.Common.{◌≡◌, ℕ, ◌<◌, List, [], ◌∷◌, ◌++◌, refl, ap, sym, ◌∙◌, subst, inl, inr, map, length}
use Rattle.std.proofs.Common.{length-append, append_assoc, append-nil, arith}
use Rattle.std.specs.List.{AllByRecursion}
use Rattle.std.proofs.lemmas.List.{append_cancel_left}
use Rattle.term_core.specs.Tree.{Tree}
use Rattle.spec_core.specs.Sig.{Sig}
use Rattle.clause_core.specs.declared.reports.Claim.{Claim}
use Rattle.clause_core.specs.declared.reports.Outcome.{Outcome}
use Rattle.clause_core.specs.declared.reports.Outcome.TheVariants as outcomes
use Rattle.clause_core.specs.declared.reports.Report.{Report}
use Rattle.clause_core.specs.declared.steps.Step.{Step}
use Rattle.proof_script.specs.Claims.{claim_text, claims_text, first_line, header_lines, last_line, other_lines}
use Rattle.proof_script.specs.Claims.{report_text, value_line}
use Rattle.proof_script.specs.Reports.{ClaimStands, OutcomeStands, ReportStands, ValueStands}
use Rattle.proof_script.specs.Standing.{StepStands}
use Rattle.proof_script.specs.Steps.{step_line}
use Rattle.proof_script.specs.Words.{Line, line_text, lines_text}
use Rattle.proof_script.proofs.ClaimReads.{next_claim, short_by}
use Rattle.proof_script.proofs.ClaimSoFar.{ProvedGoesOn, RefutedGoesOn, proved_so_far, refuted_so_far}
use Rattle.proof_script.proofs.Lists.{same_head}
use Rattle.proof_script.proofs.SoFar.{ReportGoesOn, report_so_far, steps_so_far}
use Rattle.proof_script.proofs.TermReads.{NamesDiffer}
use Rattle.report_reader.specs.FirstLines.{FirstStands, line_of}
use Rattle.report_reader.specs.Stages.{Stage, start, titled, between, proving, refuting, IsOpen, IsSound, MayFollow}
use Rattle.report_reader.specs.Stages.{StageStands, part_text, stage_text, steps_line, title_line, whole_text}
use Rattle.report_reader.specs.declared.first_lines.FirstLine.{FirstLine}
use Rattle.report_reader.specs.declared.first_lines.FirstLine.TheVariants.{Proved, Refuted, Open}
use Rattle.report_reader.proofs.Filled.{all_right}
use Rattle.report_reader.proofs.LineTexts.{mapped_lines-append}
use Rattle.report_reader.proofs.ValuesSoFar.{values_so_far}

module _ (sig : Sig) where
  -- the bytes are a line that may come next, and others
  pub record Follows (stage : Stage) (bytes : List ℕ) : Type 0 where
    pub line : Line
    pub after : List ℕ
    pub may : MayFollow sig stage line
    pub is : line_text sig line ++ after ≡ bytes

  -- in a claim that begins with the part that was read, a line that may come next follows
  pub record InClaim (stage : Stage) (claim : Claim) (behind bytes : List ℕ) : Type 0 where
    pub line : Line
    pub more : List ℕ
    pub may : MayFollow sig stage line
    pub is : line_text sig line ++ (more ++ behind) ≡ bytes
    pub text : claim_text sig claim ≡ part_text sig stage ++ (line_text sig line ++ more)

  -- so in a report, after the claims that were read
  pub record InReport (stage : Stage) (before report : Report) (bytes : List ℕ) : Type 0 where
    pub claim : Claim
    pub others : List Claim
    pub behind : List ℕ
    pub inside : InClaim stage claim behind bytes
    pub steps : report.steps ≡ before.steps
    pub claims : report.claims ≡ before.claims ++ (claim ∷ others)

  pub in_report : (stage : Stage) (before report : Report) (bytes : List ℕ) →
      InReport stage before report bytes → Follows stage bytes
  in_report stage before report bytes r = record {
    line = r.inside.line;
    after = r.inside.more
        ++ r.behind;
    may = r.inside.may;
    is = r.inside.is;
  }

  -- what the first line of a claim says
  pub record SaysFirst (goal : List ℕ) (o : Outcome) : Type 0 where
    pub first : FirstLine
    pub stands : FirstStands first
    pub is : line_of first ≡ first_line goal o

  says_first : (goal : List ℕ) (o : Outcome) → ClaimStands sig (record { goal = goal; outcome = o }) → SaysFirst goal o
  says_first goal (outcomes.Proved block) h = record {
    first = Proved goal (length block.steps);
    stands = (h.goal, h.outcome.0);
    is = refl;
  }
  says_first goal (outcomes.Refuted index values) h = record {
    first = Refuted goal index (length values);
    stands = (h.goal, h.outcome.0, h.outcome.1);
    is = refl;
  }
  says_first goal (outcomes.Open b) h = record { first = Open goal b; stands = (h.goal, h.outcome); is = refl }

  abbrev ending : List ℕ
  ending = lines_text sig (last_line ∷ []) ++ []

  module _ (d : NamesDiffer sig) where
    goes_on : (before report : Report) (s : List ℕ) → IsSound sig before → ReportStands sig report →
        report_text sig report ≡ whole_text sig before ++ s → ReportGoesOn sig d report before.steps before.claims s
    goes_on before report s b p e =
        report_so_far sig d report before.steps before.claims s p
        (short_by 100000 before.steps b.stands.steps.1 (omega arith)) b.stands.claims
        (e ∙ append_assoc (lines_text sig (header_lines before.steps)) (claims_text sig before.claims) s)

    others_stand : (before report : Report) (others : List Claim) → ReportStands sig report →
        report.claims ≡ before.claims ++ others → AllByRecursion (ClaimStands sig) others
    others_stand before report others p are = all_right (ClaimStands sig) before.claims others
        (subst (λ cs. AllByRecursion (ClaimStands sig) cs) are p.claims)

    claim_follows : (before : Report) (others : List Claim) (s : List ℕ) →
        AllByRecursion (ClaimStands sig) others → claims_text sig others ++ ending ≡ s → Follows (between before) s
    claim_follows before [] s h f = record { line = last_line; after = []; may = inl refl; is = f }
    claim_follows before (c ∷ cs) s h f =
        let says = says_first c.goal c.outcome h.0 in
        let after = lines_text sig (other_lines c.outcome) ++ (claims_text sig cs ++ ending) in
        record {
          line = line_of says.first;
          after = after;
          may = inr (says.first, says.stands, refl);
          is =
              ap (λ l. line_text sig l ++ after) says.is
              ∙ sym (append_assoc (line_text sig (first_line c.goal c.outcome))
              (lines_text sig (other_lines c.outcome)) (claims_text sig cs ++ ending))
              ∙ sym (next_claim sig d c cs ending) ∙ f;
        }

    pub between_follows : (before report : Report) (s : List ℕ) → IsSound sig before → ReportStands sig report →
        report_text sig report ≡ whole_text sig before ++ s → Follows (between before) s
    between_follows before report s b p e =
        let g = goes_on before report s b p e in
        claim_follows before g.claims.others s (others_stand before report g.claims.others p g.claims.are)
        g.claims.follow

    -- one claim follows at least, if the part that was read doesn't begin the last line
    claim_inside : (stage : Stage) (before report : Report) (s : List ℕ) →
        (ending ≡ part_text sig stage ++ s → ⊥) →
        ((c : Claim) (x : List ℕ) → ClaimStands sig c → claim_text sig c ++ x ≡ part_text sig stage ++ s →
        InClaim stage c x s) → report.steps ≡ before.steps → (others : List Claim) →
        report.claims ≡ before.claims ++ others → AllByRecursion (ClaimStands sig) others →
        claims_text sig others ++ ending ≡ part_text sig stage ++ s → InReport stage before report s
    claim_inside stage before report s differs inside steps [] are h f = absurd (differs f)
    claim_inside stage before report s differs inside steps (c ∷ cs) are h f = record {
      claim = c;
      others = cs;
      behind = claims_text sig cs ++ ending;
      inside = inside c (claims_text sig cs ++ ending) h.0 (sym (next_claim sig d c cs ending) ∙ f);
      steps = steps;
      claims = are;
    }

    part_follows : (stage : Stage) (before report : Report) (s : List ℕ) →
        (ending ≡ part_text sig stage ++ s → ⊥) →
        ((c : Claim) (x : List ℕ) → ClaimStands sig c → claim_text sig c ++ x ≡ part_text sig stage ++ s →
        InClaim stage c x s) → IsSound sig before → ReportStands sig report →
        report_text sig report ≡ (whole_text sig before ++ part_text sig stage) ++ s → InReport stage before report s
    part_follows stage before report s differs inside b p e =
        let g = goes_on before report (part_text sig stage ++ s) b p
        (e ∙ append_assoc (whole_text sig before) (part_text sig stage) s) in
        claim_inside stage before report s differs inside g.steps_are g.claims.others g.claims.are
        (others_stand before report g.claims.others p g.claims.are) g.claims.follow

    module _ (before : Report) (goal : List ℕ) (n : ℕ) where
      step_inside : (ts : List Step) (c : Claim) (x s r : List ℕ) → length ts < n →
          (p : ProvedGoesOn sig d c.goal c.outcome goal n x r) → (others : List Step) →
          p.block.steps ≡ ts ++ others → AllByRecursion (StepStands sig) others →
          lines_text sig (map step_line others) ++ x ≡ s → InClaim (proving before goal n ts) c x s
      step_inside ts c x s r asked p [] are h f = absurd
          (omega (arith, asked, p.long, ap (λ (us : List Step). length us) are, length-append ts []))
      step_inside ts c x s r asked p (t ∷ us) are h f =
          let whole : claim_text sig c ≡ lines_text sig
          (first_line goal (outcomes.Proved p.block) ∷ map step_line p.block.steps) = λ i. lines_text sig
          (first_line (p.goal_is i) (p.is i) ∷ other_lines (p.is i)) in
          let first = line_text sig (line_of (Proved goal n)) in
          record {
            line = step_line t;
            more = lines_text sig (map step_line us);
            may = (t, h.0, refl);
            is = sym (append_assoc (line_text sig (step_line t)) (lines_text sig (map step_line us)) x) ∙ f;
            text =
                whole ∙ ap (λ k. line_text sig (line_of (Proved goal k))
                ++ lines_text sig (map step_line p.block.steps)) p.long
                ∙ ap (λ us. first ++ lines_text sig (map step_line us)) are
                ∙ ap (λ z. first ++ z) (mapped_lines-append sig step_line ts (t ∷ us))
                ∙ sym (append_assoc first (lines_text sig (map step_line ts))
                (lines_text sig (map step_line (t ∷ us))));
          }

      in_proving : (ts : List Step) → StageStands sig (proving before goal n ts) → length ts < n →
          (c : Claim) (x s : List ℕ) → ClaimStands sig c →
          claim_text sig c ++ x ≡ part_text sig (proving before goal n ts) ++ s →
          InClaim (proving before goal n ts) c x s
      in_proving ts h asked c x s k e =
          let p = proved_so_far sig d c goal n x (lines_text sig (map step_line ts) ++ s) k h.1.0
          (short_by 10000 n h.1.1 (omega arith)) (e ∙ append_assoc (line_text sig (line_of (Proved goal n)))
          (lines_text sig (map step_line ts)) s) in
          let stand = subst (OutcomeStands sig) p.is k.outcome in
          let q = steps_so_far sig d ts p.block.steps x s (omega (arith, asked, p.long)) h.3 stand.1 p.follow in
          step_inside ts c x s (lines_text sig (map step_line ts) ++ s) asked p q.others q.are
          (all_right (StepStands sig) ts q.others (subst (λ us. AllByRecursion (StepStands sig) us) q.are
          stand.1)) q.follow

      pub proving_follows : (ts : List Step) (report : Report) (s : List ℕ) →
          StageStands sig (proving before goal n ts) → length ts < n → ReportStands sig report →
          report_text sig report ≡ stage_text sig (proving before goal n ts) ++ s →
          InReport (proving before goal n ts) before report s
      proving_follows ts report s h asked p e = part_follows (proving before goal n ts) before report s
          (λ f. let q : 100 ≡ 112 = same_head f in omega (arith, q))
          (λ c x k f. in_proving ts h asked c x s k f) h.0 p e

    module _ (before : Report) (goal : List ℕ) (index n : ℕ) where
      value_inside : (vs : List (List ℕ × Tree)) (c : Claim) (x s r : List ℕ) → length vs < n →
          (p : RefutedGoesOn sig d c.goal c.outcome goal index n x r) → (others : List (List ℕ × Tree)) →
          p.values ≡ vs ++ others → AllByRecursion (ValueStands sig) others →
          lines_text sig (map value_line others) ++ x ≡ s → InClaim (refuting before goal index n vs) c x s
      value_inside vs c x s r asked p [] are h f = absurd
          (omega (arith, asked, p.long, ap (λ (us : List (List ℕ × Tree)). length us) are, length-append vs []))
      value_inside vs c x s r asked p (v ∷ us) are h f =
          let whole : claim_text sig c ≡ lines_text sig (first_line goal (outcomes.Refuted index p.values) ∷ map
          value_line p.values) = λ i. lines_text sig (first_line (p.goal_is i) (p.is i) ∷ other_lines (p.is i)) in
          let first = line_text sig (line_of (Refuted goal index n)) in
          record {
            line = value_line v;
            more = lines_text sig (map value_line us);
            may = (v, h.0, refl);
            is = sym (append_assoc (line_text sig (value_line v)) (lines_text sig (map value_line us)) x) ∙ f;
            text =
                whole ∙ ap (λ k. line_text sig (line_of (Refuted goal index k))
                ++ lines_text sig (map value_line p.values)) p.long
                ∙ ap (λ us. first ++ lines_text sig (map value_line us)) are
                ∙ ap (λ z. first ++ z) (mapped_lines-append sig value_line vs (v ∷ us))
                ∙ sym (append_assoc first (lines_text sig (map value_line vs))
                (lines_text sig (map value_line (v ∷ us))));
          }

      in_refuting : (vs : List (List ℕ × Tree)) → StageStands sig (refuting before goal index n vs) →
          length vs < n → (c : Claim) (x s : List ℕ) → ClaimStands sig c →
          claim_text sig c ++ x ≡ part_text sig (refuting before goal index n vs) ++ s →
          InClaim (refuting before goal index n vs) c x s
      in_refuting vs h asked c x s k e =
          let p = refuted_so_far sig d c goal index n x (lines_text sig (map value_line vs) ++ s) k h.1.0 h.1.1
          (short_by 16 n h.1.2 (omega arith))
          (e ∙ append_assoc (line_text sig (line_of (Refuted goal index n)))
          (lines_text sig (map value_line vs)) s) in
          let stand = subst (OutcomeStands sig) p.is k.outcome in
          let q = values_so_far sig d vs p.values x s (omega (arith, asked, p.long)) h.3 stand.2 p.follow in
          value_inside vs c x s (lines_text sig (map value_line vs) ++ s) asked p q.others q.are
          (all_right (ValueStands sig) vs q.others (subst (λ us. AllByRecursion (ValueStands sig) us) q.are
          stand.2)) q.follow

      pub refuting_follows : (vs : List (List ℕ × Tree)) (report : Report) (s : List ℕ) →
          StageStands sig (refuting before goal index n vs) → length vs < n → ReportStands sig report →
          report_text sig report ≡ stage_text sig (refuting before goal index n vs) ++ s →
          InReport (refuting before goal index n vs) before report s
      refuting_follows vs report s h asked p e = part_follows (refuting before goal index n vs) before report s
          (λ f. let q : 100 ≡ 114 = same_head f in omega (arith, q))
          (λ c x k f. in_refuting vs h asked c x s k f) h.0 p e

    -- the second line of a report, and what follows it
    abbrev second : Report → List ℕ
    second report = (line_text sig (steps_line report.steps) ++ [])
        ++ (claims_text sig report.claims ++ lines_text sig (last_line ∷ []))

    second_follows : (report : Report) (s : List ℕ) → ReportStands sig report → second report ≡ s → Follows titled s
    second_follows report s p e = record {
      line = steps_line report.steps;
      after = claims_text sig report.claims ++ lines_text sig (last_line ∷ []);
      may = (report.steps, p.steps, refl);
      is = ap (λ z. z ++ (claims_text sig report.claims ++ lines_text sig (last_line ∷ [])))
          (sym (append-nil (line_text sig (steps_line report.steps)))) ∙ e;
    }

    pub follows : (stage : Stage) (report : Report) (s : List ℕ) → StageStands sig stage → IsOpen stage →
        ReportStands sig report → report_text sig report ≡ stage_text sig stage ++ s → Follows stage s
    follows start report s h asked p e = record { line = title_line; after = second report; may = refl; is = e }
    follows titled report s h asked p e = second_follows report s p
        (append_cancel_left (line_text sig title_line) (second report) s e)
    follows (between before) report s h asked p e = between_follows before report s h p e
    follows (proving before goal n ts) report s h asked p e = in_report (proving before goal n ts) before report
        s (proving_follows before goal n ts report s h asked p e)
    follows (refuting before goal index n vs) report s h asked p e = in_report (refuting before goal index n vs)
        before report s (refuting_follows before goal index n vs report s h asked p e)
