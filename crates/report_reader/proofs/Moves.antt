-- From one stage to the next by a line.
use Rattle.std.proofs.Common.{◌≡◌, ℕ, ◌+◌, ◌≤◌, ◌<◌, List, [], ◌∷◌, ◌++◌, refl, ap, sym, ◌∙◌, subst, codes, map}
use Rattle.std.proofs.Common.{length, length-append, append_assoc, append-nil, true, false, arith}
use Rattle.std.specs.Fmt.{decimal}
use Rattle.std.proofs.lemmas.Fmt.{length-decimal-le}
use Rattle.std.proofs.lemmas.Grind.{flat_map-append}
use Rattle.term_core.specs.Tree.{Tree}
use Rattle.term_core.proofs.Items.{all_append}
use Rattle.spec_core.specs.Sig.{Sig}
use Rattle.clause_core.specs.declared.reports.Claim.{Claim}
use Rattle.clause_core.specs.declared.reports.Outcome.{Outcome}
use Rattle.clause_core.specs.declared.reports.Outcome.TheVariants as outcomes
use Rattle.clause_core.specs.declared.reports.Report.{Report}
use Rattle.clause_core.specs.declared.steps.Step.{Step}
use Rattle.proof_script.specs.Claims.{claim_text, claims_text, first_line, header_lines, other_lines, value_line}
use Rattle.proof_script.specs.Claims.{yes_or_no}
use Rattle.proof_script.specs.Faults.{IsOneLine, whole_lines}
use Rattle.proof_script.specs.LineWords.{IsStepLine}
use Rattle.proof_script.specs.Reports.{ClaimStands, ValueStands}
use Rattle.proof_script.specs.Standing.{IsShort, StepStands}
use Rattle.proof_script.specs.Steps.{step_line}
use Rattle.proof_script.specs.Words.{Line, line_text, lines_text}
use Rattle.proof_script.proofs.ClaimReads.{short_by}
use Rattle.report_reader.specs.Behind.{IsBehind}
use Rattle.report_reader.specs.FirstLines.{FirstStands, IsFirst, IsStepsLine, line_of}
use Rattle.report_reader.specs.Lines.{IsLine, IsNext}
use Rattle.report_reader.specs.Stages.{Stage, start, titled, between, proving, refuting, IsSound, StageStands}
use Rattle.report_reader.specs.Stages.{behind_first, part_text, report_size, stage_text, steps_line, title_line}
use Rattle.report_reader.specs.Stages.{whole_text, with_claim}
use Rattle.report_reader.specs.ValueLines.{IsValueLine}
use Rattle.report_reader.specs.declared.first_lines.FirstLine.{FirstLine}
use Rattle.report_reader.specs.declared.first_lines.FirstLine.TheVariants.{Proved, Refuted, Open}
use Rattle.report_reader.specs.declared.lines.Lines.{Lines}
use Rattle.report_reader.proofs.LineTexts.{mapped_lines-push, whole_lines-push}

small_number : (n : ℕ) → IsShort n → length (decimal n) ≤ 9
small_number n h = length-decimal-le 9 n (omega arith) h (omega (arith, h))

module _ (sig : Sig) where
  -- the first line of a claim is short
  first_size : (first : FirstLine) → FirstStands first → length (line_text sig (line_of first)) ≤ 300
  first_size (Proved goal n) h = simp length-append
      (omega (arith, h.0.short, small_number n (short_by 10000 n h.1 (omega arith))))
  first_size (Refuted goal index n) h = simp length-append (omega (
    arith,
    h.0.short,
    small_number index h.1,
    small_number n (short_by 16 n h.2 (omega arith)),
  ))
  first_size (Open goal b) h = simp length-append
      (omega (
        arith,
        h.0.short,
        small_number b.depth (short_by 8 b.depth h.1.depth (omega arith)),
        small_number b.tried h.1.tried,
        small_number b.skipped h.1.skipped,
        cut_size,
        small_number b.plain h.1.plain,
        small_number b.nodes h.1.nodes,
      ))
    where
      cut_size : length (yes_or_no b.cut) ≤ 3
      cut_size = elim b.cut as (λ x. length (yes_or_no x) ≤ 3) [ true ↦ omega arith | false ↦ omega arith ]

  -- a line was read
  moved : (text : List ℕ) (lines : Lines) (stage : Stage) (bytes : List ℕ) (behind : Lines) (line : Line)
      (next : Stage) → IsBehind sig text lines stage → IsNext lines bytes behind → IsLine sig bytes line →
      stage_text sig next ≡ stage_text sig stage ++ line_text sig line → StageStands sig next →
      length (part_text sig next) ≤ 300000 → IsBehind sig text behind next
  moved text lines stage bytes behind line next b n e grows stands small = record {
    before = b.before ++ bytes ∷ [];
    whole =
        b.whole ∙ ap (λ z. whole_lines b.before ++ z) n.at.is
        ∙ sym (append_assoc (whole_lines b.before) (bytes ++ codes "\n") behind.rest.now)
        ∙ ap (λ z. z ++ behind.rest.now) (sym (whole_lines-push b.before bytes));
    single = all_append IsOneLine b.before (bytes ∷ []) b.single (n.at.single, tt);
    number = omega (arith, n.number, b.number, length-append b.before (bytes ∷ []));
    is = whole_lines-push b.before bytes ∙ ap (λ z. z ++ (bytes ++ codes "\n")) b.is
        ∙ ap (λ z. stage_text sig stage ++ z) e ∙ sym grows;
    read = omega (
      arith,
      n.read,
      b.read,
      ap (λ (z : List ℕ). length z) grows,
      length-append (stage_text sig stage) (line_text sig line),
      ap (λ (z : List ℕ). length z) e,
      length-append bytes (codes "\n"),
    );
    stands = stands;
    small = small;
  }

  -- nothing was read
  pub at_start : (text : List ℕ) (lines : Lines) → lines.rest.now ≡ text → lines.read ≡ 0 → lines.number ≡ 1 →
      IsBehind sig text lines start
  at_start text lines rest read number = record {
    before = [];
    whole = sym rest;
    single = tt;
    number = omega
        (arith, number);
    is = refl;
    read = omega (arith, read);
    stands = tt;
    small = omega arith;
  }

  -- the two first lines
  pub title_moved : (text : List ℕ) (lines : Lines) (bytes : List ℕ) (behind : Lines) →
      IsBehind sig text lines start → IsNext lines bytes behind → bytes ≡ codes "spike-report 1" →
      IsBehind sig text behind titled
  title_moved text lines bytes behind b n e = moved text lines start bytes behind title_line titled b n
      (ap (λ z. z ++ codes "\n") e) refl tt (omega arith)

  pub steps_moved : (text : List ℕ) (lines : Lines) (bytes : List ℕ) (behind : Lines) (steps : ℕ) →
      IsBehind sig text lines titled → IsNext lines bytes behind → IsStepsLine bytes steps →
      IsBehind sig text behind (between (record { steps = steps; claims = [] }))
  steps_moved text lines bytes behind steps b n h =
      let line = line_text sig (steps_line steps) in
      let title = line_text sig title_line in
      moved text lines titled bytes behind (steps_line steps) (between (record { steps = steps; claims = [] }))
      b n (ap (λ z. z ++ codes "\n") h.is.is)
      (append-nil (title ++ (line ++ [])) ∙ ap (λ z. title ++ z) (append-nil line))
      (record { stands = record { steps = h.range; claims = tt }; small = tt }) (omega arith)

  -- the same bytes are another stage
  renamed : (text : List ℕ) (lines : Lines) (stage next : Stage) → IsBehind sig text lines stage →
      stage_text sig next ≡ stage_text sig stage → StageStands sig next → length (part_text sig next) ≤ 300000 →
      IsBehind sig text lines next
  renamed text lines stage next b same stands small = record {
    before = b.before;
    whole = b.whole;
    single = b.single;
    number = b.number;
    is = b.is ∙ sym same;
    read = b.read ∙ ap (λ (z : List ℕ). length z) (sym same);
    stands = stands;
    small = small;
  }

  whole_with : (report : Report) (claim : Claim) →
      whole_text sig (with_claim report claim) ≡ whole_text sig report ++ claim_text sig claim
  whole_with report claim =
      ap (λ z. lines_text sig (header_lines report.steps) ++ z)
      (flat_map-append (claim_text sig) report.claims (claim ∷ [])
      ∙ ap (λ z. claims_text sig report.claims ++ z) (append-nil (claim_text sig claim)))
      ∙ sym (append_assoc (lines_text sig (header_lines report.steps)) (claims_text sig report.claims)
      (claim_text sig claim))

  sound_with : (report : Report) (claim : Claim) → IsSound sig report → ClaimStands sig claim →
      length (claim_text sig claim) ≤ 300000 → IsSound sig (with_claim report claim)
  sound_with report claim s h l = record {
    stands = record {
      steps = s.stands.steps;
      claims = all_append (ClaimStands sig) report.claims (claim ∷ [])
          s.stands.claims (h, tt);
    };
    small = all_append (λ (c : Claim). length (claim_text sig c) ≤ 300000) report.claims (claim ∷ []) s.small (l, tt);
  }

  module _ (text : List ℕ) (lines : Lines) (report : Report) where
    -- after the first line of a claim
    pub first_moved : (bytes : List ℕ) (behind : Lines) (first : FirstLine) →
        IsBehind sig text lines (between report) → IsNext lines bytes behind → IsFirst sig bytes first →
        IsBehind sig text behind (behind_first report first)
    first_moved bytes behind (Proved goal n) b i f =
        let line = line_text sig (line_of (Proved goal n)) in
        let size = first_size (Proved goal n) f.stands in
        moved text lines (between report) bytes behind (line_of (Proved goal n)) (proving report goal n []) b i f.is
        (ap (λ z. whole_text sig report ++ z) (append-nil line)) (
          b.stands,
          f.stands,
          omega arith,
          tt,
        ) (omega (arith, size, length-append line []))
    first_moved bytes behind (Refuted goal index n) b i f =
        let line = line_text sig (line_of (Refuted goal index n)) in
        let size = first_size (Refuted goal index n) f.stands in
        moved text lines (between report) bytes behind (line_of (Refuted goal index n))
        (refuting report goal index n []) b i f.is
        (ap (λ z. whole_text sig report ++ z) (append-nil line)) (
          b.stands,
          f.stands,
          omega arith,
          tt,
        ) (omega (arith, size, length-append line []))
    first_moved bytes behind (Open goal budget) b i f =
        let claim : Claim = record { goal = goal; outcome = outcomes.Open budget } in
        let line = line_text sig (line_of (Open goal budget)) in
        let size = first_size (Open goal budget) f.stands in
        moved text lines (between report) bytes behind (line_of (Open goal budget))
        (between (with_claim report claim)) b i f.is
        (whole_with report claim ∙ ap (λ z. whole_text sig report ++ z) (append-nil line))
        (sound_with report claim b.stands (record { goal = f.stands.0; outcome = f.stands.1 })
        (omega (arith, size, length-append line []))) (omega arith)

    module _ (goal : List ℕ) (n : ℕ) where
      pub step_moved : (steps : List Step) (bytes : List ℕ) (behind : Lines) (step : Step) →
          IsBehind sig text lines (proving report goal n steps) → IsNext lines bytes behind →
          IsStepLine sig bytes step → length steps < n → behind.read ≤ report_size sig report + 300000 →
          IsBehind sig text behind (proving report goal n (steps ++ step ∷ []))
      step_moved steps bytes behind step b i s asked l =
          let first = line_text sig (line_of (Proved goal n)) in
          let before = lines_text sig (map step_line steps) in
          let line = line_text sig (step_line step) in
          let w = whole_text sig report in
          let part : part_text sig (proving report goal n (steps ++ step ∷ [])) ≡ (first ++ before)
          ++ line = ap (λ z. first ++ z) (mapped_lines-push sig step_line steps step)
          ∙ sym (append_assoc first before line) in
          moved text lines (proving report goal n steps) bytes behind (step_line step)
          (proving report goal n (steps ++ step ∷ [])) b i s.is
          (ap (λ z. w ++ z) part ∙ sym (append_assoc w (first ++ before) line)) (
            b.stands.0,
            b.stands.1,
            omega (arith, asked, length-append steps (step ∷ [])),
            all_append (StepStands sig) steps (step ∷ []) b.stands.3 (s.stands, tt),
          )
          (omega (
            arith,
            l,
            i.read,
            b.read,
            ap (λ (z : List ℕ). length z) part,
            length-append (first ++ before) line,
            length-append w (first ++ before),
            ap (λ (z : List ℕ). length z) s.is,
            length-append bytes (codes "\n"),
          ))

      -- the block is whole
      pub proved_whole : (steps : List Step) → IsBehind sig text lines (proving report goal n steps) →
          length steps ≡ n → IsBehind sig text lines
          (between (with_claim report (record { goal = goal; outcome = outcomes.Proved (record { steps = steps }) })))
      proved_whole steps b e =
          let claim : Claim = record { goal = goal; outcome = outcomes.Proved (record { steps = steps }) } in
          let part = part_text sig (proving report goal n steps) in
          let same : claim_text sig claim ≡ part = ap (λ k. line_text sig (line_of (Proved goal k))
          ++ lines_text sig (map step_line steps)) e in
          let stands : ClaimStands sig
          claim = record { goal = b.stands.1.0; outcome = (omega (arith, e, b.stands.1.1), b.stands.3) } in
          renamed text lines (proving report goal n steps) (between (with_claim report claim)) b
          (whole_with report claim ∙ ap (λ z. whole_text sig report ++ z) same)
          (sound_with report claim b.stands.0 stands (subst (λ z. length z ≤ 300000) (sym same) b.small)) (omega arith)

    module _ (goal : List ℕ) (index n : ℕ) where
      pub value_moved : (values : List (List ℕ × Tree)) (bytes : List ℕ) (behind : Lines) (name : List ℕ)
          (value : Tree) → IsBehind sig text lines (refuting report goal index n values) →
          IsNext lines bytes behind → IsValueLine sig bytes name value → length values < n →
          behind.read ≤ report_size sig report + 300000 →
          IsBehind sig text behind (refuting report goal index n (values ++ (name, value) ∷ []))
      value_moved values bytes behind name value b i s asked l =
          let first = line_text sig (line_of (Refuted goal index n)) in
          let before = lines_text sig (map value_line values) in
          let line = line_text sig (value_line (name, value)) in
          let w = whole_text sig report in
          let part : part_text sig (refuting report goal index n (values ++ (name, value) ∷ [])) ≡ (first
          ++ before) ++ line = ap (λ z. first ++ z) (mapped_lines-push sig value_line values (name, value))
          ∙ sym (append_assoc first before line) in
          moved text lines (refuting report goal index n values) bytes behind (value_line (name, value))
          (refuting report goal index n (values ++ (name, value) ∷ [])) b i s.is
          (ap (λ z. w ++ z) part ∙ sym (append_assoc w (first ++ before) line)) (
            b.stands.0,
            b.stands.1,
            omega (arith, asked, length-append values ((name, value) ∷ [])),
            all_append (ValueStands sig) values ((name, value) ∷ []) b.stands.3 (s.stands, tt),
          )
          (omega (
            arith,
            l,
            i.read,
            b.read,
            ap (λ (z : List ℕ). length z) part,
            length-append (first ++ before) line,
            length-append w (first ++ before),
            ap (λ (z : List ℕ). length z) s.is,
            length-append bytes (codes "\n"),
          ))

      -- all values are there
      pub refuted_whole : (values : List (List ℕ × Tree)) →
          IsBehind sig text lines (refuting report goal index n values) → length values ≡ n →
          IsBehind sig text lines
          (between (with_claim report (record { goal = goal; outcome = outcomes.Refuted index values })))
      refuted_whole values b e =
          let claim : Claim = record { goal = goal; outcome = outcomes.Refuted index values } in
          let part = part_text sig (refuting report goal index n values) in
          let same : claim_text sig claim ≡ part = ap (λ k. line_text sig (line_of (Refuted goal index k))
          ++ lines_text sig (map value_line values)) e in
          let stands : ClaimStands sig claim = record {
            goal = b.stands.1.0;
            outcome = (
              b.stands.1.1,
              omega (arith, e, b.stands.1.2),
              b.stands.3,
            );
          } in
          renamed text lines (refuting report goal index n values) (between (with_claim report claim)) b
          (whole_with report claim ∙ ap (λ z. whole_text sig report ++ z) same)
          (sound_with report claim b.stands.0 stands (subst (λ z. length z ≤ 300000) (sym same) b.small)) (omega arith)

  -- fewer bytes are left after a further claim
  pub fewer_left : (text : List ℕ) (lines behind : Lines) (report : Report) (claim : Claim) →
      IsBehind sig text lines (between report) → IsBehind sig text behind (between (with_claim report claim)) →
      length behind.rest.now < length lines.rest.now
  fewer_left text lines behind report claim b n =
      omega (
        arith,
        ap (λ (z : List ℕ). length z) b.whole,
        ap (λ (z : List ℕ). length z) n.whole,
        length-append (whole_lines b.before) lines.rest.now,
        length-append (whole_lines n.before) behind.rest.now,
        ap (λ (z : List ℕ). length z) b.is,
        ap (λ (z : List ℕ). length z) n.is,
        ap (λ (z : List ℕ). length z) (whole_with report claim),
        length-append (whole_text sig report) (claim_text sig claim),
        some_bytes claim.goal claim.outcome,
      )
    where
      some_bytes : (goal : List ℕ) (o : Outcome) → 0 < length (lines_text sig (first_line goal o ∷ other_lines o))
      some_bytes goal (outcomes.Proved block) = omega arith
      some_bytes goal (outcomes.Refuted index values) = omega arith
      some_bytes goal (outcomes.Open b) = omega arith
