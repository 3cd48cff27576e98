-- A line that can't come next at a stage is the first that can't continue.
use Rattle.std.proofs.Common.{◌≡◌, ◌≢◌, ◌⊎◌, inl, inr, ℕ, ◌+◌, ◌≤◌, ◌<◌, List, [], ◌∷◌, ◌++◌, Bool, true, false, refl}
use Rattle.std.proofs.Common.{ap, sym, ◌∙◌, subst, codes, length, length-append, append_assoc, append-nil, arith}
use Rattle.std.specs.Prelude.{◌==◌}
use Rattle.std.proofs.lemmas.Bool.{eqb-true, eqb-false}
use Rattle.term_core.specs.Tree.{Tree}
use Rattle.term_core.proofs.Items.{all_append}
use Rattle.spec_core.specs.Sig.{Sig}
use Rattle.spec_core.specs.Declarations.{IsDeclared}
use Rattle.clause_core.specs.declared.reports.Report.{Report}
use Rattle.clause_core.specs.declared.steps.Step.{Step}
use Rattle.proof_script.specs.Claims.{claim_text, claims_text, header_lines, last_line, report_text}
use Rattle.proof_script.specs.Faults.{IsOneLine, whole_lines, BeginsSome, CannotGoOn, strange, unfinished, IsFaultyLine}
use Rattle.proof_script.specs.LineWords.{IsStepLine}
use Rattle.proof_script.specs.Reports.{ReportStands}
use Rattle.proof_script.specs.Texts.{Begins, IsReportText}
use Rattle.proof_script.specs.Words.{Line, line_text, lines_text}
use Rattle.proof_script.proofs.Begun.{begun_small, text_of_small}
use Rattle.proof_script.proofs.ClaimReads.{short_by, text_ends}
use Rattle.proof_script.proofs.Lists.{nil_cons, cons_nil}
use Rattle.proof_script.proofs.Prefixes.{text_begins}
use Rattle.proof_script.proofs.SameTerms.{names_differ}
use Rattle.proof_script.proofs.SingleLines.{next_line}
use Rattle.proof_script.proofs.WordReads.{words_text}
use Rattle.report_reader.specs.Answers.{TellsFault}
use Rattle.report_reader.specs.Behind.{IsBehind, HasNoClaimLine}
use Rattle.report_reader.specs.FirstLines.{IsFirst, IsStepsLine}
use Rattle.report_reader.specs.Lines.{IsLine, IsLineAt, IsNext, HasNoLine, NoLineAt}
use Rattle.report_reader.specs.Stages.{Stage, start, titled, between, proving, refuting, IsOpen, MayFollow}
use Rattle.report_reader.specs.Stages.{StageStands, part_text, report_size, stage_text, steps_line, title_line}
use Rattle.report_reader.specs.Stages.{whole_text}
use Rattle.report_reader.specs.ValueLines.{IsValueLine}
use Rattle.report_reader.specs.declared.errors.ReportError.{ReportError}
use Rattle.report_reader.specs.declared.first_lines.FirstLine.{FirstLine}
use Rattle.report_reader.specs.declared.lines.Lines.{Lines}
use Rattle.report_reader.proofs.BegunStages.{begun}
use Rattle.report_reader.proofs.Filled.{all_left, all_right}
use Rattle.report_reader.proofs.Follows.{InReport, follows, proving_follows, refuting_follows}
use Rattle.report_reader.proofs.LineTexts.{bare_is, line_is, whole_lines-push}
use Rattle.report_reader.proofs.PlainLines.{plain_line}

no_bytes : (xs ys : List ℕ) → [] ≡ xs ++ ys → xs ≡ []
no_bytes [] ys e = refl
no_bytes (x ∷ xs) ys e = absurd (nil_cons e)

not_none : (line : List ℕ) → line ++ codes "\n" ≡ [] → ⊥
not_none [] e = cons_nil e
not_none (x ∷ line) e = cons_nil e

-- the first newline, if there is one
abbrev FirstNewline : List ℕ → Type 0
FirstNewline bytes = IsOneLine bytes ⊎ ((line : List ℕ) × (after : List ℕ) × IsOneLine line
    × (bytes ≡ (line ++ codes "\n") ++ after))

first_newline : (bytes : List ℕ) → FirstNewline bytes
first_newline [] = inl tt
first_newline (c ∷ bytes) = by (c == 10) refl (first_newline bytes)
  where
    by : (x : Bool) → (c == 10) ≡ x → FirstNewline bytes → FirstNewline (c ∷ bytes)
    by true e f = inr ([], bytes, tt, ap (λ z. z ∷ bytes) (eqb-true c 10 e))
    by false e (inl o) = inl (eqb-false c 10 e, o)
    by false e (inr (line, after, o, q)) = inr (c ∷ line, after, (eqb-false c 10 e, o), ap (λ z. c ∷ z) q)

module _ (sig : Sig) (d : IsDeclared sig) where
  -- a line's text has a newline
  has_newline : (line : Line) (after : List ℕ) → IsOneLine (line_text sig line ++ after) → ⊥
  has_newline line after o =
      let text = all_left (λ (b : ℕ). b ≢ 10) (line_text sig line) after o in
      let words = all_right (λ (b : ℕ). b ≢ 10) line.head (words_text sig line.words ++ codes "\n") text in
      (all_right (λ (b : ℕ). b ≢ 10) (words_text sig line.words) (codes "\n") words).0 refl

  -- the bytes are a line that may come next
  record Expected (stage : Stage) (bytes : List ℕ) : Type 0 where
    line : Line
    may : MayFollow sig stage line
    is : IsLine sig bytes line

  expected : (stage : Stage) (bytes after : List ℕ) (report : Report) → StageStands sig stage → IsOpen stage →
      IsOneLine bytes → ReportStands sig report → report_text sig report ≡ stage_text sig stage
      ++ ((bytes ++ codes "\n") ++ after) → Expected stage bytes
  expected stage bytes after report h asked o p e =
      let f = follows sig (names_differ sig d) stage report ((bytes ++ codes "\n") ++ after) h asked p e in
      let q = plain_line sig (names_differ sig d) stage f.line f.may in
      record {
        line = f.line;
        may = f.may;
        is = line_is sig bytes f.line
            (next_line sig f.line bytes f.after after q.head q.words o f.is).0;
      }

  module _ (text : List ℕ) (lines : Lines) (stage : Stage) (b : IsBehind sig text lines stage) where
    faulty : CannotGoOn sig b.before lines.rest.now → IsFaultyLine sig text lines.number
    faulty stuck = record {
      before = b.before;
      rest = lines.rest.now;
      whole = b.whole;
      lines = b.single;
      place = b.number;
      begun = subst (λ z. BeginsSome sig z) (sym b.is) (begun sig d stage b.stands b.small);
      stuck = stuck;
    }

    strange_line : (bytes after : List ℕ) → IsOpen stage → IsOneLine bytes →
        lines.rest.now ≡ (bytes ++ codes "\n") ++ after →
        ((line : Line) → MayFollow sig stage line → IsLine sig bytes line → ⊥) → IsFaultyLine sig text lines.number
    strange_line bytes after asked o e never = faulty (strange bytes after e o (λ (report, h). none report h))
      where
        none : (report : Report) → Begins sig (whole_lines b.before ++ (bytes ++ codes "\n")) report → ⊥
        none report h =
            let x = expected stage bytes h.more report b.stands asked o h.stands
            (h.is ∙ append_assoc (whole_lines b.before) (bytes ++ codes "\n") h.more
            ∙ ap (λ z. z ++ ((bytes ++ codes "\n") ++ h.more)) b.is) in
            never x.line x.may x.is

    missing_line : IsOpen stage → IsOneLine lines.rest.now → IsFaultyLine sig text lines.number
    missing_line asked o = faulty (unfinished o none)
      where
        none : (report : Report) → IsReportText sig (whole_lines b.before ++ lines.rest.now) report → ⊥
        none report h =
            let f = follows sig (names_differ sig d) stage report lines.rest.now b.stands asked h.stands
            (sym h.is ∙ ap (λ z. z ++ lines.rest.now) b.is) in
            has_newline f.line f.after (subst IsOneLine (sym f.is) o)

    no_line : IsOpen stage → NoLineAt lines.rest.now → IsFaultyLine sig text lines.number
    no_line asked (inl o) = missing_line asked o
    no_line asked (inr (rest, e)) = strange_line [] rest asked tt e
        (λ line may is. (plain_line sig (names_differ sig d) stage line may).some
        (no_bytes line.head (words_text sig line.words) (bare_is sig [] line is)))

    -- there is no line at an asked stage
    pub stops : (error : ReportError) → IsOpen stage → HasNoLine lines error → TellsFault sig text error
    stops error asked h = subst (λ e. TellsFault sig text e) (sym h.named) (no_line asked h.none)

    -- the line isn't one that may come next
    pub strange_next : (bytes : List ℕ) (behind : Lines) → IsOpen stage → IsNext lines bytes behind →
        ((line : Line) → MayFollow sig stage line → IsLine sig bytes line → ⊥) → IsFaultyLine sig text lines.number
    strange_next bytes behind asked n never = strange_line bytes behind.rest.now asked n.at.single n.at.is never

  module _ (text : List ℕ) (lines : Lines) (bytes : List ℕ) (behind : Lines) (i : IsNext lines bytes behind) where
    pub no_title : IsBehind sig text lines start → (bytes ≡ codes "spike-report 1" → ⊥) →
        IsFaultyLine sig text lines.number
    no_title b other = strange_next text lines start b bytes behind tt i
        (λ line e is. other (bare_is sig bytes title_line (is ∙ ap (λ l. line_text sig l) e)))

    pub no_steps : IsBehind sig text lines titled → ((n : ℕ) → IsStepsLine bytes n → ⊥) →
        IsFaultyLine sig text lines.number
    no_steps b never = strange_next text lines titled b bytes behind tt i
        (λ line (n, range, e) is. never n
        (record {
          range = range;
          is = record {
            short = short_by 100000 n range.1 (omega arith);
            is = bare_is sig
                bytes (steps_line n) (is ∙ ap (λ l. line_text sig l) e);
            ends = tt;
          };
        }))

  -- a line with which a claim has too many bytes
  module _ (stage : Stage) (before : Report) (inside : (report : Report) (s : List ℕ) →
      ReportStands sig report → report_text sig report ≡ (whole_text sig before ++ part_text sig stage) ++ s →
      InReport sig stage before report s) where
    too_long : (bytes : List ℕ) (report : Report) → IsOneLine bytes →
        Begins sig ((whole_text sig before ++ part_text sig stage) ++ (bytes ++ codes "\n")) report →
        length (part_text sig stage ++ (bytes ++ codes "\n")) ≤ 300000
    too_long bytes report o h =
        let part = part_text sig stage in
        let x = bytes ++ codes "\n" in
        let head = lines_text sig (header_lines before.steps) in
        let claims = claims_text sig before.claims in
        let r = inside report (x ++ h.more) h.stands (h.is ∙ append_assoc (whole_text sig before ++ part) x h.more) in
        let q = plain_line sig (names_differ sig d) stage r.inside.line r.inside.may in
        let is = line_is sig bytes r.inside.line (next_line sig r.inside.line bytes (r.inside.more ++ r.behind)
        h.more q.head q.words o r.inside.is).0 in
        let claim_is : claim_text sig r.claim ≡ (part ++ x) ++ r.inside.more = r.inside.text
        ∙ ap (λ z. part ++ (z ++ r.inside.more)) (sym is) ∙ sym (append_assoc part x r.inside.more) in
        let bytes_are : (whole_text sig before ++ part) ++ x ≡ head
        ++ (claims ++ (part ++ x)) = append_assoc (whole_text sig before) part x
        ∙ append_assoc head claims (part ++ x) in
        let report_is : report ≡ record {
          steps = before.steps;
          claims = before.claims
              ++ (r.claim ∷ r.others);
        } = λ i. record { steps = r.steps i; claims = r.claims i } in
        begun_small sig before.steps before.claims r.others r.claim (part ++ x) r.inside.more
        (subst (λ z. Begins sig z
        (record { steps = before.steps; claims = before.claims ++ (r.claim ∷ r.others) })) bytes_are
        (subst (λ z. Begins sig ((whole_text sig before ++ part) ++ x) z) report_is h)) claim_is

    claim_stops : (text : List ℕ) (lines : Lines) (begins : ℕ) (error : ReportError) →
        IsBehind sig text lines stage → IsOpen stage → stage_text sig stage ≡ whole_text sig before
        ++ part_text sig stage → begins ≡ report_size sig before → HasNoClaimLine lines begins error →
        TellsFault sig text error
    claim_stops text lines begins error b asked whole size h = subst (λ e. TellsFault sig text e) (sym h.named)
        (by h.none)
      where
        none : (bytes : List ℕ) → IsOneLine bytes → begins + 300000 < lines.read + (length bytes + 1) →
            (report : Report) → Begins sig (whole_lines b.before ++ (bytes ++ codes "\n")) report → ⊥
        none bytes o long report g =
            let few = too_long bytes report o (subst (λ z. Begins sig (z ++ (bytes ++ codes "\n")) report)
            (b.is ∙ whole) g) in
            omega (
              arith,
              few,
              long,
              size,
              b.read,
              ap (λ (z : List ℕ). length z) whole,
              length-append (whole_text sig before) (part_text sig stage),
              length-append (part_text sig stage) (bytes ++ codes "\n"),
              length-append bytes (codes "\n"),
            )

        by : NoLineAt lines.rest.now ⊎ ((line rest : List ℕ) × IsLineAt lines.rest.now line rest
            × (begins + 300000 < lines.read + (length line + 1))) → IsFaultyLine sig text lines.number
        by (inl n) = no_line text lines stage b asked n
        by (inr (bytes, rest, at, long)) = faulty text lines stage b
            (strange bytes rest at.is at.single (λ (report, g). none bytes at.single long report g))

  module _ (text : List ℕ) (lines : Lines) (report : Report) where
    pub proving_stops : (goal : List ℕ) (n : ℕ) (steps : List Step) (begins : ℕ) (error : ReportError) →
        IsBehind sig text lines (proving report goal n steps) → length steps < n →
        begins ≡ report_size sig report → HasNoClaimLine lines begins error → TellsFault sig text error
    proving_stops goal n steps begins error b asked size h = claim_stops (proving report goal n steps) report
        (λ other s p e. proving_follows sig (names_differ sig d) report goal n steps other s b.stands asked p e)
        text lines begins error b asked refl size h

    pub refuting_stops : (goal : List ℕ) (index n : ℕ) (values : List (List ℕ × Tree)) (begins : ℕ)
        (error : ReportError) → IsBehind sig text lines (refuting report goal index n values) →
        length values < n → begins ≡ report_size sig report → HasNoClaimLine lines begins error →
        TellsFault sig text error
    refuting_stops goal index n values begins error b asked size h = claim_stops
        (refuting report goal index n values) report (λ other s p e. refuting_follows sig (names_differ sig d)
        report goal index n values other s b.stands asked p e) text lines begins error b asked refl size h

    module _ (bytes : List ℕ) (behind : Lines) (i : IsNext lines bytes behind) where
      pub no_step : (goal : List ℕ) (n : ℕ) (steps : List Step) →
          IsBehind sig text lines (proving report goal n steps) → length steps < n →
          ((step : Step) → IsStepLine sig bytes step → ⊥) → IsFaultyLine sig text lines.number
      no_step goal n steps b asked never = strange_next text lines (proving report goal n steps) b bytes behind
          asked i (λ line (step, h, q) is. never step (record { stands = h; is = is ∙ ap (λ l. line_text sig l) q }))

      pub no_value : (goal : List ℕ) (index n : ℕ) (values : List (List ℕ × Tree)) →
          IsBehind sig text lines (refuting report goal index n values) → length values < n →
          ((name : List ℕ) (value : Tree) → IsValueLine sig bytes name value → ⊥) → IsFaultyLine sig text lines.number
      no_value goal index n values b asked never = strange_next text lines (refuting report goal index n values)
          b bytes behind asked i
          (λ line (v, h, q) is. never v.0 v.1 (record { stands = h; is = is ∙ ap (λ l. line_text sig l) q }))

      pub no_first : IsBehind sig text lines (between report) → (bytes ≡ codes "done" → ⊥) →
          ((first : FirstLine) → IsFirst sig bytes first → ⊥) → IsFaultyLine sig text lines.number
      no_first b other never = strange_next text lines (between report) b bytes behind tt i by
        where
          by : (line : Line) → MayFollow sig (between report) line → IsLine sig bytes line → ⊥
          by line (inl q) is = other (bare_is sig bytes last_line (is ∙ ap (λ l. line_text sig l) q))
          by line (inr (first, h, q)) is = never first (record { stands = h; is = is ∙ ap (λ l. line_text sig l) q })

    -- after the last line
    module _ (behind : Lines) (b : IsBehind sig text lines (between report))
        (i : IsNext lines (codes "done") behind) where
      whole_is : whole_lines (b.before ++ codes "done" ∷ []) ≡ report_text sig report
      whole_is = whole_lines-push b.before (codes "done") ∙ ap (λ z. z ++ codes "done\n") b.is
          ∙ append_assoc (lines_text sig (header_lines report.steps)) (claims_text sig report.claims) (codes "done\n")

      text_is : text ≡ whole_lines (b.before ++ codes "done" ∷ []) ++ behind.rest.now
      text_is =
          b.whole ∙ ap (λ z. whole_lines b.before ++ z) i.at.is
          ∙ sym (append_assoc (whole_lines b.before) (codes "done\n") behind.rest.now)
          ∙ ap (λ z. z ++ behind.rest.now) (sym (whole_lines-push b.before (codes "done")))

      is_text : IsReportText sig (whole_lines (b.before ++ codes "done" ∷ [])) report
      is_text = subst (λ z. IsReportText sig z report) (sym whole_is)
          (text_of_small sig report b.stands.stands b.stands.small)

      -- nothing follows
      pub whole_report : behind.rest.now ≡ [] → IsReportText sig text report
      whole_report e = subst (λ z. IsReportText sig z report)
          (sym (text_is ∙ ap (λ z. whole_lines (b.before ++ codes "done" ∷ []) ++ z) e
          ∙ append-nil (whole_lines (b.before ++ codes "done" ∷ [])))) is_text

      -- something does
      pub follows_last : (behind.rest.now ≡ [] → ⊥) → IsFaultyLine sig text behind.number
      follows_last some = record {
        before = b.before ++ codes "done" ∷ [];
        rest = behind.rest.now;
        whole = text_is;
        lines = all_append IsOneLine b.before (codes "done" ∷ []) b.single (i.at.single, tt);
        place = omega (arith, i.number, b.number, length-append b.before (codes "done" ∷ []));
        begun = (report, text_begins sig (whole_lines (b.before ++ codes "done" ∷ [])) report is_text);
        stuck = by (first_newline behind.rest.now);
      }
        where
          by : FirstNewline behind.rest.now → CannotGoOn sig (b.before ++ codes "done" ∷ []) behind.rest.now
          by (inl o) = unfinished o
              (λ other h. some (text_ends sig (whole_lines (b.before ++ codes "done" ∷ [])) behind.rest.now
              report other d is_text
              (text_begins sig (whole_lines (b.before ++ codes "done" ∷ []) ++ behind.rest.now) other h)))
          by (inr (line, after, o, e)) = strange line after e o
              (λ (other, h). not_none line (text_ends sig (whole_lines (b.before ++ codes "done" ∷ []))
              (line ++ codes "\n") report other d is_text h))
