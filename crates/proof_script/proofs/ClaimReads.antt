-- Claims and reports are read in one way.
use Rattle.std.proofs.Common.{◌≡◌, ◌⊎◌, inl, inr, ℕ, zero, suc, ◌≤◌, List, [], ◌∷◌, ◌++◌, Bool, true, false, refl, ap}
use Rattle.std.proofs.Common.{sym, ◌∙◌, codes, map, length, append_assoc, append-nil, arith}
use Rattle.std.specs.List.{AllByRecursion}
use Rattle.std.proofs.lemmas.List.{append_cancel_left}
use Rattle.term_core.specs.Tree.{Tree}
use Rattle.spec_core.specs.Sig.{Sig}
use Rattle.clause_core.specs.declared.steps.Step.{Step}
use Rattle.clause_core.specs.declared.reports.Claim.{Claim}
use Rattle.clause_core.specs.declared.reports.Outcome.{Outcome}
use Rattle.clause_core.specs.declared.reports.Outcome.TheVariants.{Proved, Refuted, Open}
use Rattle.clause_core.specs.declared.reports.Report.{Report}
use Rattle.proof_script.specs.Delimiters.{AllRun}
use Rattle.proof_script.specs.Words.{Word, fixed, number, Line, line_text, lines_text}
use Rattle.proof_script.specs.Steps.{step_line}
use Rattle.proof_script.specs.Claims.{yes_or_no, value_line, first_line, other_lines, header_lines, last_line}
use Rattle.proof_script.specs.Claims.{claim_text, claims_text, report_text}
use Rattle.proof_script.specs.Standing.{IsShort, StepStands}
use Rattle.proof_script.specs.Reports.{ValueStands, ClaimStands, ReportStands}
use Rattle.proof_script.specs.Texts.{Begins, IsReportText}
use Rattle.proof_script.proofs.SameTerms.{names_differ}
use Rattle.spec_core.specs.Declarations.{IsDeclared}
use Rattle.proof_script.specs.Laws.{Extends}
use Rattle.proof_script.proofs.Lists.{nil_cons}
use Rattle.proof_script.proofs.PlainNames.{name_plain}
use Rattle.proof_script.proofs.TermReads.{NamesDiffer}
use Rattle.proof_script.proofs.WordReads.{Sound, words_reads, head_reads}
use Rattle.proof_script.proofs.StepReads.{runs_all, same_words, number_in, text_in, term_in, word_first, word_second}
use Rattle.proof_script.proofs.StepReads.{rest_of, total, step_reads}

pub short_by : (m n : ℕ) → n ≤ m → m ≤ 100000 → IsShort n
short_by m n h k = omega (arith, h, k)

-- the word at a place, counted from 0
abbrev pub nth_word : ℕ → List Word → Word
nth_word zero ws = word_first ws
nth_word (suc n) ws = nth_word n (rest_of ws)

abbrev steps_line_of : ℕ → Line
steps_line_of n = record { head = codes "steps"; words = number n ∷ [] }

abbrev steps_lines : ℕ → List Line
steps_lines n = steps_line_of n ∷ []

module _ (sig : Sig) (d : NamesDiffer sig) where
  steps_reads : (ts us : List Step) (r s : List ℕ) → length ts ≡ length us →
      AllByRecursion (StepStands sig) ts → AllByRecursion (StepStands sig) us →
      lines_text sig (map step_line ts) ++ r ≡ lines_text sig (map step_line us) ++ s → (ts ≡ us) × (r ≡ s)
  steps_reads [] [] r s l p q e = (refl, e)
  steps_reads [] (u ∷ us) r s l p q e = absurd (omega (arith, l))
  steps_reads (t ∷ ts) [] r s l p q e = absurd (omega (arith, l))
  steps_reads (t ∷ ts) (u ∷ us) r s l p q e =
      let grouped = sym (append_assoc (line_text sig (step_line t)) (lines_text sig (map step_line ts)) r) ∙ e
      ∙ append_assoc (line_text sig (step_line u)) (lines_text sig (map step_line us)) s in
      let first = step_reads sig d t u (lines_text sig (map step_line ts) ++ r)
      (lines_text sig (map step_line us) ++ s) p.0 q.0 grouped in
      let next = steps_reads ts us r s (omega (arith, l)) p.1 q.1 first.1 in
      let h : t ≡ u = first.0 in
      let k : ts ≡ us = next.0 in
      (λ i. h i ∷ k i, next.1)

  equals_run : AllRun (codes "=")
  equals_run = runs_all (codes "=") refl

  pub value_reads : (v w : List ℕ × Tree) (r s : List ℕ) → ValueStands sig v → ValueStands sig w →
      line_text sig (value_line v) ++ r ≡ line_text sig (value_line w) ++ s → (v ≡ w) × (r ≡ s)
  value_reads v w r s p q e =
      let one = head_reads sig (value_line v) (value_line w) r s (name_plain v.0 p.name).run
      (name_plain w.0 q.name).run e in
      let two = words_reads sig d (value_line v).words (value_line w).words r s refl (
        equals_run,
        (p.stands, tt),
      ) (equals_run, (q.stands, tt)) one.rest in
      let h : v.0 ≡ w.0 = one.text in
      let k : v.1 ≡ w.1 = ap (λ ws. term_in (word_second ws)) two.0 in
      (λ i. (h i, k i), two.1)

  values_reads : (vs ws : List (List ℕ × Tree)) (r s : List ℕ) → length vs ≡ length ws →
      AllByRecursion (ValueStands sig) vs → AllByRecursion (ValueStands sig) ws →
      lines_text sig (map value_line vs) ++ r ≡ lines_text sig (map value_line ws) ++ s → (vs ≡ ws) × (r ≡ s)
  values_reads [] [] r s l p q e = (refl, e)
  values_reads [] (w ∷ ws) r s l p q e = absurd (omega (arith, l))
  values_reads (v ∷ vs) [] r s l p q e = absurd (omega (arith, l))
  values_reads (v ∷ vs) (w ∷ ws) r s l p q e =
      let grouped = sym (append_assoc (line_text sig (value_line v)) (lines_text sig (map value_line vs)) r) ∙ e
      ∙ append_assoc (line_text sig (value_line w)) (lines_text sig (map value_line ws)) s in
      let first = value_reads v w (lines_text sig (map value_line vs) ++ r) (lines_text sig (map value_line ws)
      ++ s) p.0 q.0 grouped in
      let next = values_reads vs ws r s (omega (arith, l)) p.1 q.1 first.1 in
      let h : v ≡ w = first.0 in
      let k : vs ≡ ws = next.0 in
      (λ i. h i ∷ k i, next.1)

  pub first_sound : (goal : List ℕ) (o : Outcome) → ClaimStands sig (record { goal = goal; outcome = o }) →
      AllByRecursion (Sound sig) (first_line goal o).words
  first_sound goal (Proved block) h = (
    h.goal,
    (runs_all (codes "nodes") refl, (short_by 10000 (length block.steps) h.outcome.0 (omega arith), tt)),
  )
  first_sound goal (Refuted index values) h = (
    h.goal,
    (
      runs_all (codes "index") refl,
      (h.outcome.0, (runs_all (codes "with") refl, (short_by 16 (length values) h.outcome.1 (omega arith), tt))),
    ),
  )
  first_sound goal (Open b) h = (
    h.goal,
    (
      runs_all (codes "depth") refl,
      (
        short_by 8 b.depth h.outcome.depth (omega arith),
        (
          runs_all (codes "tried") refl,
          (
            h.outcome.tried,
            (
              runs_all (codes "skipped") refl,
              (
                h.outcome.skipped,
                (
                  runs_all (codes "cut") refl,
                  (
                    cut_run b.cut,
                    (
                      runs_all (codes "plain") refl,
                      (h.outcome.plain, (runs_all (codes "nodes") refl, (h.outcome.nodes, tt))),
                    ),
                  ),
                ),
              ),
            ),
          ),
        ),
      ),
    ),
  )
    where
      cut_run : (x : Bool) → AllRun (yes_or_no x)
      cut_run true = runs_all (codes "yes") refl
      cut_run false = runs_all (codes "no") refl

  pub first_run : (goal : List ℕ) (o : Outcome) → AllRun (first_line goal o).head
  first_run goal (Proved block) = runs_all (codes "proved") refl
  first_run goal (Refuted index values) = runs_all (codes "refuted") refl
  first_run goal (Open b) = runs_all (codes "open") refl

  -- two lists of lines with their first ones
  lines_grouped : (l : Line) (ls : List Line) (r : List ℕ) → lines_text sig (l ∷ ls) ++ r ≡ line_text sig l
      ++ (lines_text sig ls ++ r)
  lines_grouped l ls r = append_assoc (line_text sig l) (lines_text sig ls) r

  same_cut : (a b : Bool) → yes_or_no a ≡ yes_or_no b → a ≡ b
  same_cut true true e = refl
  same_cut false false e = refl
  same_cut true false e = absurd (let n : 3 ≡ 2 = ap (λ (x : List ℕ). length x) e in omega (arith, n))
  same_cut false true e = absurd (let n : 2 ≡ 3 = ap (λ (x : List ℕ). length x) e in omega (arith, n))

  outcome_reads : (g h : List ℕ) (o q : Outcome) (r s : List ℕ) →
      ClaimStands sig (record { goal = g; outcome = o }) → ClaimStands sig (record { goal = h; outcome = q }) →
      lines_text sig (first_line g o ∷ other_lines o) ++ r ≡ lines_text sig (first_line h q ∷ other_lines q)
      ++ s → total (first_line g o).head ≡ total (first_line h q).head →
      (◌≡◌ {A = Claim} (record { goal = g; outcome = o }) (record { goal = h; outcome = q })) × (r ≡ s)
  outcome_reads g h (Proved b) (Proved c) r s p q e k =
      let grouped = sym (lines_grouped (first_line g (Proved b)) (map step_line b.steps) r) ∙ e
      ∙ lines_grouped (first_line h (Proved c)) (map step_line c.steps) s in
      let first = same_words sig d (first_line g (Proved b)) (first_line h (Proved c))
      (lines_text sig (map step_line b.steps) ++ r) (lines_text sig (map step_line c.steps) ++ s) refl
      (first_sound g (Proved b) p) (first_sound h (Proved c) q) (first_run g (Proved b))
      (first_run h (Proved c)) grouped in
      let goals : g ≡ h = ap (λ ws. text_in (nth_word 0 ws)) first.0 in
      let long : length b.steps ≡ length c.steps = ap (λ ws. number_in (nth_word 2 ws)) first.0 in
      let rest = steps_reads b.steps c.steps r s long p.outcome.1 q.outcome.1 first.1 in
      let steps : b.steps ≡ c.steps = rest.0 in
      (λ i. record { goal = goals i; outcome = Proved (record { steps = steps i }) }, rest.1)
  outcome_reads g h (Refuted a vs) (Refuted b ws) r s p q e k =
      let grouped = sym (lines_grouped (first_line g (Refuted a vs)) (map value_line vs) r) ∙ e
      ∙ lines_grouped (first_line h (Refuted b ws)) (map value_line ws) s in
      let first = same_words sig d (first_line g (Refuted a vs)) (first_line h (Refuted b ws))
      (lines_text sig (map value_line vs) ++ r) (lines_text sig (map value_line ws) ++ s) refl
      (first_sound g (Refuted a vs) p) (first_sound h (Refuted b ws) q) (first_run g (Refuted a vs))
      (first_run h (Refuted b ws)) grouped in
      let goals : g ≡ h = ap (λ ws. text_in (nth_word 0 ws)) first.0 in
      let index : a ≡ b = ap (λ ws. number_in (nth_word 2 ws)) first.0 in
      let long : length vs ≡ length ws = ap (λ ws. number_in (nth_word 4 ws)) first.0 in
      let rest = values_reads vs ws r s long p.outcome.2 q.outcome.2 first.1 in
      let values : vs ≡ ws = rest.0 in
      (λ i. record { goal = goals i; outcome = Refuted (index i) (values i) }, rest.1)
  outcome_reads g h (Open a) (Open b) r s p q e k =
      let grouped = sym (lines_grouped (first_line g (Open a)) [] r) ∙ e ∙ lines_grouped (first_line h (Open b)) [] s in
      let first = same_words sig d (first_line g (Open a)) (first_line h (Open b)) r s refl
      (first_sound g (Open a) p) (first_sound h (Open b) q) (first_run g (Open a)) (first_run h (Open b)) grouped in
      let goals : g ≡ h = ap (λ ws. text_in (nth_word 0 ws)) first.0 in
      let depth : a.depth ≡ b.depth = ap (λ ws. number_in (nth_word 2 ws)) first.0 in
      let tried : a.tried ≡ b.tried = ap (λ ws. number_in (nth_word 4 ws)) first.0 in
      let skipped : a.skipped ≡ b.skipped = ap (λ ws. number_in (nth_word 6 ws)) first.0 in
      let cut : a.cut ≡ b.cut = same_cut a.cut b.cut (ap (λ ws. text_in (nth_word 8 ws)) first.0) in
      let plain : a.plain ≡ b.plain = ap (λ ws. number_in (nth_word 10 ws)) first.0 in
      let nodes : a.nodes ≡ b.nodes = ap (λ ws. number_in (nth_word 12 ws)) first.0 in (
        λ i. record {
          goal = goals i;
          outcome = Open
              (record {
                depth = depth i;
                tried = tried i;
                skipped = skipped i;
                cut = cut i;
                plain = plain i;
                nodes = nodes i;
              });
        },
        first.1,
      )
  outcome_reads g h _ _ r s p q e k = absurd (omega (arith, k))

  heads_total : (l m : Line) (ls ms : List Line) (r s : List ℕ) → AllRun l.head → AllRun m.head →
      lines_text sig (l ∷ ls) ++ r ≡ lines_text sig (m ∷ ms) ++ s → total l.head ≡ total m.head
  heads_total l m ls ms r s p q e = ap (λ bs. total bs)
      (head_reads sig l m (lines_text sig ls ++ r) (lines_text sig ms ++ s) p q (sym (lines_grouped l ls r) ∙ e
      ∙ lines_grouped m ms s)).text

  pub claim_reads : (a b : Claim) (r s : List ℕ) → ClaimStands sig a → ClaimStands sig b →
      claim_text sig a ++ r ≡ claim_text sig b ++ s → (a ≡ b) × (r ≡ s)
  claim_reads a b r s p q e = outcome_reads a.goal b.goal a.outcome b.outcome r s p q e
      (heads_total (first_line a.goal a.outcome) (first_line b.goal b.outcome) (other_lines a.outcome)
      (other_lines b.outcome) r s (first_run a.goal a.outcome) (first_run b.goal b.outcome) e)

  pub next_claim : (a : Claim) (cs : List Claim) (r : List ℕ) → claims_text sig (a ∷ cs) ++ r ≡ claim_text sig a
      ++ (claims_text sig cs ++ r)
  next_claim a cs r = append_assoc (claim_text sig a) (claims_text sig cs) r

  -- if the texts of two lists of claims begin the same bytes, one of the lists begins with the other
  pub claims_extend : (cs ds : List Claim) (r s : List ℕ) → AllByRecursion (ClaimStands sig) cs →
      AllByRecursion (ClaimStands sig) ds → claims_text sig cs ++ r ≡ claims_text sig ds ++ s →
      Extends cs ds ⊎ Extends ds cs
  claims_extend [] ds r s p q e = inl (ds, refl)
  claims_extend (c ∷ cs) [] r s p q e = inr (c ∷ cs, refl)
  claims_extend (c ∷ cs) (b ∷ ds) r s p q e = by (claims_extend cs ds r s p.1 q.1 first.1)
    where
      first : (c ≡ b) × (claims_text sig cs ++ r ≡ claims_text sig ds ++ s)
      first = claim_reads c b (claims_text sig cs ++ r) (claims_text sig ds ++ s) p.0 q.0
          (sym (next_claim c cs r) ∙ e ∙ next_claim b ds s)

      by : Extends cs ds ⊎ Extends ds cs → Extends (c ∷ cs) (b ∷ ds) ⊎ Extends (b ∷ ds) (c ∷ cs)
      by (inl (more, k)) = let h : c ≡ b = first.0 in inl (more, λ i. sym h i ∷ k i)
      by (inr (more, k)) = let h : c ≡ b = first.0 in inr (more, λ i. h i ∷ k i)

  -- no claim begins with the last line's word
  pub not_done : (c : Claim) (cs : List Claim) (r s : List ℕ) → claims_text sig (c ∷ cs)
      ++ r ≡ lines_text sig (last_line ∷ []) ++ s → ⊥
  not_done c cs r s e = by c.outcome
      (heads_total (first_line c.goal c.outcome) last_line (other_lines c.outcome) [] (claims_text sig cs ++ r)
      s (first_run c.goal c.outcome) (runs_all (codes "done") refl) (sym (next_claim c cs r) ∙ e))
    where
      by : (o : Outcome) → total (first_line c.goal o).head ≡ total (codes "done") → ⊥
      by (Proved block) k = omega (arith, k)
      by (Refuted index values) k = omega (arith, k)
      by (Open b) k = omega (arith, k)

  claims_reads : (cs ds : List Claim) (r s : List ℕ) → AllByRecursion (ClaimStands sig) cs →
      AllByRecursion (ClaimStands sig) ds →
      claims_text sig cs ++ (lines_text sig (last_line ∷ []) ++ r) ≡ claims_text sig ds
      ++ (lines_text sig (last_line ∷ []) ++ s) → (cs ≡ ds) × (r ≡ s)
  claims_reads [] [] r s p q e = (refl, append_cancel_left (lines_text sig (last_line ∷ [])) r s e)
  claims_reads [] (b ∷ ds) r s p q e = absurd (not_done b ds (lines_text sig (last_line ∷ []) ++ s) r (sym e))
  claims_reads (c ∷ cs) [] r s p q e = absurd (not_done c cs (lines_text sig (last_line ∷ []) ++ r) s e)
  claims_reads (c ∷ cs) (b ∷ ds) r s p q e =
      let x = claims_text sig cs ++ (lines_text sig (last_line ∷ []) ++ r) in
      let y = claims_text sig ds ++ (lines_text sig (last_line ∷ []) ++ s) in
      let first = claim_reads c b x y p.0 q.0 (sym (next_claim c cs (lines_text sig (last_line ∷ []) ++ r)) ∙ e
      ∙ next_claim b ds (lines_text sig (last_line ∷ []) ++ s)) in
      let next = claims_reads cs ds r s p.1 q.1 first.1 in
      let h : c ≡ b = first.0 in
      let k : cs ≡ ds = next.0 in
      (λ i. h i ∷ k i, next.1)

  pub report_grouped : (a : Report) (r : List ℕ) →
      report_text sig a ++ r ≡ lines_text sig (header_lines a.steps)
      ++ (claims_text sig a.claims ++ (lines_text sig (last_line ∷ []) ++ r))
  report_grouped a r = append_assoc (lines_text sig (header_lines a.steps)) (claims_text sig a.claims
      ++ lines_text sig (last_line ∷ [])) r ∙ ap (λ z. lines_text sig (header_lines a.steps) ++ z)
      (append_assoc (claims_text sig a.claims) (lines_text sig (last_line ∷ [])) r)

  pub header_reads : (m n : ℕ) (r s : List ℕ) → IsShort m → IsShort n → lines_text sig (header_lines m)
      ++ r ≡ lines_text sig (header_lines n) ++ s → (m ≡ n) × (r ≡ s)
  header_reads m n r s p q e =
      let first : Line = record { head = codes "spike-report"; words = fixed (codes "1") ∷ [] } in
      let behind = append_cancel_left (line_text sig first) (lines_text sig (steps_lines m) ++ r)
      (lines_text sig (steps_lines n) ++ s) (sym (lines_grouped first (steps_lines m) r) ∙ e
      ∙ lines_grouped first (steps_lines n) s) in
      let two = same_words sig d (steps_line_of m) (steps_line_of n) r s refl (p, tt) (
        q,
        tt,
      ) (runs_all (codes "steps") refl) (runs_all (codes "steps") refl)
      (sym (lines_grouped (steps_line_of m) [] r) ∙ behind ∙ lines_grouped (steps_line_of n) [] s) in
      (ap (λ ws. number_in (nth_word 0 ws)) two.0, two.1)

  pub report_reads : (a b : Report) (r s : List ℕ) → ReportStands sig a → ReportStands sig b →
      report_text sig a ++ r ≡ report_text sig b ++ s → (a ≡ b) × (r ≡ s)
  report_reads a b r s p q e =
      let x = claims_text sig a.claims ++ (lines_text sig (last_line ∷ []) ++ r) in
      let y = claims_text sig b.claims ++ (lines_text sig (last_line ∷ []) ++ s) in
      let first = header_reads a.steps b.steps x y (short_by 100000 a.steps p.steps.1 (omega arith))
      (short_by 100000 b.steps q.steps.1 (omega arith)) (sym (report_grouped a r) ∙ e ∙ report_grouped b s) in
      let next = claims_reads a.claims b.claims r s p.claims q.claims first.1 in
      let steps : a.steps ≡ b.steps = first.0 in
      let claims : a.claims ≡ b.claims = next.0 in
      (λ i. record { steps = steps i; claims = claims i }, next.1)

pub one_report : (sig : Sig) (bytes : List ℕ) (report other : Report) → IsDeclared sig →
    IsReportText sig bytes report → IsReportText sig bytes other → report ≡ other
one_report sig bytes report other h p q = (report_reads sig (names_differ sig h) report other [] [] p.stands
    q.stands (append-nil (report_text sig report) ∙ sym p.is ∙ q.is ∙ sym (append-nil (report_text sig other)))).0

no_more : (xs ys : List ℕ) → [] ≡ xs ++ ys → xs ≡ []
no_more [] ys e = refl
no_more (x ∷ xs) ys e = absurd (nil_cons e)

pub text_ends : (sig : Sig) (bytes more : List ℕ) (report other : Report) → IsDeclared sig →
    IsReportText sig bytes report → Begins sig (bytes ++ more) other → more ≡ []
text_ends sig bytes more report other h p q =
    let e : report_text sig other ++ [] ≡ report_text sig report
    ++ (more ++ q.more) = append-nil (report_text sig other) ∙ q.is ∙ append_assoc bytes more q.more
    ∙ ap (λ z. z ++ (more ++ q.more)) p.is in
    no_more more q.more (report_reads sig (names_differ sig h) other report [] (more ++ q.more) q.stands p.stands e).1

pub claims_extend_bytes : (sig : Sig) (bytes after others : List ℕ) (cs ds : List Claim) → IsDeclared sig →
    AllByRecursion (ClaimStands sig) cs → AllByRecursion (ClaimStands sig) ds → bytes ≡ claims_text sig cs
    ++ after → bytes ≡ claims_text sig ds ++ others → Extends cs ds ⊎ Extends ds cs
claims_extend_bytes sig bytes after others cs ds h p q e f = claims_extend sig (names_differ sig h) cs ds after
    others p q (sym e ∙ f)
