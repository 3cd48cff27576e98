-- The first line of a claim, by its first word.
use Rattle.std.proofs.Common.{◌≡◌, ℕ, ◌≤◌, List, [], ◌++◌, Option, Some, None, Result, Ok, Err, refl, ap, sym, ◌∙◌}
use Rattle.std.proofs.Common.{codes, arith}
use Rattle.std.specs.Prelude.{IfOk, MatchOption}
use Rattle.std.specs.Fmt.{decimal}
use Rattle.std.proofs.lemmas.List.{append_cancel_left}
use Rattle.spec_core.specs.Sig.{Sig}
use Rattle.spec_core.specs.Declarations.{IsDeclared}
use Rattle.clause_core.specs.declared.reports.Budget.{Budget}
use Rattle.proof_script.specs.LineWords.{IsWordAt}
use Rattle.proof_script.specs.Reports.{BudgetStands}
use Rattle.proof_script.specs.Standing.{IsShort}
use Rattle.proof_script.specs.Words.{name}
use Rattle.proof_script.proofs.Lists.{Same, same_head}
use Rattle.proof_script.proofs.NextWords.{as_plain, one_plain}
use Rattle.proof_script.proofs.WordReads.{words_text}
use Rattle.report_reader.specs.FirstLines.{IsFirst, IsFirstBehind, budget_text, line_of}
use Rattle.report_reader.specs.declared.first_lines.FirstLine.{FirstLine}
use Rattle.report_reader.specs.declared.first_lines.FirstLine.TheVariants.{Proved, Refuted, Open}
use Rattle.report_reader.proofs.LineTexts.{bare_is, line_is}

module _ (sig : Sig) where
  -- a name that was read is the one that is there
  pub one_name : (bytes goal rest other last : List ℕ) → IsWordAt sig bytes (name goal) rest →
      IsWordAt sig bytes (name other) last → Same goal other rest last
  one_name bytes goal rest other last h k = one_plain bytes goal rest other last
      (as_plain sig bytes (name goal) rest tt h) (as_plain sig bytes (name other) last tt k)

  -- what comes after the name
  abbrev pub from_proved : ℕ → List ℕ
  from_proved n = codes " nodes " ++ (decimal n ++ [])

  abbrev pub from_refuted : ℕ → ℕ → List ℕ
  from_refuted index n = codes " index " ++ (decimal index ++ (codes " with " ++ (decimal n ++ [])))

  -- only a proved claim's line begins so
  pub no_proved : (words : List ℕ) →
      ((goal : List ℕ) (n : ℕ) → n ≤ 10000 → IsWordAt sig words (name goal) (from_proved n) → ⊥) →
      (first : FirstLine) → IsFirstBehind sig (codes "proved") words first → ⊥
  no_proved words never (Proved goal n) h = never goal n h.stands.1
      (record { stands = h.stands.0; is = h.is; ends = refl })
  no_proved words never (Refuted goal index n) h = let q : 114 ≡ 112 = same_head h.named in omega (arith, q)
  no_proved words never (Open goal b) h = let q : 111 ≡ 112 = same_head h.named in omega (arith, q)

  pub no_refuted : (words : List ℕ) → ((goal : List ℕ) (index n : ℕ) → IsShort index → n ≤ 16 →
      IsWordAt sig words (name goal) (from_refuted index n) → ⊥) → (first : FirstLine) →
      IsFirstBehind sig (codes "refuted") words first → ⊥
  no_refuted words never (Proved goal n) h = let q : 112 ≡ 114 = same_head h.named in omega (arith, q)
  no_refuted words never (Refuted goal index n) h = never goal index n h.stands.1 h.stands.2
      (record { stands = h.stands.0; is = h.is; ends = refl })
  no_refuted words never (Open goal b) h = let q : 111 ≡ 114 = same_head h.named in omega (arith, q)

  pub no_open : (words : List ℕ) →
      ((goal : List ℕ) (b : Budget) → BudgetStands b → IsWordAt sig words (name goal) (budget_text b) → ⊥) →
      (first : FirstLine) → IsFirstBehind sig (codes "open") words first → ⊥
  no_open words never (Proved goal n) h = let q : 112 ≡ 111 = same_head h.named in omega (arith, q)
  no_open words never (Refuted goal index n) h = let q : 114 ≡ 111 = same_head h.named in omega (arith, q)
  no_open words never (Open goal b) h = never goal b h.stands.1 (record { stands = h.stands.0; is = h.is; ends = refl })

  -- a line as its first word and the others
  pub first_found : (line head words : List ℕ) (first : FirstLine) → line ≡ head ++ words →
      IsFirstBehind sig head words first → IsFirst sig line first
  first_found line head words first e h = record {
    stands = h.stands;
    is = line_is sig line (line_of first) (e ∙ ap (λ z. z ++ words) (sym h.named)
        ∙ ap (λ z. (line_of first).head ++ z) h.is);
  }

  pub behind_head : (line head words : List ℕ) (first : FirstLine) → line ≡ head ++ words →
      (line_of first).head ≡ head → IsFirst sig line first → IsFirstBehind sig head words first
  behind_head line head words first e named h = record {
    named = named;
    stands = h.stands;
    is = append_cancel_left head words (words_text sig (line_of first).words)
        (sym e ∙ bare_is sig line (line_of first) h.is ∙ ap (λ z. z ++ words_text sig (line_of first).words) named);
  }

  -- the first byte of the line tells its first word
  pub is_proved : (line words : List ℕ) (first : FirstLine) → line ≡ codes "proved" ++ words →
      IsFirst sig line first → (line_of first).head ≡ codes "proved"
  is_proved line words (Proved goal n) e h = refl
  is_proved line words (Refuted goal index n) e h = absurd
      (let q : 112 ≡ 114 = same_head (sym e ∙ bare_is sig line (line_of (Refuted goal index n)) h.is) in
      omega (arith, q))
  is_proved line words (Open goal b) e h = absurd
      (let q : 112 ≡ 111 = same_head (sym e ∙ bare_is sig line (line_of (Open goal b)) h.is) in omega (arith, q))

  pub is_refuted : (line words : List ℕ) (first : FirstLine) → line ≡ codes "refuted" ++ words →
      IsFirst sig line first → (line_of first).head ≡ codes "refuted"
  is_refuted line words (Proved goal n) e h = absurd
      (let q : 114 ≡ 112 = same_head (sym e ∙ bare_is sig line (line_of (Proved goal n)) h.is) in omega (arith, q))
  is_refuted line words (Refuted goal index n) e h = refl
  is_refuted line words (Open goal b) e h = absurd
      (let q : 114 ≡ 111 = same_head (sym e ∙ bare_is sig line (line_of (Open goal b)) h.is) in omega (arith, q))

  pub is_open : (line words : List ℕ) (first : FirstLine) → line ≡ codes "open" ++ words →
      IsFirst sig line first → (line_of first).head ≡ codes "open"
  is_open line words (Proved goal n) e h = absurd
      (let q : 111 ≡ 112 = same_head (sym e ∙ bare_is sig line (line_of (Proved goal n)) h.is) in omega (arith, q))
  is_open line words (Refuted goal index n) e h = absurd
      (let q : 111 ≡ 114 = same_head (sym e ∙ bare_is sig line (line_of (Refuted goal index n)) h.is) in
      omega (arith, q))
  is_open line words (Open goal b) e h = refl

  pub no_first : (line : List ℕ) → ((words : List ℕ) → line ≡ codes "proved" ++ words → ⊥) →
      ((words : List ℕ) → line ≡ codes "refuted" ++ words → ⊥) →
      ((words : List ℕ) → line ≡ codes "open" ++ words → ⊥) → (first : FirstLine) → IsFirst sig line first → ⊥
  no_first line a b c (Proved goal n) h = a (words_text sig (line_of (Proved goal n)).words)
      (bare_is sig line (line_of (Proved goal n)) h.is)
  no_first line a b c (Refuted goal index n) h = b (words_text sig (line_of (Refuted goal index n)).words)
      (bare_is sig line (line_of (Refuted goal index n)) h.is)
  no_first line a b c (Open goal budget) h = c (words_text sig (line_of (Open goal budget)).words)
      (bare_is sig line (line_of (Open goal budget)) h.is)

-- what the words after a first word say is what the line says
pub by_head : {E : Type 0} (line head words : List ℕ) → line ≡ head ++ words →
    ((sig : Sig) (first : FirstLine) → IsFirst sig line first → (line_of first).head ≡ head) →
    (r : Result (Option FirstLine) E)
    → IfOk r (λ o. MatchOption o ((sig : Sig) → IsDeclared sig → (first : FirstLine) →
    IsFirstBehind sig head words first → ⊥) (λ first. (sig : Sig) → IsFirstBehind sig head words first))
    → IfOk r (λ o. MatchOption o ((sig : Sig) → IsDeclared sig → (first : FirstLine) → IsFirst sig line first →
    ⊥) (λ first. (sig : Sig) → IsFirst sig line first))
by_head line head words e named (Ok (Some first)) h = λ sig. first_found sig line head words first e (h sig)
by_head line head words e named (Ok None) h = λ sig d first f. h sig d first
    (behind_head sig line head words first e (named sig first f) f)
by_head line head words e named (Err x) h = tt
