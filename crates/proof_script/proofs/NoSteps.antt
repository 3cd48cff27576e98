-- Lines that are no step's.
use Rattle.std.proofs.Common.{◌≡◌, ℕ, List, [], ◌∷◌, ◌++◌, refl, ap, sym, ◌∙◌, codes, append_assoc, append-nil, arith}
use Rattle.std.specs.Fmt.{decimal}
use Rattle.std.proofs.lemmas.Fmt.{decimal_digit}
use Rattle.term_core.specs.Tree.{Tree, var, app, none, some}
use Rattle.spec_core.specs.Sig.{Sig}
use Rattle.spec_core.specs.TermText.{term_text, others_text}
use Rattle.clause_core.specs.declared.steps.Step.{Step}
use Rattle.clause_core.specs.declared.steps.Step.TheVariants.{Trivial, Generalize}
use Rattle.proof_script.specs.Delimiters.{Run, AllRun}
use Rattle.proof_script.specs.Words.{fixed, Line, line_text}
use Rattle.proof_script.specs.Steps.{step_line}
use Rattle.proof_script.specs.Standing.{StepStands}
use Rattle.proof_script.specs.Examples.{IsNoStep}
use Rattle.proof_script.proofs.Lists.{same_head, same_tail, Same, run_one}
use Rattle.proof_script.proofs.Runs.{true_false, decimal_run, decimal_same}
use Rattle.proof_script.proofs.TermReads.{IsPlain, named, call_grouped}
use Rattle.proof_script.proofs.SameTerms.{term_plain}
use Rattle.proof_script.proofs.WordReads.{words_text, head_reads}
use Rattle.proof_script.proofs.StepReads.{runs_all, total, tag, step_run}

-- the head of a step whose line is this one, and what follows it
against : (sig : Sig) (step : Step) (l : Line) (text : List ℕ) → AllRun l.head → line_text sig l ≡ text →
    line_text sig (step_line step) ≡ text →
    Same (step_line step).head l.head (words_text sig (step_line step).words ++ (10 ∷ []))
    (words_text sig l.words ++ (10 ∷ []))
against sig step l text h e f = head_reads sig (step_line step) l [] [] (step_run step) h
    (append-nil (line_text sig (step_line step)) ∙ f ∙ sym e ∙ sym (append-nil (line_text sig l)))

abbrev blank_line : Line
blank_line = record { head = codes "generalize"; words = fixed (codes "_") ∷ [] }

no_blank_term : (sig : Sig) (t : Tree) → IsPlain sig [] t → term_text sig [] t ++ (10 ∷ []) ≡ 95 ∷ 10 ∷ [] → ⊥
no_blank_term sig (var n) h e = let k : 63 ≡ 95 = same_head e in omega (arith, k)
no_blank_term sig (app f none) ((a, ai, p), ps) e =
    p.no_blank (run_one Run a (codes "_") (10 ∷ []) (10 ∷ []) p.run (refl, tt) (λ x. true_false x)
    (λ x. true_false x) (sym (ap (λ z. z ++ (10 ∷ [])) (named sig f a ai)) ∙ e)).text
no_blank_term sig (app f (some t ts)) ((a, ai, p), ps) e =
    p.no_blank (run_one Run a (codes "_")
    (40 ∷ (term_text sig [] t ++ (others_text sig [] ts ++ (41 ∷ (10 ∷ []))))) (10 ∷ []) p.run (
      refl,
      tt,
    ) (λ x. true_false x) (λ x. true_false x)
    (sym (call_grouped a (term_text sig [] t) (others_text sig [] ts) (10 ∷ []))
    ∙ sym (ap (λ z. (z ++ codes "(" ++ term_text sig [] t ++ others_text sig [] ts ++ codes ")")
    ++ (10 ∷ [])) (named sig f a ai)) ∙ e)).text

blank_by : (sig : Sig) (step : Step) → StepStands sig step → tag step ≡ total (codes "generalize") →
    words_text sig (step_line step).words ++ (10 ∷ []) ≡ words_text sig blank_line.words ++ (10 ∷ []) → ⊥
blank_by sig (Generalize t) h k e = no_blank_term sig t (term_plain sig t h.0)
    (sym (append_assoc (term_text sig [] t) [] (10 ∷ [])) ∙ same_tail e)
blank_by sig _ h k e = absurd (omega (arith, k))

pub blank : (sig : Sig) → IsNoStep sig (codes "generalize _\n")
blank sig = λ step h e. let s = against sig step blank_line (codes "generalize _\n")
    (runs_all (codes "generalize") refl) refl e in blank_by sig step h (ap (λ bs. total bs) s.text) s.rest

abbrev nought_line : Line
nought_line = record { head = codes "trivial"; words = fixed (codes "c0") ∷ [] }

nought_by : (sig : Sig) (step : Step) → StepStands sig step → tag step ≡ total (codes "trivial") →
    words_text sig (step_line step).words ++ (10 ∷ []) ≡ words_text sig nought_line.words ++ (10 ∷ []) → ⊥
nought_by sig (Trivial n) h k e =
    let zero_text : decimal 0 ≡ 48 ∷ [] = decimal_digit 0 (omega arith) in
    let digits : decimal n ++ (10 ∷ []) ≡ decimal 0 ++ (10 ∷ []) = sym (append_assoc (decimal n) [] (10 ∷ []))
    ∙ same_tail (same_tail e) ∙ ap (λ z. z ++ (10 ∷ [])) (sym zero_text) in
    let one = run_one Run (decimal n) (decimal 0) (10 ∷ []) (10 ∷ []) (decimal_run n (omega (arith, h.0.1)))
    (decimal_run 0 (omega arith)) (λ x. true_false x) (λ x. true_false x) digits in
    let same : n ≡ 0 = decimal_same n 0 (omega (arith, h.0.1)) (omega arith) one.text in
    omega (arith, same, h.0.0)
nought_by sig _ h k e = absurd (omega (arith, k))

pub nought : (sig : Sig) → IsNoStep sig (codes "trivial c0\n")
nought sig = λ step h e. let s = against sig step nought_line (codes "trivial c0\n")
    (runs_all (codes "trivial") refl) refl e in nought_by sig step h (ap (λ bs. total bs) s.text) s.rest
