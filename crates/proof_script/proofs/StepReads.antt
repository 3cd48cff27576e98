-- The lines of steps are read in one way.
use Rattle.std.proofs.Common.{◌≡◌, ℕ, ◌+◌, List, [], ◌∷◌, ◌++◌, Bool, true, false, not, refl, ap, sym, map, arith}
use Rattle.std.specs.Prelude.{◌&&◌}
use Rattle.std.specs.List.{AllByRecursion}
use Rattle.term_core.specs.Tree.{Tree, var}
use Rattle.spec_core.specs.Sig.{Sig}
use Rattle.clause_core.specs.declared.steps.Place.{Place}
use Rattle.clause_core.specs.declared.steps.Step.{Step}
use Rattle.clause_core.specs.declared.steps.Step.TheVariants.{Trivial, Match, Absurd, Subsume, ByLemma, Rule, Case}
use Rattle.clause_core.specs.declared.steps.Step.TheVariants.{Decompose, Clash, Drop, Solve, Cover, Generalize}
use Rattle.clause_core.specs.declared.steps.Step.TheVariants.{Context, Hyp, Lemma}
use Rattle.proof_script.specs.Delimiters.{is_delimiter, AllRun}
use Rattle.proof_script.specs.Words.{Word, fixed, name, number, variable, equation, place, side, term, terms, patterns}
use Rattle.proof_script.specs.Words.{Line, line_text}
use Rattle.proof_script.specs.Steps.{step_line}
use Rattle.proof_script.specs.Standing.{StepStands}
use Rattle.proof_script.proofs.Runs.{true_false}
use Rattle.proof_script.proofs.TermReads.{NamesDiffer}
use Rattle.proof_script.proofs.WordReads.{kind_of, Sound, words_reads, head_reads}

abbrev pub runs : List ℕ → Bool
runs [] = true
runs (c ∷ cs) = not (is_delimiter c) && runs cs

pub runs_all : (bs : List ℕ) → runs bs ≡ true → AllRun bs
runs_all [] e = tt
runs_all (c ∷ cs) e = by (λ k. runs_all cs k) (is_delimiter c) refl e
  where
    by : (runs cs ≡ true → AllRun cs) → (x : Bool) → is_delimiter c ≡ x → (not x && runs cs) ≡ true → AllRun (c ∷ cs)
    by next true h k = absurd (true_false (sym k))
    by next false h k = (h, next k)

-- lines whose words have the same kinds
pub same_words : (sig : Sig) → NamesDiffer sig → (l m : Line) (r s : List ℕ) →
    map kind_of l.words ≡ map kind_of m.words → AllByRecursion (Sound sig) l.words →
    AllByRecursion (Sound sig) m.words → AllRun l.head → AllRun m.head → line_text sig l ++ r ≡ line_text sig m
    ++ s → (l.words ≡ m.words) × (r ≡ s)
same_words sig d l m r s k p q x y e = words_reads sig d l.words m.words r s k p q (head_reads sig l m r s x y e).rest

-- what a word holds
abbrev pub number_in : Word → ℕ
number_in (number n) = n
number_in (variable n) = n
number_in (equation conclusion n) = n
number_in _ = 0

abbrev pub flag_in : Word → Bool
flag_in (equation conclusion n) = conclusion
flag_in (side left) = left
flag_in _ = true

abbrev pub text_in : Word → List ℕ
text_in (fixed text) = text
text_in (name text) = text
text_in _ = []

abbrev pub place_in : Word → Place
place_in (place p) = p
place_in _ = record { conclusion = true; number = 0; left = true; path = [] }

abbrev pub term_in : Word → Tree
term_in (term t) = t
term_in _ = var 0

abbrev pub terms_in : Word → List Tree
terms_in (terms ts) = ts
terms_in (patterns ps) = ps
terms_in _ = []

abbrev pub word_first : List Word → Word
word_first [] = fixed []
word_first (w ∷ ws) = w

abbrev pub rest_of : List Word → List Word
rest_of [] = []
rest_of (w ∷ ws) = ws

abbrev pub word_second : List Word → Word
word_second ws = word_first (rest_of ws)

abbrev pub word_third : List Word → Word
word_third ws = word_second (rest_of ws)

abbrev pub word_fourth : List Word → Word
word_fourth ws = word_third (rest_of ws)

-- the sum of the bytes of a line's head tells the step's name
abbrev pub total : List ℕ → ℕ
total [] = 0
total (c ∷ cs) = c + total cs

abbrev pub tag : Step → ℕ
tag s = total (step_line s).head

pub step_run : (s : Step) → AllRun (step_line s).head
step_run (Trivial a0) = runs_all (step_line (Trivial a0)).head refl
step_run (Match a0 a1) = runs_all (step_line (Match a0 a1)).head refl
step_run (Absurd a0) = runs_all (step_line (Absurd a0)).head refl
step_run (Subsume a0 a1) = runs_all (step_line (Subsume a0 a1)).head refl
step_run (ByLemma a0 a1) = runs_all (step_line (ByLemma a0 a1)).head refl
step_run (Rule a0 a1) = runs_all (step_line (Rule a0 a1)).head refl
step_run (Case a0 a1) = runs_all (step_line (Case a0 a1)).head refl
step_run (Decompose a0 a1) = runs_all (step_line (Decompose a0 a1)).head refl
step_run (Clash a0) = runs_all (step_line (Clash a0)).head refl
step_run (Drop a0 a1) = runs_all (step_line (Drop a0 a1)).head refl
step_run (Solve a0) = runs_all (step_line (Solve a0)).head refl
step_run (Cover a0 a1) = runs_all (step_line (Cover a0 a1)).head refl
step_run (Generalize a0) = runs_all (step_line (Generalize a0)).head refl
step_run (Context a0 a1 a2) = runs_all (step_line (Context a0 a1 a2)).head refl
step_run (Hyp a0 a1 a2 a3) = runs_all (step_line (Hyp a0 a1 a2 a3)).head refl
step_run (Lemma a0 a1 a2 a3) = runs_all (step_line (Lemma a0 a1 a2 a3)).head refl

tags_same : (sig : Sig) (t u : Step) (r s : List ℕ) → line_text sig (step_line t)
    ++ r ≡ line_text sig (step_line u) ++ s → tag t ≡ tag u
tags_same sig t u r s e = ap (λ bs. total bs) (head_reads sig (step_line t) (step_line u) r s (step_run t)
    (step_run u) e).text

pub step_by : (sig : Sig) → NamesDiffer sig → (t u : Step) (r s : List ℕ) → StepStands sig t →
    StepStands sig u → line_text sig (step_line t) ++ r ≡ line_text sig (step_line u) ++ s → tag t ≡ tag u →
    (t ≡ u) × (r ≡ s)
step_by sig d (Trivial a0) (Trivial b0) r s p q e k = let h = same_words sig d (step_line (Trivial a0))
    (step_line (Trivial b0)) r s refl p q (runs_all (step_line (Trivial a0)).head refl)
    (runs_all (step_line (Trivial b0)).head refl) e in (ap (λ ws. Trivial (number_in (word_first ws))) h.0, h.1)
step_by sig d (Match a0 a1) (Match b0 b1) r s p q e k = let h = same_words sig d (step_line (Match a0 a1))
    (step_line (Match b0 b1)) r s refl p q (runs_all (step_line (Match a0 a1)).head refl)
    (runs_all (step_line (Match b0 b1)).head refl) e in
    (ap (λ ws. Match (number_in (word_first ws)) (number_in (word_second ws))) h.0, h.1)
step_by sig d (Absurd a0) (Absurd b0) r s p q e k = let h = same_words sig d (step_line (Absurd a0))
    (step_line (Absurd b0)) r s refl p q (runs_all (step_line (Absurd a0)).head refl)
    (runs_all (step_line (Absurd b0)).head refl) e in (ap (λ ws. Absurd (number_in (word_first ws))) h.0, h.1)
step_by sig d (Subsume a0 a1) (Subsume b0 b1) r s p q e k = let h = same_words sig d (step_line (Subsume a0 a1))
    (step_line (Subsume b0 b1)) r s refl p q (runs_all (step_line (Subsume a0 a1)).head refl)
    (runs_all (step_line (Subsume b0 b1)).head refl) e in
    (ap (λ ws. Subsume (number_in (word_first ws)) (terms_in (word_second ws))) h.0, h.1)
step_by sig d (ByLemma a0 a1) (ByLemma b0 b1) r s p q e k = let h = same_words sig d (step_line (ByLemma a0 a1))
    (step_line (ByLemma b0 b1)) r s refl p q (runs_all (step_line (ByLemma a0 a1)).head refl)
    (runs_all (step_line (ByLemma b0 b1)).head refl) e in
    (ap (λ ws. ByLemma (text_in (word_first ws)) (terms_in (word_second ws))) h.0, h.1)
step_by sig d (Rule a0 a1) (Rule b0 b1) r s p q e k = let h = same_words sig d (step_line (Rule a0 a1))
    (step_line (Rule b0 b1)) r s refl p q (runs_all (step_line (Rule a0 a1)).head refl)
    (runs_all (step_line (Rule b0 b1)).head refl) e in
    (ap (λ ws. Rule (place_in (word_first ws)) (number_in (word_second ws))) h.0, h.1)
step_by sig d (Case a0 a1) (Case b0 b1) r s p q e k = let h = same_words sig d (step_line (Case a0 a1))
    (step_line (Case b0 b1)) r s refl p q (runs_all (step_line (Case a0 a1)).head refl)
    (runs_all (step_line (Case b0 b1)).head refl) e in
    (ap (λ ws. Case (place_in (word_first ws)) (number_in (word_second ws))) h.0, h.1)
step_by sig d (Decompose a0 a1) (Decompose b0 b1) r s p q e k = let h = same_words sig d
    (step_line (Decompose a0 a1)) (step_line (Decompose b0 b1)) r s refl p q
    (runs_all (step_line (Decompose a0 a1)).head refl) (runs_all (step_line (Decompose b0 b1)).head refl) e in
    (ap (λ ws. Decompose (flag_in (word_first ws)) (number_in (word_first ws))) h.0, h.1)
step_by sig d (Clash a0) (Clash b0) r s p q e k = let h = same_words sig d (step_line (Clash a0))
    (step_line (Clash b0)) r s refl p q (runs_all (step_line (Clash a0)).head refl)
    (runs_all (step_line (Clash b0)).head refl) e in (ap (λ ws. Clash (number_in (word_first ws))) h.0, h.1)
step_by sig d (Drop a0 a1) (Drop b0 b1) r s p q e k = let h = same_words sig d (step_line (Drop a0 a1))
    (step_line (Drop b0 b1)) r s refl p q (runs_all (step_line (Drop a0 a1)).head refl)
    (runs_all (step_line (Drop b0 b1)).head refl) e in
    (ap (λ ws. Drop (flag_in (word_first ws)) (number_in (word_first ws))) h.0, h.1)
step_by sig d (Solve a0) (Solve b0) r s p q e k = let h = same_words sig d (step_line (Solve a0))
    (step_line (Solve b0)) r s refl p q (runs_all (step_line (Solve a0)).head refl)
    (runs_all (step_line (Solve b0)).head refl) e in (ap (λ ws. Solve (number_in (word_first ws))) h.0, h.1)
step_by sig d (Cover a0 a1) (Cover b0 b1) r s p q e k = let h = same_words sig d (step_line (Cover a0 a1))
    (step_line (Cover b0 b1)) r s refl p q (runs_all (step_line (Cover a0 a1)).head refl)
    (runs_all (step_line (Cover b0 b1)).head refl) e in
    (ap (λ ws. Cover (record { 0 = number_in (word_first ws) }) (terms_in (word_second ws))) h.0, h.1)
step_by sig d (Generalize a0) (Generalize b0) r s p q e k = let h = same_words sig d (step_line (Generalize a0))
    (step_line (Generalize b0)) r s refl p q (runs_all (step_line (Generalize a0)).head refl)
    (runs_all (step_line (Generalize b0)).head refl) e in (ap (λ ws. Generalize (term_in (word_first ws))) h.0, h.1)
step_by sig d (Context a0 a1 a2) (Context b0 b1 b2) r s p q e k = let h = same_words sig d
    (step_line (Context a0 a1 a2)) (step_line (Context b0 b1 b2)) r s refl p q
    (runs_all (step_line (Context a0 a1 a2)).head refl) (runs_all (step_line (Context b0 b1 b2)).head refl) e in
    (ap (λ ws. Context (place_in (word_first ws)) (number_in (word_second ws)) (flag_in (word_third ws))) h.0, h.1)
step_by sig d (Hyp a0 a1 a2 a3) (Hyp b0 b1 b2 b3) r s p q e k = let h = same_words sig d
    (step_line (Hyp a0 a1 a2 a3)) (step_line (Hyp b0 b1 b2 b3)) r s refl p q
    (runs_all (step_line (Hyp a0 a1 a2 a3)).head refl) (runs_all (step_line (Hyp b0 b1 b2 b3)).head refl) e in (
      ap (λ ws. Hyp (number_in (word_first ws)) (terms_in (word_second ws)) (place_in (word_third ws))
          (flag_in (word_fourth ws))) h.0,
      h.1,
    )
step_by sig d (Lemma a0 a1 a2 a3) (Lemma b0 b1 b2 b3) r s p q e k = let h = same_words sig d
    (step_line (Lemma a0 a1 a2 a3)) (step_line (Lemma b0 b1 b2 b3)) r s refl p q
    (runs_all (step_line (Lemma a0 a1 a2 a3)).head refl) (runs_all (step_line (Lemma b0 b1 b2 b3)).head refl)
    e in (
      ap (λ ws. Lemma (text_in (word_first ws)) (terms_in (word_second ws)) (place_in (word_third ws))
          (flag_in (word_fourth ws))) h.0,
      h.1,
    )
step_by sig d _ _ r s p q e k = absurd (omega (arith, k))

pub step_reads : (sig : Sig) → NamesDiffer sig → (t u : Step) (r s : List ℕ) → StepStands sig t →
    StepStands sig u → line_text sig (step_line t) ++ r ≡ line_text sig (step_line u) ++ s → (t ≡ u) × (r ≡ s)
step_reads sig d t u r s p q e = step_by sig d t u r s p q e (tags_same sig t u r s e)
