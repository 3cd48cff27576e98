-- The text of a line has one newline, at its end.
use Rattle.std.proofs.Common.{◌≡◌, ◌≢◌, ℕ, List, [], ◌∷◌, ◌++◌, refl, ap, sym, ◌∙◌, subst, codes, map, flat_map}
use Rattle.std.proofs.Common.{append_assoc, arith}
use Rattle.std.specs.Fmt.{decimal}
use Rattle.std.specs.List.{AllByRecursion}
use Rattle.term_core.specs.Tree.{Tree, Trees, var, app, none, some}
use Rattle.spec_core.specs.Sig.{Sig}
use Rattle.spec_core.specs.TermText.{term_text, others_text}
use Rattle.proof_script.specs.Delimiters.{is_delimiter, AllRun}
use Rattle.proof_script.specs.Words.{Word, fixed, name, number, variable, equation, place, side, term, terms, patterns}
use Rattle.proof_script.specs.Words.{word_text, place_text, side_text, equation_text, pattern_text, in_brackets}
use Rattle.proof_script.specs.Words.{with_commas, Line, line_text}
use Rattle.proof_script.specs.Standing.{TermStands, PatternStands}
use Rattle.proof_script.specs.Faults.{IsOneLine}
use Rattle.term_core.proofs.Items.{all_append}
use Rattle.proof_script.proofs.Lists.{same_tail, run_one}
use Rattle.proof_script.proofs.Runs.{true_false, decimal_run, mark_run}
use Rattle.proof_script.proofs.PlainNames.{name_plain}
use Rattle.proof_script.proofs.TermReads.{IsPlain, ArePlain, mark_of, named}
use Rattle.proof_script.proofs.SameTerms.{blanks, pattern_as_term, term_plain, pattern_plain}
use Rattle.proof_script.proofs.PlaceReads.{equation_run, side_run, place_run}
use Rattle.proof_script.proofs.WordReads.{Sound, words_text, line_grouped}

run_line : (bs : List ℕ) → AllRun bs → IsOneLine bs
run_line [] h = tt
run_line (c ∷ bs) h = (λ e. true_false (ap (λ x. is_delimiter x) (sym e) ∙ h.0), run_line bs h.1)

join : (xs ys : List ℕ) → IsOneLine xs → IsOneLine ys → IsOneLine (xs ++ ys)
join xs ys h k = all_append (λ b. b ≢ 10) xs ys h k

comma : IsOneLine (codes ", ")
comma = (λ e. omega (arith, e), (λ e. omega (arith, e), tt))

sign : (c : ℕ) → c ≢ 10 → IsOneLine (c ∷ [])
sign c h = (h, tt)

mutual
  -- a term has none
  term_line : (sig : Sig) (names : List (List ℕ)) (t : Tree) → IsPlain sig names t → IsOneLine (term_text sig names t)
  term_line sig names (var n) h = run_line (mark_of names n) (mark_run (mark_of names n) h)
  term_line sig names (app f none) ((a, ai, p), ps) = subst IsOneLine (sym (named sig f a ai)) (run_line a p.run)
  term_line sig names (app f (some t ts)) ((a, ai, p), ps) =
      subst (λ z. IsOneLine (z ++ codes "(" ++ term_text sig names t ++ others_text sig names ts ++ codes ")"))
      (sym (named sig f a ai))
      (join (a ++ codes "(" ++ term_text sig names t ++ others_text sig names ts) (codes ")")
      (join (a ++ codes "(" ++ term_text sig names t) (others_text sig names ts)
      (join (a ++ codes "(") (term_text sig names t)
      (join a (codes "(") (run_line a p.run) (sign 40 (λ e. omega (arith, e)))) (term_line sig names t ps.0))
      (others_line sig names ts ps.1))
      (sign 41 (λ e. omega (arith, e))))

  others_line : (sig : Sig) (names : List (List ℕ)) (ts : Trees) → ArePlain sig names ts →
      IsOneLine (others_text sig names ts)
  others_line sig names none h = tt
  others_line sig names (some t ts) h = join (codes ", " ++ term_text sig names t) (others_text sig names ts)
      (join (codes ", ") (term_text sig names t) comma (term_line sig names t h.0)) (others_line sig names ts h.1)

-- nor a list of them
module _ (f : Tree → List ℕ) (P : Tree → Type 0) (one : (t : Tree) → P t → IsOneLine (f t)) where
  rest_line : (ts : List Tree) → AllByRecursion P ts → IsOneLine (flat_map (λ u. codes ", " ++ u) (map f ts))
  rest_line [] h = tt
  rest_line (t ∷ ts) h = join (codes ", " ++ f t) (flat_map (λ u. codes ", " ++ u) (map f ts))
      (join (codes ", ") (f t) comma (one t h.0)) (rest_line ts h.1)

  items_line : (ts : List Tree) → AllByRecursion P ts → IsOneLine (with_commas (map f ts))
  items_line [] h = tt
  items_line (t ∷ ts) h = join (f t) (flat_map (λ u. codes ", " ++ u) (map f ts)) (one t h.0) (rest_line ts h.1)

  list_line : (ts : List Tree) → AllByRecursion P ts → IsOneLine (in_brackets (with_commas (map f ts)))
  list_line ts h = join (codes "[") (with_commas (map f ts) ++ codes "]") (sign 91 (λ e. omega (arith, e)))
      (join (with_commas (map f ts)) (codes "]") (items_line ts h) (sign 93 (λ e. omega (arith, e))))

word_line : (sig : Sig) (w : Word) → Sound sig w → IsOneLine (word_text sig w)
word_line sig (fixed text) h = run_line text h
word_line sig (name text) h = run_line text (name_plain text h).run
word_line sig (number n) h = run_line (decimal n) (decimal_run n h)
word_line sig (variable n) h = join (codes "?") (decimal n) (sign 63 (λ e. omega (arith, e)))
    (run_line (decimal n) (decimal_run n h))
word_line sig (equation conclusion n) h = run_line (equation_text conclusion n) (equation_run conclusion n h)
word_line sig (place p) h = run_line (place_text p) (place_run p h)
word_line sig (side left) h = run_line (side_text left) (side_run left)
word_line sig (term t) h = term_line sig [] t (term_plain sig t h)
word_line sig (terms ts) h = list_line (term_text sig []) (TermStands sig)
    (λ t k. term_line sig [] t (term_plain sig t k)) ts h
word_line sig (patterns ps) h = list_line (pattern_text sig) (PatternStands sig)
    (λ p k. subst IsOneLine (sym (pattern_as_term sig p k)) (term_line sig (blanks p) p (pattern_plain sig p k))) ps h.1

words_line : (sig : Sig) (ws : List Word) → AllByRecursion (Sound sig) ws → IsOneLine (words_text sig ws)
words_line sig [] h = tt
words_line sig (w ∷ ws) h = join (codes " " ++ word_text sig w) (words_text sig ws)
    (join (codes " ") (word_text sig w) (sign 32 (λ e. omega (arith, e))) (word_line sig w h.0)) (words_line sig ws h.1)

-- a line's text without its newline
abbrev pub bare : Sig → Line → List ℕ
bare sig l = l.head ++ words_text sig l.words

pub bare_line : (sig : Sig) (l : Line) → AllRun l.head → AllByRecursion (Sound sig) l.words → IsOneLine (bare sig l)
bare_line sig l h k = join l.head (words_text sig l.words) (run_line l.head h) (words_line sig l.words k)

-- the next line of some bytes is the line's text, if they go on from it
pub next_line : (sig : Sig) (l : Line) (raw r s : List ℕ) → AllRun l.head → AllByRecursion (Sound sig) l.words →
    IsOneLine raw → line_text sig l ++ r ≡ (raw ++ codes "\n") ++ s → (raw ≡ bare sig l) × (r ≡ s)
next_line sig l raw r s h k o e =
    let whole : bare sig l ++ (10 ∷ r) ≡ raw ++ (10 ∷ s) = append_assoc l.head (words_text sig l.words) (10 ∷ r)
    ∙ sym (line_grouped sig l r) ∙ e ∙ append_assoc raw (codes "\n") s in
    let one = run_one (λ b. b ≢ 10) (bare sig l) raw (10 ∷ r) (10 ∷ s) (bare_line sig l h k) o (λ n. n refl)
    (λ n. n refl) whole in
    (sym one.text, same_tail one.rest)
