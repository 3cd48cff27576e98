-- Words of the same kinds, and lines of them, are read in one way.
use Rattle.std.proofs.Common.{◌≡◌, ◌≢◌, ℕ, List, [], ◌∷◌, ◌++◌, Bool, refl, ap, sym, ◌∙◌, codes, map, flat_map}
use Rattle.std.proofs.Common.{append_assoc, append-nil, arith}
use Rattle.std.specs.Fmt.{decimal}
use Rattle.std.specs.List.{AllByRecursion}
use Rattle.term_core.specs.Tree.{Tree, var, app, none, some}
use Rattle.spec_core.specs.Sig.{Sig}
use Rattle.spec_core.specs.TermText.{term_text, others_text}
use Rattle.proof_script.specs.Delimiters.{is_delimiter, Run, AllRun, Ends}
use Rattle.proof_script.specs.Words.{Word, fixed, name, number, variable, equation, place, side, term, terms, patterns}
use Rattle.proof_script.specs.Words.{word_text, equation_text, side_text, place_text, pattern_text, in_brackets}
use Rattle.proof_script.specs.Words.{with_commas, Line, line_text}
use Rattle.proof_script.specs.Standing.{IsShort, Between, TermStands, PatternStands, WordStands}
use Rattle.proof_script.proofs.Lists.{nil_cons, cons_nil, same_head, same_tail, Same, run_one}
use Rattle.proof_script.proofs.Runs.{mark_run, mark_some, ends_stop, true_false, decimal_run, decimal_same}
use Rattle.proof_script.proofs.PlainNames.{name_plain}
use Rattle.proof_script.proofs.TermReads.{NamesDiffer, IsPlain, mark_of, named, call_grouped}
use Rattle.proof_script.proofs.SameTerms.{blanks, pattern_as_term, term_plain, pattern_plain, term_reads, pattern_reads}
use Rattle.proof_script.proofs.PlaceReads.{equation_reads, place_same, equation_run, side_run, side_reads, place_run}

-- a list of terms in brackets, for terms of which the texts are read in one way
module _ (f : Tree → List ℕ) (P : Tree → Type 0) (one : (t u : Tree) (r s : List ℕ) → P t → P u → Ends r →
    Ends s → f t ++ r ≡ f u ++ s → (t ≡ u) × (r ≡ s)) (begins : (t : Tree) (r s : List ℕ) → P t →
    f t ++ r ≡ 93 ∷ s → ⊥) where
  abbrev rest_text : List Tree → List ℕ
  rest_text ts = flat_map (λ u. codes ", " ++ u) (map f ts)

  rest_ends : (ts : List Tree) (r : List ℕ) → Ends (rest_text ts ++ (93 ∷ r))
  rest_ends [] r = refl
  rest_ends (t ∷ ts) r = refl

  rest_reads : (ts us : List Tree) (r s : List ℕ) → AllByRecursion P ts → AllByRecursion P us →
      rest_text ts ++ (93 ∷ r) ≡ rest_text us ++ (93 ∷ s) → (ts ≡ us) × (r ≡ s)
  rest_reads [] [] r s p q e = (refl, same_tail e)
  rest_reads [] (u ∷ us) r s p q e = absurd (let n : 93 ≡ 44 = same_head e in omega (arith, n))
  rest_reads (t ∷ ts) [] r s p q e = absurd (let n : 44 ≡ 93 = same_head e in omega (arith, n))
  rest_reads (t ∷ ts) (u ∷ us) r s p q e =
      let grouped : f t ++ (rest_text ts ++ (93 ∷ r)) ≡ f u
      ++ (rest_text us ++ (93 ∷ s)) = sym (append_assoc (f t) (rest_text ts) (93 ∷ r))
      ∙ same_tail (same_tail e) ∙ append_assoc (f u) (rest_text us) (93 ∷ s) in
      let first = one t u (rest_text ts ++ (93 ∷ r)) (rest_text us ++ (93 ∷ s)) p.0 q.0 (rest_ends ts r)
      (rest_ends us s) grouped in
      let next = rest_reads ts us r s p.1 q.1 first.1 in
      let h : t ≡ u = first.0 in
      let k : ts ≡ us = next.0 in
      (λ i. h i ∷ k i, next.1)

  items_reads : (ts us : List Tree) (r s : List ℕ) → AllByRecursion P ts → AllByRecursion P us →
      with_commas (map f ts) ++ (93 ∷ r) ≡ with_commas (map f us) ++ (93 ∷ s) → (ts ≡ us) × (r ≡ s)
  items_reads [] [] r s p q e = (refl, same_tail e)
  items_reads [] (u ∷ us) r s p q e = absurd
      (begins u (rest_text us ++ (93 ∷ s)) r q.0 (sym (append_assoc (f u) (rest_text us) (93 ∷ s)) ∙ sym e))
  items_reads (t ∷ ts) [] r s p q e = absurd
      (begins t (rest_text ts ++ (93 ∷ r)) s p.0 (sym (append_assoc (f t) (rest_text ts) (93 ∷ r)) ∙ e))
  items_reads (t ∷ ts) (u ∷ us) r s p q e =
      let grouped : f t ++ (rest_text ts ++ (93 ∷ r)) ≡ f u
      ++ (rest_text us ++ (93 ∷ s)) = sym (append_assoc (f t) (rest_text ts) (93 ∷ r)) ∙ e
      ∙ append_assoc (f u) (rest_text us) (93 ∷ s) in
      let first = one t u (rest_text ts ++ (93 ∷ r)) (rest_text us ++ (93 ∷ s)) p.0 q.0 (rest_ends ts r)
      (rest_ends us s) grouped in
      let next = rest_reads ts us r s p.1 q.1 first.1 in
      let h : t ≡ u = first.0 in
      let k : ts ≡ us = next.0 in
      (λ i. h i ∷ k i, next.1)

  pub list_reads : (ts us : List Tree) (r s : List ℕ) → AllByRecursion P ts → AllByRecursion P us →
      in_brackets (with_commas (map f ts)) ++ r ≡ in_brackets (with_commas (map f us)) ++ s → (ts ≡ us) × (r ≡ s)
  list_reads ts us r s p q e = items_reads ts us r s p q
      (sym (append_assoc (with_commas (map f ts)) (codes "]") r) ∙ same_tail e
      ∙ append_assoc (with_commas (map f us)) (codes "]") s)

-- the kind of a word
abbrev pub kind_of : Word → ℕ
kind_of (fixed text) = 0
kind_of (name text) = 1
kind_of (number n) = 2
kind_of (variable n) = 3
kind_of (equation conclusion n) = 4
kind_of (place p) = 5
kind_of (side left) = 6
kind_of (term t) = 7
kind_of (terms ts) = 8
kind_of (patterns ps) = 9

-- a word that may appear, and of which the fixed text has no byte that ends a word
abbrev pub Sound : Sig → Word → Type 0
Sound sig (fixed text) = AllRun text
Sound sig w = WordStands sig w

by_run : {w v : Word} (a b r s : List ℕ) → AllRun a → AllRun b → Ends r → Ends s → (a ≡ b → w ≡ v) →
    a ++ r ≡ b ++ s → (w ≡ v) × (r ≡ s)
by_run a b r s p q x y f e = let one = run_one Run a b r s p q (ends_stop r x) (ends_stop s y) e in
    (f one.text, one.rest)

variable_run : (n : ℕ) → IsShort n → AllRun (codes "?" ++ decimal n)
variable_run n h = (refl, decimal_run n h)

equation_same : (a b : Bool) (m n : ℕ) → Between 1 9999 m → Between 1 9999 n →
    equation_text a m ≡ equation_text b n → equation a m ≡ equation b n
equation_same a b m n h k e = let q = equation_reads a b m n [] [] h k tt tt (append-nil (equation_text a m) ∙ e
    ∙ sym (append-nil (equation_text b n))) in λ i. equation (q.kind i) (q.number i)

side_same : (a b : Bool) → side_text a ≡ side_text b → side a ≡ side b
side_same a b e = ap (λ x. side x)
    (side_reads a b [] [] (append-nil (side_text a) ∙ e ∙ sym (append-nil (side_text b)))).side

-- a term's text doesn't begin with a bracket
first_run : (a r s : List ℕ) → AllRun a → (a ≢ []) → a ++ r ≡ 93 ∷ s → ⊥
first_run [] r s p n e = n refl
first_run (c ∷ a) r s p n e = true_false (ap (λ c. is_delimiter c) (sym (same_head e)) ∙ p.0)

plain_begins : (sig : Sig) (names : List (List ℕ)) (t : Tree) (r s : List ℕ) → IsPlain sig names t →
    term_text sig names t ++ r ≡ 93 ∷ s → ⊥
plain_begins sig names (var n) r s p e = first_run (mark_of names n) r s (mark_run (mark_of names n) p)
    (mark_some (mark_of names n) p) e
plain_begins sig names (app f none) r s ((a, ai, ap1), ps) e = first_run a r s ap1.run
    (λ z. cons_nil (sym ap1.is ∙ z)) (sym (ap (λ z. z ++ r) (named sig f a ai)) ∙ e)
plain_begins sig names (app f (some t ts)) r s ((a, ai, ap1), ps) e =
    first_run a (40 ∷ (term_text sig names t ++ (others_text sig names ts ++ (41 ∷ r)))) s ap1.run
    (λ z. cons_nil (sym ap1.is ∙ z))
    (sym (call_grouped a (term_text sig names t) (others_text sig names ts) r)
    ∙ sym (ap (λ z. (z ++ codes "(" ++ term_text sig names t ++ others_text sig names ts ++ codes ")") ++ r)
    (named sig f a ai)) ∙ e)

pub term_begins : (sig : Sig) (t : Tree) (r s : List ℕ) → TermStands sig t → term_text sig [] t ++ r ≡ 93 ∷ s → ⊥
term_begins sig t r s h e = plain_begins sig [] t r s (term_plain sig t h) e

pub pattern_begins : (sig : Sig) (t : Tree) (r s : List ℕ) → PatternStands sig t → pattern_text sig t ++ r ≡ 93 ∷ s → ⊥
pattern_begins sig t r s h e = plain_begins sig (blanks t) t r s (pattern_plain sig t h)
    (ap (λ z. z ++ r) (sym (pattern_as_term sig t h)) ∙ e)

pub word_reads : (sig : Sig) → NamesDiffer sig → (w v : Word) (r s : List ℕ) → kind_of w ≡ kind_of v →
    Sound sig w → Sound sig v → Ends r → Ends s → word_text sig w ++ r ≡ word_text sig v ++ s → (w ≡ v) × (r ≡ s)
word_reads sig d (fixed a) (fixed b) r s k p q x y e = by_run a b r s p q x y (λ h. ap (λ z. fixed z) h) e
word_reads sig d (name a) (name b) r s k p q x y e = by_run a b r s (name_plain a p).run (name_plain b q).run x
    y (λ h. ap (λ z. name z) h) e
word_reads sig d (number m) (number n) r s k p q x y e = by_run (decimal m) (decimal n) r s (decimal_run m p)
    (decimal_run n q) x y (λ h. ap (λ z. number z) (decimal_same m n p q h)) e
word_reads sig d (variable m) (variable n) r s k p q x y e = by_run (codes "?" ++ decimal m) (codes "?"
    ++ decimal n) r s (variable_run m p) (variable_run n q) x y
    (λ h. ap (λ z. variable z) (decimal_same m n p q (same_tail h))) e
word_reads sig d (equation a m) (equation b n) r s k p q x y e = by_run (equation_text a m) (equation_text b n)
    r s (equation_run a m p) (equation_run b n q) x y (equation_same a b m n p q) e
word_reads sig d (place a) (place b) r s k p q x y e = by_run (place_text a) (place_text b) r s (place_run a p)
    (place_run b q) x y (λ h. ap (λ z. place z) (place_same a b p q h)) e
word_reads sig d (side a) (side b) r s k p q x y e = by_run (side_text a) (side_text b) r s (side_run a)
    (side_run b) x y (side_same a b) e
word_reads sig d (term t) (term u) r s k p q x y e = let h = term_reads sig d t u r s p q x y e in
    (ap (λ z. term z) h.0, h.1)
word_reads sig d (terms ts) (terms us) r s k p q x y e = let h = list_reads (term_text sig []) (TermStands sig)
    (term_reads sig d) (term_begins sig) ts us r s p q e in (ap (λ z. terms z) h.0, h.1)
word_reads sig d (patterns ts) (patterns us) r s k p q x y e = let h = list_reads (pattern_text sig)
    (PatternStands sig) (pattern_reads sig d) (pattern_begins sig) ts us r s p.1 q.1 e in
    (ap (λ z. patterns z) h.0, h.1)
word_reads sig d _ _ r s k p q x y e = absurd (omega (arith, k))

abbrev pub words_text : Sig → List Word → List ℕ
words_text sig ws = flat_map (λ w. codes " " ++ word_text sig w) ws

words_end : (sig : Sig) (ws : List Word) (r : List ℕ) → Ends (words_text sig ws ++ (10 ∷ r))
words_end sig [] r = refl
words_end sig (w ∷ ws) r = refl

pub words_reads : (sig : Sig) → NamesDiffer sig → (ws vs : List Word) (r s : List ℕ) →
    map kind_of ws ≡ map kind_of vs → AllByRecursion (Sound sig) ws → AllByRecursion (Sound sig) vs →
    words_text sig ws ++ (10 ∷ r) ≡ words_text sig vs ++ (10 ∷ s) → (ws ≡ vs) × (r ≡ s)
words_reads sig d [] [] r s k p q e = (refl, same_tail e)
words_reads sig d [] (v ∷ vs) r s k p q e = absurd (nil_cons k)
words_reads sig d (w ∷ ws) [] r s k p q e = absurd (cons_nil k)
words_reads sig d (w ∷ ws) (v ∷ vs) r s k p q e =
    let grouped : word_text sig w ++ (words_text sig ws ++ (10 ∷ r)) ≡ word_text sig v
    ++ (words_text sig vs ++ (10 ∷ s)) = sym (append_assoc (word_text sig w) (words_text sig ws) (10 ∷ r))
    ∙ same_tail e ∙ append_assoc (word_text sig v) (words_text sig vs) (10 ∷ s) in
    let first = word_reads sig d w v (words_text sig ws ++ (10 ∷ r)) (words_text sig vs ++ (10 ∷ s))
    (same_head k) p.0 q.0 (words_end sig ws r) (words_end sig vs s) grouped in
    let next = words_reads sig d ws vs r s (same_tail k) p.1 q.1 first.1 in
    let h : w ≡ v = first.0 in
    let j : ws ≡ vs = next.0 in
    (λ i. h i ∷ j i, next.1)

-- a line as its head and what follows it
pub line_grouped : (sig : Sig) (l : Line) (r : List ℕ) → line_text sig l ++ r ≡ l.head
    ++ (words_text sig l.words ++ (10 ∷ r))
line_grouped sig l r = append_assoc l.head (words_text sig l.words ++ codes "\n") r
    ∙ ap (λ z. l.head ++ z) (append_assoc (words_text sig l.words) (codes "\n") r)

-- two lines have the same head, and after it the same follows
pub head_reads : (sig : Sig) (l m : Line) (r s : List ℕ) → AllRun l.head → AllRun m.head →
    line_text sig l ++ r ≡ line_text sig m ++ s →
    Same l.head m.head (words_text sig l.words ++ (10 ∷ r)) (words_text sig m.words ++ (10 ∷ s))
head_reads sig l m r s p q e = run_one Run l.head m.head (words_text sig l.words ++ (10 ∷ r))
    (words_text sig m.words ++ (10 ∷ s)) p q
    (ends_stop (words_text sig l.words ++ (10 ∷ r)) (words_end sig l.words r))
    (ends_stop (words_text sig m.words ++ (10 ∷ s)) (words_end sig m.words s)) (sym (line_grouped sig l r) ∙ e
    ∙ line_grouped sig m s)
