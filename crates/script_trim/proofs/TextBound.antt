-- A cut makes the text of a claim longer by at most the closing step's line.
use Rattle.std.proofs.Common.{◌≡◌, ℕ, zero, suc, ◌+◌, ◌/◌, ◌%◌, ◌≤◌, List, [], ◌∷◌, ◌++◌, Bool, true, false}
use Rattle.std.proofs.Common.{refl, ap}
use Rattle.std.proofs.Common.{eq-eqb, eqb-true, arith, length, length-append, map}
use Rattle.std.specs.Prelude.{◌==◌, codes, cond, flat_map, slice_get, slice_set, Some, None}
use Rattle.std.specs.Fmt.{decimal, digits, digits_onto, digit_glyph}
use Rattle.spec_core.specs.Sig.{Sig}
use Rattle.clause_core.specs.declared.answers.Children.{Children}
use Rattle.clause_core.specs.declared.reports.Outcome.TheVariants.{Proved}
use Rattle.clause_core.specs.declared.steps.Step.{Step}
use Rattle.clause_core.specs.declared.steps.Step.TheVariants.{Subsume, Hyp}
use Rattle.proof_script.specs.Claims.{claim_text, first_line}
use Rattle.proof_script.specs.Steps.{step_line}
use Rattle.proof_script.specs.Words.{Word, fixed, name, number, place, side, terms, word_text, line_text}
use Rattle.proof_script.specs.Words.{lines_text}
use Rattle.script_trim.specs.Cut.{new_number, renumbered, staying, IsCut}
use Rattle.script_trim.specs.Trimmed.{proves}
use Rattle.script_trim.proofs.OneCut.{anew_bound, length_rest}

-- digits are only put before others
longer : (k n : ℕ) (others : List ℕ) → length others ≤ length (digits_onto k 10 false n others)
longer zero n others = omega arith
longer (suc k) n others =
    let more = digit_glyph false (n % 10) ∷ others in
    by_case (n / 10 == 0) more (digits_onto k 10 false (n / 10) more) (omega arith)
    (longer k (n / 10) more)
  where
    by_case :
        (b : Bool) (xs ys : List ℕ) → length others ≤ length xs → length xs ≤ length ys →
        length others ≤ length (cond b xs ys)
    by_case true xs ys l m = l
    by_case false xs ys l m = omega (arith, l, m)

choices :
    (a b : Bool) (xs ys us vs : List ℕ) → (b ≡ true → a ≡ true) → length xs ≤ length us →
    length xs ≤ length vs → length ys ≤ length vs →
    length (cond a xs ys) ≤ length (cond b us vs)
choices true true xs ys us vs h l m n = l
choices true false xs ys us vs h l m n = m
choices false true xs ys us vs h l m n = absurd (let q : false ≡ true = h refl in cc)
choices false false xs ys us vs h l m n = n

no_more_digits :
    (k m n : ℕ) (xs ys : List ℕ) → m ≤ n → length xs ≤ length ys →
    length (digits_onto k 10 false m xs) ≤ length (digits_onto k 10 false n ys)
no_more_digits zero m n xs ys l h = h
no_more_digits (suc k) m n xs ys l h =
    let first = digit_glyph false (m % 10) ∷ xs in
    let second = digit_glyph false (n % 10) ∷ ys in
    let both : length first ≤ length second = omega (arith, h) in
    let tenth : m / 10 ≤ n / 10 = omega (arith, l) in
    let more = longer k (n / 10) second in
    let ends : (n / 10 == 0) ≡ true → (m / 10 == 0) ≡ true =
    λ e. eq-eqb (m / 10) 0 (omega (arith, tenth, eqb-true (n / 10) 0 e)) in
    choices (m / 10 == 0) (n / 10 == 0) first (digits_onto k 10 false (m / 10) first) second
    (digits_onto k 10 false (n / 10) second) ends both (omega (arith, both, more))
    (no_more_digits k (m / 10) (n / 10) first second tenth both)

-- a smaller number has no more digits
pub decimal_grows : (m n : ℕ) → m ≤ n → length (decimal m) ≤ length (decimal n)
unfolding digits
decimal_grows m n l = no_more_digits 64 m n [] [] l (omega arith)

module _ (sig : Sig) where
  abbrev words_text : List Word → List ℕ
  words_text words = flat_map (λ w. codes " " ++ word_text sig w) words

  -- how many bytes a line has
  pub line_length :
      (head : List ℕ) (words : List Word) →
      length (line_text sig (record { head = head; words = words }))
      ≡ length head + length (words_text words) + 1
  line_length head words =
      let a = length-append head (words_text words ++ codes "\n") in
      let b = length-append (words_text words) (codes "\n") in
      omega (arith, a, b)

  pub word_length :
      (w : Word) (words : List Word) →
      length (words_text (w ∷ words)) ≡ 1 + length (word_text sig w) + length (words_text words)
  word_length w words =
      let a = length-append (codes " " ++ word_text sig w) (words_text words) in
      let b = length-append (codes " ") (word_text sig w) in
      omega (arith, a, b)

  words_grow :
      (front : List Word) (m n : ℕ) (words : List Word) → m ≤ n →
      length (words_text (front ++ number m ∷ words))
      ≤ length (words_text (front ++ number n ∷ words))
  words_grow [] m n words l =
      let a = word_length (number m) words in
      let b = word_length (number n) words in
      omega (arith, a, b, decimal_grows m n l)
  words_grow (w ∷ front) m n words l =
      let a = word_length w (front ++ number m ∷ words) in
      let b = word_length w (front ++ number n ∷ words) in
      omega (arith, a, b, words_grow front m n words l)

  -- a line with a smaller number isn't longer
  line_grows :
      (head : List ℕ) (front : List Word) (m n : ℕ) (words : List Word) → m ≤ n →
      length (line_text sig (record { head = head; words = front ++ number m ∷ words }))
      ≤ length (line_text sig (record { head = head; words = front ++ number n ∷ words }))
  line_grows head front m n words l =
      let a = line_length head (front ++ number m ∷ words) in
      let b = line_length head (front ++ number n ∷ words) in
      omega (arith, a, b, words_grow front m n words l)

  abbrev step_length : Step → ℕ
  step_length step = length (line_text sig (step_line step))

  step_shrinks :
      (stays : ℕ → Bool) (step : Step) → step_length (renumbered stays step) ≤ step_length step
  step_shrinks stays (Subsume k list) =
      line_grows (codes "subsume") [] (new_number stays k) k (terms list ∷ [])
      (anew_bound stays k)
  step_shrinks stays (Hyp k list p left) =
      line_grows (codes "hyp") [] (new_number stays k) k
      (terms list ∷ place p ∷ side left ∷ []) (anew_bound stays k)
  step_shrinks stays step = omega arith

  -- the lines of steps
  abbrev pub steps_text : List Step → List ℕ
  steps_text steps = lines_text sig (map step_line steps)

  pub steps_length :
      (step : Step) (steps : List Step) →
      length (steps_text (step ∷ steps)) ≡ step_length step + length (steps_text steps)
  steps_length step steps = length-append (line_text sig (step_line step)) (steps_text steps)

  -- a step's line is no longer than the lines of a list with this step
  pub line_within :
      (steps : List Step) (k : ℕ) (step : Step) → slice_get steps k ≡ Some step →
      step_length step ≤ length (steps_text steps)
  line_within [] k step at = absurd (let q : None ≡ Some step = at in cc)
  line_within (s ∷ steps) zero step at =
      let q : Some s ≡ Some step = at in
      let e : s ≡ step = cc in
      let a : step_length s ≡ step_length step = ap (λ x. step_length x) e in
      omega (arith, a, steps_length s steps)
  line_within (s ∷ steps) (suc k) step at =
      omega (arith, line_within steps k step at, steps_length s steps)

  pub claim_length :
      (goal : List ℕ) (steps : List Step) →
      length (claim_text sig (proves goal steps))
      ≡ length (line_text sig (first_line goal (Proved (record { steps = steps }))))
      + length (steps_text steps)
  claim_length goal steps =
      length-append (line_text sig (first_line goal (Proved (record { steps = steps }))))
      (steps_text steps)

  staying_shrinks :
      (stays : ℕ → Bool) (k : ℕ) (steps : List Step) →
      length (steps_text (map (renumbered stays) (staying stays k steps)))
      ≤ length (steps_text steps)
  staying_shrinks stays k [] = omega arith
  staying_shrinks stays k (s ∷ steps) =
      by_case (stays k) (staying stays (suc k) steps) (staying_shrinks stays (suc k) steps)
    where
      by_case :
          (b : Bool) (rest : List Step) →
          length (steps_text (map (renumbered stays) rest)) ≤ length (steps_text steps) →
          length (steps_text (map (renumbered stays) (cond b (s ∷ rest) rest)))
          ≤ length (steps_text (s ∷ steps))
      by_case true rest l =
          let a = steps_length s steps in
          let b = steps_length (renumbered stays s) (map (renumbered stays) rest) in
          omega (arith, l, a, b, step_shrinks stays s)
      by_case false rest l = omega (arith, l, steps_length s steps)

  set_grows :
      (steps : List Step) (i : ℕ) (step : Step) →
      length (steps_text (slice_set steps i step))
      ≤ length (steps_text steps) + step_length step
  set_grows [] i step = omega arith
  set_grows (s ∷ steps) zero step =
      omega (arith, steps_length s steps, steps_length step steps)
  set_grows (s ∷ steps) (suc i) step =
      let a = steps_length s steps in
      let b = steps_length s (slice_set steps i step) in
      omega (arith, a, b, set_grows steps i step)

  -- the text of the claim with the steps that a cut leaves
  pub cut_text :
      (goal : List ℕ) (steps : List Step) (made : List Children) (i : ℕ) (step : Step)
      (rest : List Step) → IsCut steps made i step rest →
      length (claim_text sig (proves goal rest))
      ≤ length (claim_text sig (proves goal steps)) + length (line_text sig (step_line step))
  cut_text goal steps made i step rest cut =
      let left = map (renumbered cut.stays) (staying cut.stays 0 (slice_set steps i step)) in
      let same : length (steps_text rest) ≡ length (steps_text left) =
      ap (λ r. length (steps_text r)) cut.is in
      let fewer = length_rest steps made i step rest cut in
      let few : length rest ≤ length steps =
      omega (arith, fewer, anew_bound cut.stays (length steps)) in
      let first =
      line_grows (codes "proved") (name goal ∷ fixed (codes "nodes") ∷ []) (length rest)
      (length steps) [] few in
      let new = claim_length goal rest in
      let old = claim_length goal steps in
      let shrinks = staying_shrinks cut.stays 0 (slice_set steps i step) in
      omega (arith, same, first, new, old, shrinks, set_grows steps i step)

  -- so has a claim by this step alone at least the step's line
  pub line_bound :
      (goal : List ℕ) (step : Step) (bytes sum : ℕ) → sum ≡ bytes + length (claim_text sig (proves goal (step ∷ []))) →
      bytes + length (line_text sig (step_line step)) ≤ sum
  line_bound goal step bytes sum is =
      omega (arith, is, claim_length goal (step ∷ []), steps_length step [])

-- bounds of bounds
pub within_sum : (a b line sum : ℕ) → a ≤ b + line → b + line ≤ sum → a ≤ sum
within_sum a b line sum l g = omega (arith, l, g)

pub at_most : (n m : ℕ) → n ≡ m → m ≤ n
at_most n m e = omega (arith, e)
