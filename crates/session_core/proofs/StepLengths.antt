-- How many bytes the lines of steps have, with one step more.
use Rattle.std.proofs.Common.{◌≡◌, ℕ, ◌+◌, List, [], ◌∷◌, ◌++◌, ap, arith, length, length-append, map, ◌∙◌, refl}
use Rattle.std.specs.Prelude.{codes}
use Rattle.std.specs.Fmt.{decimal, digits}
use Rattle.std.proofs.lemmas.Grind.{flat_map-append}
use Rattle.std.proofs.lemmas.List.{map-append}
use Rattle.spec_core.specs.Sig.{Sig}
use Rattle.clause_core.specs.declared.reports.Outcome.TheVariants.{Proved}
use Rattle.clause_core.specs.declared.steps.Step.{Step}
use Rattle.proof_script.specs.Claims.{claim_text}
use Rattle.proof_script.specs.Steps.{step_line}
use Rattle.proof_script.specs.Words.{Line, line_text, lines_text}
use Rattle.session_core.specs.Lengths.{proved_line, step_length, steps_length, lengths_after}

module _ (sig : Sig) where
  pub lines_longer : (ls ms : List Line) → length (lines_text sig (ls ++ ms)) ≡ length (lines_text sig ls) + length
      (lines_text sig ms)
  lines_longer ls ms =
      ap (λ xs. length xs) (flat_map-append (line_text sig) ls ms)
      ∙ length-append (lines_text sig ls) (lines_text sig ms)

  pub one_line_long : (l : Line) → length (lines_text sig (l ∷ [])) ≡ length (line_text sig l)
  one_line_long l = let n = length-append (line_text sig l) [] in omega (arith, n)

  pub steps_longer : (steps : List Step) (step : Step) → steps_length sig (steps ++ step ∷ []) ≡ steps_length sig
      steps + step_length sig step
  steps_longer steps step =
      let a = ap (λ ls. length (lines_text sig ls)) (map-append step_line steps (step ∷ [])) in
      let b = lines_longer (map step_line steps) (step_line step ∷ []) in
      let c = one_line_long (step_line step) in
      omega (arith, a, b, c)

  first_longer : (step : Step) (steps : List Step) → steps_length sig (step ∷ steps) ≡ step_length sig step +
      steps_length sig steps
  first_longer step steps = length-append (line_text sig (step_line step)) (lines_text sig (map step_line steps))

  lengths_by : (before : ℕ) (steps : List Step) (step : Step) → lengths_after sig before (steps ++ step ∷ []) ≡
      lengths_after sig before steps ++ (before + steps_length sig (steps ++ step ∷ [])) ∷ []
  lengths_by before [] step =
      let e : before + step_length sig step ≡ before + steps_length sig (step ∷ []) = omega (
        arith,
        one_line_long (step_line step),
      ) in
      ap (λ n. n ∷ []) e
  lengths_by before (s ∷ steps) step =
      let r = lengths_by (before + step_length sig s) steps step in
      let f = first_longer s (steps ++ step ∷ []) in
      let e : (before + step_length sig s) + steps_length sig (steps ++ step ∷ []) ≡ before + steps_length sig
      (s ∷ (steps ++ step ∷ [])) = omega (arith, f) in
      ap (λ ns. (before + step_length sig s) ∷ ns) (r ∙ ap (λ n. lengths_after sig (before + step_length sig s) steps
      ++ n ∷ []) e)

  -- the lengths with a step more
  pub lengths_more : (steps : List Step) (step : Step) → lengths_after sig 0 (steps ++ step ∷ []) ≡ lengths_after sig
      0 steps ++ steps_length sig (steps ++ step ∷ []) ∷ []
  lengths_more steps step =
      let e : 0 + steps_length sig (steps ++ step ∷ []) ≡ steps_length sig (steps ++ step ∷ []) = omega arith in
      lengths_by 0 steps step ∙ ap (λ n. lengths_after sig 0 steps ++ n ∷ []) e

  -- the lines of a claim without a name whose only step this is
  pub nameless_claim : (step : Step) → length (claim_text sig (record {
    goal = [];
    outcome = Proved (record {
      steps =
          step ∷ [];
    });
  })) ≡ 16 + step_length sig step
  unfolding digits
  nameless_claim step =
      let n = length-append (line_text sig (step_line step)) [] in
      omega (arith, n)

  -- the first line of a claim that a goal is proved
  pub proved_length : (name : List ℕ) (n : ℕ) → length (line_text sig (proved_line name n)) ≡ 15 + length name +
      length (decimal n)
  proved_length name n =
      let more = (codes " " ++ codes "nodes") ++ ((codes " " ++ decimal n) ++ []) in
      let a = length-append (name ++ more) (codes "\n") in
      let b = length-append name more in
      let d = length-append (decimal n) [] in
      omega (arith, a, b, d)

  -- the last length is that of all lines
  last_by : (before : ℕ) (steps : List Step) (front : List ℕ) (n : ℕ) → lengths_after sig before steps ≡ front ++ n ∷
      [] → n ≡ before + steps_length sig steps
  last_by before [] [] n e = absurd (let l : length {A = ℕ} [] ≡ length (n ∷ []) = ap (λ ns. length ns) e in
      omega (arith, l))
  last_by before [] (m ∷ front) n e = absurd (let l : length {A = ℕ} [] ≡ length (m ∷ (front ++ n ∷ [])) =
      ap (λ ns. length ns) e in omega (arith, l))
  last_by before (s ∷ []) [] n e =
      let k : ◌≡◌ {A = ℕ} (before + step_length sig s) n = cc in
      omega (arith, k, one_line_long (step_line s))
  last_by before (s ∷ []) (m ∷ front) n e = absurd (let l : length (n ∷ []) ≡ length (m ∷ (front ++ n ∷ [])) =
      ap (λ ns. length ns) e in omega (arith, l, length-append front (n ∷ [])))
  last_by before (s ∷ r ∷ steps) [] n e = absurd (let l : length ((before + step_length sig s) ∷ lengths_after sig
      (before + step_length sig s) (r ∷ steps)) ≡ length (n ∷ []) = ap (λ ns. length ns) e in omega (arith, l))
  last_by before (s ∷ r ∷ steps) (m ∷ front) n e =
      let q : lengths_after sig (before + step_length sig s) (r ∷ steps) ≡ front ++ n ∷ [] = cc in
      let k = last_by (before + step_length sig s) (r ∷ steps) front n q in
      omega (arith, k, first_longer s (r ∷ steps))

  pub last_length : (steps : List Step) (front : List ℕ) (n : ℕ) → lengths_after sig 0 steps ≡ front ++ n ∷ [] →
      n ≡ steps_length sig steps
  last_length steps front n e = omega (arith, last_by 0 steps front n e)

  pub no_length : (steps : List Step) → lengths_after sig 0 steps ≡ [] → steps_length sig steps ≡ 0
  no_length [] e = refl
  no_length (s ∷ steps) e = absurd (let l : length (lengths_after sig 0 (s ∷ steps)) ≡ length {A = ℕ} [] =
      ap (λ ns. length ns) e in omega (arith, l))
