-- How long the text of a claim is.
use Rattle.std.proofs.Common.{◌≡◌, ℕ, ◌+◌, ◌*◌, ◌^◌, zero, suc, ◌<◌, ◌≤◌, List, [], ◌∷◌, ◌++◌, length, map, refl, ap}
use Rattle.std.proofs.Common.{◌∙◌, arith, length-append}
use Rattle.std.specs.Prelude.{codes, flat_map}
use Rattle.std.specs.List.{AllByRecursion}
use Rattle.term_core.specs.Tree.{app, trees_of}
use Rattle.term_core.specs.declared.ids.SortId.{SortId}
use Rattle.term_core.specs.declared.ids.VarId.{VarId}
use Rattle.spec_core.specs.Sig.{Sig}
use Rattle.clause_core.specs.declared.steps.Step.{Step}
use Rattle.clause_core.specs.declared.steps.Step.TheVariants.{Cover}
use Rattle.clause_core.specs.declared.reports.Outcome.TheVariants.{Proved}
use Rattle.clause_core.specs.Instances.{variables}
use Rattle.proof_script.specs.Claims.{first_line, claim_text}
use Rattle.proof_script.specs.Steps.{step_line}
use Rattle.proof_script.specs.Words.{pattern_text, other_patterns_text, with_commas, line_text, lines_text}
use Rattle.test_sets.specs.TestSets.{applied}
use Rattle.plain_search.specs.Laws.{NamesAreShort}
use Rattle.plain_search.proofs.Building.{total_cost}
use Rattle.plain_search.proofs.StepBytes.{bytes, small_decimal, symbol_short}

pub lines_cost : (sig : Sig) (steps : List Step) →
    length (lines_text sig (map step_line steps)) ≡ total_cost (bytes sig) steps
lines_cost sig [] = refl
lines_cost sig (s ∷ ss) = length-append (line_text sig (step_line s)) (lines_text sig (map step_line ss))
    ∙ ap (λ n. bytes sig s + n) (lines_cost sig ss)

module _ (sig : Sig) (short : NamesAreShort sig) where
  blanks_more : (from count : ℕ) → length (other_patterns_text sig (trees_of (variables from count))) ≡ 3 * count
  blanks_more from zero = refl
  blanks_more from (suc count) = omega (arith, length-append {A = ℕ}, blanks_more (from + 1) count)

  applied_short : (f from count : ℕ) → count ≤ 8 →
      length (pattern_text sig (app f (trees_of (variables from count)))) ≤ 88
  applied_short f from zero h = omega (arith, symbol_short sig short f)
  applied_short f from (suc count) h = omega (
    arith,
    length-append {A = ℕ},
    symbol_short sig short f,
    blanks_more (from + 1) count,
    h,
  )

  more_patterns : (cs : List (ℕ × List SortId)) → AllByRecursion (λ (c : ℕ × List SortId). length c.1 ≤ 8) cs →
      length (flat_map (λ u. codes ", " ++ u) (map (pattern_text sig) (map applied cs))) ≤ 90 * length cs
  more_patterns [] h = omega arith
  more_patterns (c ∷ cs) h =
      let a = length-append (codes ", ") (pattern_text sig (applied c)) in
      let b = length-append (codes ", " ++ pattern_text sig (applied c))
      (flat_map (λ u. codes ", " ++ u) (map (pattern_text sig) (map applied cs))) in
      omega (arith, a, b, applied_short c.0 0 (length c.1) h.0, more_patterns cs h.1)

  patterns_short : (cs : List (ℕ × List SortId)) → AllByRecursion (λ (c : ℕ × List SortId). length c.1 ≤ 8) cs →
      length (with_commas (map (pattern_text sig) (map applied cs))) ≤ 90 * length cs
  patterns_short [] h = omega arith
  patterns_short (c ∷ cs) h =
      let a = length-append (pattern_text sig (applied c))
      (flat_map (λ u. codes ", " ++ u) (map (pattern_text sig) (map applied cs))) in
      omega (arith, a, applied_short c.0 0 (length c.1) h.0, more_patterns cs h.1)

  -- the line of the first step
  pub cover_short : (x : VarId) (cs : List (ℕ × List SortId)) → x.0 < 10 ^ 4 →
      AllByRecursion (λ (c : ℕ × List SortId). length c.1 ≤ 8) cs →
      bytes sig (Cover x (map applied cs)) ≤ 90 * length cs + 15
  cover_short x cs small h = simp length-append (omega (arith, small_decimal x.0 small, patterns_short cs h))

-- the first line of a claim
pub head_short : (sig : Sig) (name : List ℕ) (steps : List Step) → length name ≤ 64 → length steps < 10 ^ 4 →
    length (line_text sig (first_line name (Proved (record { steps = steps })))) ≤ 83
head_short sig name steps h small = simp length-append (omega (arith, h, small_decimal (length steps) small))

-- a claim is its first line, the first step's line, and those of the others
pub claim_parts :
    (sig : Sig) (name : List ℕ) (split : Step) (others : List Step) →
    length (claim_text sig (record { goal = name; outcome = Proved (record { steps = split ∷ others }) }))
    ≡ length (line_text sig (first_line name (Proved (record { steps = split ∷ others })))) + bytes sig split +
    total_cost (bytes sig) others
claim_parts sig name split others =
    let head = line_text sig (first_line name (Proved (record { steps = split ∷ others }))) in
    let a = length-append head (line_text sig (step_line split) ++ lines_text sig (map step_line others)) in
    let b = length-append (line_text sig (step_line split)) (lines_text sig (map step_line others)) in
    omega (arith, a, b, lines_cost sig others)
