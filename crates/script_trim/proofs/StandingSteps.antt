-- The steps that a cut leaves may appear in a report: a closing step has variables for terms, as few as
-- its line has room for, and the numbers of nodes only get smaller.
use Rattle.std.proofs.Common.{◌≡◌, ℕ, zero, suc, ◌+◌, ◌≤◌, List, [], ◌∷◌, ◌++◌, Bool, refl, arith, length}
use Rattle.std.proofs.Common.{length-append, map}
use Rattle.std.specs.Prelude.{codes, flat_map, slice_set}
use Rattle.std.specs.List.{AllByRecursion}
use Rattle.std.proofs.lemmas.List.{length-map}
use Rattle.std.proofs.lemmas.List.FromFn.{length-map-range_with_len}
use Rattle.term_core.specs.Tree.{Tree, var}
use Rattle.spec_core.specs.declared.records.Goal.{Goal}
use Rattle.spec_core.specs.declared.records.Spec.{Spec}
use Rattle.spec_core.specs.Sig.{Sig}
use Rattle.spec_core.specs.TermText.{term_text}
use Rattle.clause_core.specs.declared.clauses.Clause.{Clause}
use Rattle.clause_core.specs.declared.steps.Step.{Step}
use Rattle.clause_core.specs.declared.steps.Step.TheVariants.{Subsume, ByLemma, Hyp}
use Rattle.clause_core.specs.Instances.{variables}
use Rattle.clause_core.specs.Limits.{IsWithin}
use Rattle.clause_core.specs.Tidied.{goal_clause}
use Rattle.proof_script.specs.Names.{IsReportName}
use Rattle.proof_script.specs.Standing.{TermStands, StepStands}
use Rattle.proof_script.specs.Steps.{step_line}
use Rattle.proof_script.specs.Words.{Word, name, number, terms, word_text, line_text, with_commas}
use Rattle.script_trim.specs.Closing.{own_variables}
use Rattle.script_trim.specs.Cut.{renumbered, staying}
use Rattle.script_trim.proofs.AllItems.{all_each, all_mapped, all_set, all_staying}
use Rattle.script_trim.proofs.ClosingKinds.{as_lemma, HoldsOfKinds}
use Rattle.script_trim.proofs.OneCut.{anew_bound}
use Rattle.script_trim.proofs.TextBound.{line_length, word_length}

-- the terms of the closing steps that have some
abbrev pub own_terms : Step → List Tree
own_terms (Subsume k list) = list
own_terms (ByLemma goal list) = list
own_terms step = []

-- they stay the same if the step gets the new number of its node
pub same_terms :
    (stays : ℕ → Bool) (step : Step) → own_terms (renumbered stays step) ≡ own_terms step
same_terms stays (Subsume k list) = refl
same_terms stays (Hyp k list p left) = refl
same_terms stays step = refl

commas_length :
    (texts : List (List ℕ)) → length texts ≤ length (flat_map (λ u. codes ", " ++ u) texts)
commas_length [] = omega arith
commas_length (t ∷ texts) =
    let more = flat_map (λ u. codes ", " ++ u) texts in
    let a = length-append (codes ", " ++ t) more in
    let b = length-append (codes ", ") t in
    omega (arith, a, b, commas_length texts)

list_length : (texts : List (List ℕ)) → length texts ≤ length (with_commas texts) + 1
list_length [] = omega arith
list_length (t ∷ texts) =
    let a = length-append t (flat_map (λ u. codes ", " ++ u) texts) in
    omega (arith, a, commas_length texts)

module _ (sig : Sig) where
  -- the text of a list in brackets has at least a byte for each item
  terms_length : (list : List Tree) → length list ≤ length (word_text sig (terms list))
  terms_length list =
      let texts = map (term_text sig []) list in
      let a = length-append (codes "[") (with_commas texts ++ codes "]") in
      let b = length-append (with_commas texts) (codes "]") in
      let c = length-map list (term_text sig []) in
      omega (arith, a, b, c, list_length texts)

  list_in_line :
      (head : List ℕ) (w : Word) (list : List Tree) →
      length list ≤ length (line_text sig (record { head = head; words = w ∷ terms list ∷ [] }))
  list_in_line head w list =
      let a = line_length sig head (w ∷ terms list ∷ []) in
      let b = word_length sig w (terms list ∷ []) in
      let c = word_length sig (terms list) [] in
      omega (arith, a, b, c, terms_length list)

  -- a step has no more of them than its line has bytes
  pub terms_in_line :
      (step : Step) → length (own_terms step) ≤ length (line_text sig (step_line step))
  terms_in_line (Subsume k list) = list_in_line (codes "subsume") (number k) list
  terms_in_line (ByLemma goal list) = list_in_line (codes "by-lemma") (name goal) list
  terms_in_line step = omega arith

  variables_stand :
      (from count : ℕ) → from + count ≤ 300000 → AllByRecursion (TermStands sig) (variables from count)
  variables_stand from zero l = tt
  variables_stand from (suc count) l = (
    record { symbols = omega (arith, l); depth = omega arith },
    variables_stand (from + 1) count (omega (arith, l)),
  )

  own_stand :
      (d : Clause) → length (own_variables d) ≤ 300000 →
      AllByRecursion (TermStands sig) (own_variables d)
  own_stand d l =
      let many = length-map-range_with_len (λ n. var n) 0 (length d.ctx) in
      variables_stand 0 (length d.ctx) (omega (arith, l, many))

  -- the step under the new number of its node may appear
  renumbered_stands :
      (stays : ℕ → Bool) (step : Step) → StepStands sig step →
      StepStands sig (renumbered stays step)
  renumbered_stands stays (Subsume k list) h = (omega (arith, h.0, anew_bound stays k), h.1)
  renumbered_stands stays (Hyp k list p left) h = (omega (arith, h.0, anew_bound stays k), h.1)
  renumbered_stands stays step h = h

  -- so may the steps that are left, if the closing step may
  pub left_stand :
      (stays : ℕ → Bool) (steps : List Step) (i : ℕ) (step : Step) →
      AllByRecursion (StepStands sig) steps → StepStands sig step →
      AllByRecursion (StepStands sig)
      (map (renumbered stays) (staying stays 0 (slice_set steps i step)))
  left_stand stays steps i step h closing =
      let replaced = slice_set steps i step in
      let all = all_set (StepStands sig) steps i step h closing in
      let kept = all_staying (StepStands sig) stays 0 replaced all in
      all_mapped (StepStands sig) (renumbered stays) (staying stays 0 replaced)
      (all_each (StepStands sig) (λ s. StepStands sig (renumbered stays s))
      (staying stays 0 replaced) (renumbered_stands stays) kept)

-- a closing step may appear at a node within the limits if there are few nodes and it has few terms
abbrev pub StandsWithFew : Sig → Step → Type 0
StandsWithFew sig step = length (own_terms step) ≤ 300000 → StepStands sig step

pub closing_stands :
    (spec : Spec) (nodes : List Clause) (c : Clause) →
    AllByRecursion (λ (goal : Goal). IsReportName goal.name) spec.goals → length nodes ≤ 10000 →
    IsWithin c → HoldsOfKinds (StandsWithFew spec.sig) spec nodes c
closing_stands spec nodes c names few within = record {
  trivials = λ k b l. ((b.0, omega (arith, b.1, within.equations)), tt);
  matches = λ k j b a l. (
    (b.0, omega (arith, b.1, within.equations)),
    ((a.0, omega (arith, a.1, within.equations)), tt),
  );
  absurds = λ j a l. ((a.0, omega (arith, a.1, within.equations)), tt);
  others = λ k d below l. (omega (arith, below, few), (own_stand spec.sig d l, tt));
  lemmas =
      all_each (λ (goal : Goal). IsReportName goal.name)
      (λ (goal : Goal). StandsWithFew spec.sig (as_lemma goal)) spec.goals
      (λ goal named l. (named, (own_stand spec.sig (goal_clause goal) l, tt))) names;
}
