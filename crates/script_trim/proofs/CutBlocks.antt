-- A block that is cut: what its steps make, and that each node has its step.
use Rattle.std.proofs.Common.{◌≡◌, ℕ, zero, suc, ◌+◌, ◌≤◌, ◌<◌, List, [], ◌∷◌, ◌++◌, true, take, refl, sym, ◌∙◌, ap}
use Rattle.std.proofs.Common.{subst, arith, length, map}
use Rattle.std.specs.Prelude.{flat_map, slice_set, cond}
use Rattle.std.proofs.lemmas.List.{length-map}
use Rattle.term_core.specs.Tree.{Tree}
use Rattle.spec_core.specs.declared.records.Spec.{Spec}
use Rattle.clause_core.specs.declared.answers.Children.{Children}
use Rattle.clause_core.specs.declared.clauses.Clause.{Clause}
use Rattle.clause_core.specs.declared.steps.Step.{Step}
use Rattle.acceptance.specs.Blocks.{clauses_of, nodes_of, StepMakes, StepsMake}
use Rattle.acceptance.proofs.WholeBlocks.{as_many}
use Rattle.script_trim.specs.Cut.{new_number, renumbered, staying, IsCut}
use Rattle.script_trim.specs.Made.{cut_made}
use Rattle.script_trim.proofs.CutMakes.{go_before, nodes_before}
use Rattle.script_trim.proofs.Staying.{staying_length}
use Rattle.script_trim.proofs.StayingChildren.{AreLocal, local_all, stays_before}

length_set : {A : Type 0} (xs : List A) (i : ℕ) (x : A) → length (slice_set xs i x) ≡ length xs
length_set [] i x = refl
length_set (y ∷ ys) zero x = refl
length_set (y ∷ ys) (suc i) x = ap (λ n. suc n) (length_set ys i x)

module _
    (above :
    Tree → Tree → Type 0) (spec : Spec) (usable : ℕ → Type 0) (start : Clause) (steps : List Step)
    (made : List Children)
    (makes :
    StepsMake above spec usable (start ∷ []) 0 steps made)
    (finished : length (nodes_of start made) ≡ length steps)
    (i : ℕ) (within : i < length steps) (step : Step) (rest : List Step) (cut : IsCut steps made i step rest)
    (closed : Children) (none : closed.clauses ≡ []) where
  local : AreLocal cut.stays i 0 1 made
  local = local_all cut.stays i above spec usable start steps made makes finished cut.which

  kept : (j : ℕ) → j ≤ i → cut.stays j ≡ true
  kept = stays_before cut.stays i above spec usable start steps made makes finished cut.which within

  start_stays : staying cut.stays 0 (start ∷ []) ≡ start ∷ []
  start_stays = ap (λ b. cond b (start ∷ []) []) (kept 0 (omega arith))

  within_made : i < length made
  within_made = omega (arith, within, as_many above spec usable (start ∷ []) 0 steps made makes)

  -- if the closing step makes this at node i, over the nodes that the steps before it make, the steps
  -- that are left make what stays
  pub cut_makes :
      StepMakes above spec usable (nodes_of start (take i made)) i step closed →
      StepsMake above spec usable (start ∷ []) 0 rest (cut_made cut.stays made i closed)
  cut_makes closes =
      let z : 0 + i ≡ i = omega arith in
      let p = go_before cut.stays above spec usable i i (start ∷ []) 0 1 steps made refl z within makes local
      (kept i (omega arith)) step closed none closes cut.refer in
      subst (λ r. StepsMake above spec usable (start ∷ []) 0 r (cut_made cut.stays made i closed)) (sym cut.is)
      (subst (λ ns. StepsMake above spec usable ns 0 (map (renumbered cut.stays)
      (staying cut.stays 0 (slice_set steps i step))) (cut_made cut.stays made i closed)) start_stays p)

  -- its nodes are those that stay
  pub cut_nodes : nodes_of start (cut_made cut.stays made i closed) ≡ staying cut.stays 0 (nodes_of start made)
  cut_nodes =
      let z : 0 + i ≡ i = omega arith in
      ap (λ ns. ns ++ flat_map clauses_of (cut_made cut.stays made i closed)) (sym start_stays)
      ∙ nodes_before cut.stays above spec usable i i (start ∷ []) 0 1 made refl z within_made local closed none

  -- and each of them has its step
  pub cut_finished : length (nodes_of start (cut_made cut.stays made i closed)) ≡ length rest
  cut_finished =
      let a : length (nodes_of start (cut_made cut.stays made i closed)) ≡ length
      (staying cut.stays 0 (nodes_of start made)) = ap (λ ns. length ns) cut_nodes in
      let b = staying_length cut.stays (nodes_of start made) in
      let c = staying_length cut.stays (slice_set steps i step) in
      let d : length rest ≡ length (map (renumbered cut.stays) (staying cut.stays 0 (slice_set steps i step))) =
      ap (λ r. length r) cut.is in
      let e = length-map (staying cut.stays 0 (slice_set steps i step)) (renumbered cut.stays) in
      let f : length (nodes_of start made) ≡ length (slice_set steps i step) =
      finished ∙ sym (length_set steps i step) in
      let g : new_number cut.stays (length (nodes_of start made)) ≡ new_number cut.stays
      (length (slice_set steps i step)) = ap (λ n. new_number cut.stays n) f in
      omega (arith, a, b, c, d, e, g)
