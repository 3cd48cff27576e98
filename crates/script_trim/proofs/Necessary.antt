-- If the steps of a cut block make something, the closing step does so in the block itself.
use Rattle.std.proofs.Common.{◌≡◌, ◌⊎◌, ℕ, suc, ◌+◌, ◌-◌, ◌≤◌, ◌<◌, List, [], ◌∷◌, ◌++◌, Bool, true, Some}
use Rattle.std.proofs.Common.{inl, inr, take, refl, sym, ◌∙◌, ap, subst, arith, length, length-append, map}
use Rattle.std.specs.Prelude.{slice_get, slice_set}
use Rattle.std.proofs.lemmas.List.{length-map, take-map}
use Rattle.term_core.specs.Tree.{Tree}
use Rattle.term_core.proofs.Numbers.{below_or_not}
use Rattle.spec_core.specs.declared.records.Spec.{Spec}
use Rattle.spec_core.specs.WellSorted.{IsWellSorted}
use Rattle.clause_core.specs.declared.answers.Child.{Child}
use Rattle.clause_core.specs.declared.answers.Children.{Children}
use Rattle.clause_core.specs.declared.clauses.Clause.{Clause}
use Rattle.clause_core.specs.declared.steps.Step.{Step}
use Rattle.clause_core.specs.declared.steps.Step.TheVariants.{Subsume, Hyp}
use Rattle.clause_core.specs.ClauseLaws.{OneRelation}
use Rattle.acceptance.specs.Blocks.{clauses_of, nodes_of, StepMakes, StepsMake}
use Rattle.acceptance.specs.Strict.{first_child}
use Rattle.acceptance.proofs.OneBlock.{steps_one}
use Rattle.acceptance.proofs.WholeBlocks.{as_many}
use Rattle.script_trim.specs.Cut.{new_number, renumbered, staying, IsCut}
use Rattle.block_links.proofs.LinksAlone.{there_mapped}
use Rattle.block_steps.proofs.ChildNumbers.{counted, counted_cons, counted_clauses, all_children, before_children}
use Rattle.script_trim.proofs.Children.{descends_from}
use Rattle.script_trim.proofs.Places.{set_same, take_set, taken_length, length_set, take_staying}
use Rattle.script_trim.proofs.Prefixes.{RefersBelow, steps_take, steps_at, refers_below}
use Rattle.script_trim.proofs.Staying.{anew_row, grows, staying_all, staying_at}
use Rattle.script_trim.proofs.StayingChildren.{there}

-- a step that refers to a node which keeps its number stays as it is
renumbered_same :
    (stays : ℕ → Bool) (n : ℕ) → ((c : ℕ) → c < n → new_number stays c ≡ c) → (step : Step) → RefersBelow n step →
    renumbered stays step ≡ step
renumbered_same stays n h (Subsume k terms) l = ap (λ j. Subsume j terms) (h k l)
renumbered_same stays n h (Hyp k terms place left) l = ap (λ j. Hyp j terms place left) (h k l)
renumbered_same stays n h step l = refl

same_by :
    (stays : ℕ → Bool) (n : ℕ) → ((c : ℕ) → c ≤ n → new_number stays c ≡ c) → (k : ℕ) → new_number stays k < n →
    new_number stays k ≡ k
same_by stays n h k l = either (below_or_not k n)
  where
    either : (k < n) ⊎ (n ≤ k) → new_number stays k ≡ k
    either (inl b) = h k (omega (arith, b))
    either (inr b) =
        let d : n + (k - n) ≡ k = omega (arith, b) in
        let g : new_number stays (n + (k - n)) ≡ new_number stays k = ap (λ j. new_number stays j) d in
        absurd (omega (arith, l, g, grows stays n (k - n), h n (omega arith)))

-- and so does one whose new number is that of such a node
renumbered_back :
    (stays : ℕ → Bool) (n : ℕ) → ((c : ℕ) → c ≤ n → new_number stays c ≡ c) → (step : Step) →
    RefersBelow n (renumbered stays step) → renumbered stays step ≡ step
renumbered_back stays n h (Subsume k terms) l = ap (λ j. Subsume j terms) (same_by stays n h k l)
renumbered_back stays n h (Hyp k terms place left) l = ap (λ j. Hyp j terms place left) (same_by stays n h k l)
renumbered_back stays n h step l = refl

fewer : (m k n : ℕ) → k ≤ n → (step : Step) → RefersBelow k step → RefersBelow n step
fewer m k n l (Subsume j terms) h = omega (arith, l, h)
fewer m k n l (Hyp j terms place left) h = omega (arith, l, h)
fewer m k n l step h = tt

module _
    (above :
    Tree → Tree → Type 0) (one : OneRelation above) (spec : Spec) (fine : IsWellSorted spec) (usable : ℕ → Type 0)
  where
    -- steps that refer to nodes which keep their numbers stay as they are
    map_same :
        (stays : ℕ → Bool) (n : ℕ) → ((c : ℕ) → c < n → new_number stays c ≡ c) →
        (nodes : List Clause) (k : ℕ) (steps : List Step) (made : List Children) →
        StepsMake above spec usable nodes k steps made → length nodes + counted made ≤ n →
        map (renumbered stays) steps ≡ steps
    map_same stays n h nodes k [] [] p l = refl
    map_same stays n h nodes k [] (m ∷ made) p l = absurd p
    map_same stays n h nodes k (s ∷ steps) [] p l = absurd p
    map_same stays n h nodes k (s ∷ steps) (m ∷ made) p l =
        let c = counted_cons m made in
        let below = fewer 0 (length nodes) n (omega (arith, l)) s (refers_below above spec usable nodes k s m p.0) in
        let e : renumbered stays s ≡ s = renumbered_same stays n h s below in
        let r : map (renumbered stays) steps ≡ steps = map_same stays n h (nodes ++ clauses_of m) (suc k) steps made p.1
        (omega (arith, l, c, length-append nodes (clauses_of m), length-map m.clauses (λ (d : Child). d.clause))) in
        λ i. e i ∷ r i

    module _
        (start : Clause) (steps : List Step) (made : List Children)
        (makes :
        StepsMake above spec usable (start ∷ []) 0 steps made)
        (finished : length (nodes_of start made) ≡ length steps)
        (i : ℕ) (within : i < length steps) (step : Step) (rest : List Step) (cut : IsCut steps made i step rest) where
      few : length made ≡ length steps
      few = as_many above spec usable (start ∷ []) 0 steps made makes

      abbrev reach : ℕ
      reach = first_child made i

      reached : reach ≤ length steps
      reached =
          let m = there made i (omega (arith, within, few)) in
          omega (arith, finished, counted_clauses made, all_children made i m.0 m.1)

      behind : i < reach
      behind =
          let m = there made i (omega (arith, within, few)) in
          omega (arith, before_children above spec usable (start ∷ []) 0 steps made makes i m.0 m.1)

      stay_below : (c : ℕ) → c < reach → cut.stays c ≡ true
      stay_below c l =
          (cut.which c).1 (
            omega (arith, l, reached),
            λ d. omega
                (arith, l, descends_from above spec usable start steps made makes i c d),
          )

      same_below : (c : ℕ) → c ≤ reach → new_number cut.stays c ≡ c
      same_below c l =
          let z : 0 + c ≡ c = omega arith in
          let w : new_number cut.stays (0 + c) ≡ new_number cut.stays c = ap (λ k. new_number cut.stays k) z in
          omega (
            arith,
            w,
            anew_row cut.stays 0 c (λ b h. (let y : 0 + b ≡ b = omega arith in
                ap cut.stays y ∙ stay_below b (omega (arith, h, l)))),
          )

      abbrev replaced : List Step
      replaced = slice_set steps i step

      taken : StepsMake above spec usable (start ∷ []) 0 (take i steps) (take i made)
      taken = steps_take above spec usable (start ∷ []) 0 steps made makes i

      -- the steps before the node stay as they are
      take_rest : take i rest ≡ take i steps
      take_rest =
          let n : new_number cut.stays i ≡ i = same_below i (omega (arith, behind)) in
          let a : take i rest ≡ take i (map (renumbered cut.stays) (staying cut.stays 0 replaced)) =
          ap (λ r. take i r) cut.is in
          let b : take i (map (renumbered cut.stays) (staying cut.stays 0 replaced)) ≡ map (renumbered cut.stays)
          (take i (staying cut.stays 0 replaced)) = take-map (renumbered cut.stays) i
          (staying cut.stays 0 replaced) in
          let c : take i (staying cut.stays 0 replaced) ≡ staying cut.stays 0 (take i replaced) =
          ap (λ k. take k (staying cut.stays 0 replaced)) (sym n) ∙ take_staying cut.stays replaced i
          (omega (arith, within, length_set steps i step)) in
          let d : staying cut.stays 0 (take i replaced) ≡ staying cut.stays 0 (take i steps) =
          ap (λ xs. staying cut.stays 0 xs) (take_set steps i step) in
          let e : staying cut.stays 0 (take i steps) ≡ take i steps =
          staying_all cut.stays 0 (take i steps) (λ j l. (let y : 0 + j ≡ j = omega arith in
          ap cut.stays y ∙ stay_below j (omega (
            arith,
            l,
            behind,
            taken_length steps i (omega (arith, within)),
          )))) in
          let f : map (renumbered cut.stays) (take i steps) ≡ take i steps =
          map_same cut.stays reach (λ k l. same_below k (omega (arith, l))) (start ∷ []) 0 (take i steps)
          (take i made) taken (omega arith) in
          a ∙ b ∙ ap (λ xs. map (renumbered cut.stays) xs) (c ∙ d ∙ e) ∙ f

      rest_at : slice_get rest i ≡ Some (renumbered cut.stays step)
      rest_at =
          let n : new_number cut.stays i ≡ i = same_below i (omega (arith, behind)) in
          let s : slice_get (staying cut.stays 0 replaced) (new_number cut.stays i) ≡ Some step =
          staying_at cut.stays i replaced step (set_same steps i step within) (stay_below i behind) in
          ap (λ r. slice_get r i) cut.is ∙ there_mapped (renumbered cut.stays) (staying cut.stays 0 replaced) i step
          (ap (λ k. slice_get (staying cut.stays 0 replaced) k) (sym n) ∙ s)

      -- what the closing step makes in the cut block it makes in the block
      pub closing_made :
          (others : List Children) → StepsMake above spec usable (start ∷ []) 0 rest others → (m : Children) ×
          StepMakes above spec usable (nodes_of start (take i made)) i step m
      closing_made others p =
          let q : StepsMake above spec usable (start ∷ []) 0 (take i rest) (take i others) =
          steps_take above spec usable (start ∷ []) 0 rest others p i in
          let same : take i others ≡ take i made = steps_one above one spec fine usable (start ∷ []) 0 (take i steps)
          (take i others) (take i made) (subst (λ xs. StepsMake above spec usable (start ∷ []) 0 xs (take i others))
          take_rest q) taken in
          let at = steps_at above spec usable (start ∷ []) 0 rest others p i (renumbered cut.stays step) rest_at in
          let z : 0 + i ≡ i = omega arith in
          let here : StepMakes above spec usable (nodes_of start (take i made)) i (renumbered cut.stays step) at.0 =
          subst (λ n. StepMakes above spec usable (nodes_of start (take i made)) n (renumbered cut.stays step) at.0)
          z (subst (λ ms. StepMakes above spec usable (nodes_of start ms) (0 + i) (renumbered cut.stays step) at.0)
          same at.2) in
          let below = refers_below above spec usable (nodes_of start (take i made)) i (renumbered cut.stays step) at.0
          here in
          let long : length (nodes_of start (take i made)) ≡ reach = omega (arith, counted_clauses (take i made)) in
          let e : renumbered cut.stays step ≡ step = renumbered_back cut.stays reach same_below step
          (subst (λ n. RefersBelow n (renumbered cut.stays step)) long below) in
          (at.0, subst (λ s. StepMakes above spec usable (nodes_of start (take i made)) i s at.0) e here)
