-- The part of a block that is made: its first steps, with the nodes that they make.
use Rattle.std.proofs.Common.{◌≡◌, ℕ, suc, ◌<◌, ◌≤◌, List, [], ◌∷◌, ◌++◌, Some, take, length, refl, ap, sym, ◌∙◌}
use Rattle.std.proofs.Common.{subst, arith}
use Rattle.std.specs.Prelude.{Ok, Contains, slice_get}
use Rattle.std.proofs.lemmas.List.{length-append, take_all}
use Rattle.std.proofs.lemmas.Option.{slice_get_within}
use Rattle.term_core.specs.Tree.{Tree}
use Rattle.spec_core.specs.declared.records.Goal.{Goal}
use Rattle.spec_core.specs.declared.records.Spec.{Spec}
use Rattle.spec_core.specs.WellSorted.{IsWellSorted}
use Rattle.clause_core.specs.declared.clauses.Clause.{Clause}
use Rattle.clause_core.specs.declared.steps.Step.{Step}
use Rattle.clause_core.specs.declared.steps.Step.TheVariants.{Cover}
use Rattle.clause_core.specs.declared.answers.Children.{Children}
use Rattle.clause_core.specs.Says.{Says}
use Rattle.clause_core.specs.StepLaws.{OneAnswer}
use Rattle.clause_core.specs.Steps.{row_of}
use Rattle.clause_core.specs.Tidied.{IsTidied, goal_clause, variables_of, written_clause}
use Rattle.acceptance.specs.Blocks.{clauses_of}
use Rattle.test_sets.specs.TestSets.{test_set_of}
use Rattle.plain_search.specs.Choices.{IsChosen}
use Rattle.plain_search.specs.Blocks.{IsSplit, IsPlainBlock}
use Rattle.plain_search.specs.Laws.{OneChoice}
use Rattle.plain_search.proofs.BlockSteps.{taken_more, nodes_more, nodes_at, At, at_number, goes_on, ends}
use Rattle.plain_search.proofs.BlockSteps.{first_splits, later_chosen}
use Rattle.plain_search.proofs.Variables.{firsts_apart, one_place}

-- one step splits the goal's variable
pub one_split : (spec : Spec) (goal : Goal) (x : ℕ) (a b : Step) → IsSplit spec goal x a → IsSplit spec goal x b → a ≡ b
one_split spec goal x a b p q =
    let n : p.variable.0 ≡ q.variable.0 = one_place (variables_of (written_clause goal)) (firsts_apart _)
    p.variable.0 q.variable.0 x p.is q.is in
    let v : p.variable ≡ q.variable = λ i. record { 0 = n i } in
    let both : Some p.sort ≡ Some q.sort = sym p.sorted ∙ q.sorted in
    let s : p.sort ≡ q.sort = cc in
    p.covers ∙ (λ i. Cover (v i) (test_set_of spec.sig (s i))) ∙ sym q.covers

-- a goal's block on x
module _ (above : Tree → Tree → Type 0) (spec : Spec) (goal : Goal) (x : ℕ) (steps : List Step)
    (block : IsPlainBlock above spec goal x steps) where
  -- these are its first steps, with the nodes that they make
  pub record IsPart (first : List Step) (nodes : List Clause) : Type 0 where
    pub some : length first ≤ length steps
    pub steps_are : first ≡ take (length first) steps
    pub nodes_are : nodes ≡ nodes_at above spec goal x steps block (length first)

  -- the part is the whole if each node has its step
  pub whole : (first : List Step) (nodes : List Clause) → IsPart first nodes → length nodes ≤ length first →
      first ≡ steps
  whole first nodes p past =
      let k = length first in
      let long = ap (λ (ns : List Clause). length ns) p.nodes_are in
      let e : k ≡ length steps = ends above spec goal x steps block k p.some (omega (arith, long, past)) in
      p.steps_are ∙ take_all k steps (omega (arith, e))

  -- one step more
  more :
      (first : List Step) → first ≡ take (length first) steps → length first < length steps →
      (step : Step) (made : Children) →
      slice_get steps (length first) ≡ Some step → slice_get block.made (length first) ≡ Some made →
      IsPart (first ++ step ∷ []) (nodes_at above spec goal x steps block (length first) ++ clauses_of made)
  more first are lt step made at there =
      let k = length first in
      let n : length (first ++ step ∷ []) ≡ suc k = omega (arith, length-append first (step ∷ [])) in
      record {
        some = omega (arith, n);
        steps_are = ap (λ ss. ss ++ step ∷ []) are ∙ sym (taken_more steps k step at) ∙ ap (λ j. take j steps) (sym n);
        nodes_are = sym (nodes_more (goal_clause goal) block.made k made there)
            ∙ ap (λ j. nodes_at above spec goal x steps block j) (sym n);
      }

  module _ (one_choice : OneChoice above) (one_answer : OneAnswer above) (fine : IsWellSorted spec)
      (tidy : IsTidied (goal_clause goal)) (premises : (goal_clause goal).premises ≡ []) where
    one_made : (nodes : List Clause) (c : Clause) (step : Step) (m n : Children) →
        Says above c nodes (row_of spec (Contains []) nodes c step) (Ok m) →
        Says above c nodes (row_of spec (Contains []) nodes c step) (Ok n) → m ≡ n
    one_made nodes c step m n p q = let e : Ok m ≡ Ok n = one_answer spec [] nodes c step (Ok m) (Ok n) fine p q in cc

    -- what the step of a number makes at a clause, which is that of its node
    made_there : (k : ℕ) (t : At above spec goal x steps block k) (c : Clause) →
        slice_get (nodes_at above spec goal x steps block k) k ≡ Some c → (step : Step) → t.step ≡ step →
        Says above c (nodes_at above spec goal x steps block k)
        (row_of spec (Contains []) (nodes_at above spec goal x steps block k) c step) (Ok t.made_by)
    made_there k t c there step e =
        let ns = nodes_at above spec goal x steps block k in
        let both : Some t.makes.clause ≡ Some c = sym t.makes.is ∙ there in
        let same : t.makes.clause ≡ c = cc in
        subst (λ s. Says above c ns (row_of spec (Contains []) ns c s) (Ok t.made_by)) e
        (subst (λ d. Says above d ns (row_of spec (Contains []) ns d t.step) (Ok t.made_by)) same t.makes.says)

    some_steps : 0 < length steps
    some_steps = let n = ap (λ (ss : List Step). length ss) block.is in omega (arith, n)

    first_turn : At above spec goal x steps block 0
    first_turn = at_number above spec goal x steps block 0 some_steps

    module _ (split : Step) (splits : IsSplit spec goal x split) where
      same_split : first_turn.step ≡ split
      same_split = one_split spec goal x first_turn.step split
          (first_splits above spec goal x steps block first_turn.step first_turn.at) splits

      -- the table says what the first step makes
      pub splits_here : ((made : Children) →
          Says above (goal_clause goal) (goal_clause goal ∷ [])
          (row_of spec (Contains []) (goal_clause goal ∷ []) (goal_clause goal) split) (Ok made) → ⊥) → ⊥
      splits_here never = never first_turn.made_by (made_there 0 first_turn (goal_clause goal) refl split same_split)

      -- the first step with its nodes
      pub begun : (made : Children) →
          Says above (goal_clause goal) (goal_clause goal ∷ [])
          (row_of spec (Contains []) (goal_clause goal ∷ []) (goal_clause goal) split) (Ok made) →
          IsPart (split ∷ []) (goal_clause goal ∷ clauses_of made)
      begun made says =
          let m : first_turn.made_by ≡ made = one_made (goal_clause goal ∷ []) (goal_clause goal) split
          first_turn.made_by made (made_there 0 first_turn (goal_clause goal) refl split same_split) says in
          more [] refl some_steps split made (first_turn.at ∙ ap (λ s. Some s) same_split) (first_turn.makes_at
          ∙ ap (λ n. Some n) m)

    module _ (first : List Step) (nodes : List Clause) (p : IsPart first nodes) (k : ℕ)
        (later : length first ≡ suc k) (c : Clause) (here : slice_get nodes (length first) ≡ Some c) where
      abbrev there : List Clause
      there = nodes_at above spec goal x steps block (length first)

      in_block : length first < length steps
      in_block =
          let long = ap (λ (ns : List Clause). length ns) p.nodes_are in
          let w = slice_get_within nodes (length first) c here in
          goes_on above spec goal x steps block (length first) p.some (omega (arith, long, w))

      turn_here : At above spec goal x steps block (length first)
      turn_here = at_number above spec goal x steps block (length first) in_block

      here_there : slice_get there (length first) ≡ Some c
      here_there = subst (λ ns. slice_get ns (length first) ≡ Some c) p.nodes_are here

      chosen_there : IsChosen above spec (Contains []) (goal_clause goal) there c turn_here.step
      chosen_there =
          let P = λ (j : ℕ). slice_get steps j ≡ Some turn_here.step →
          slice_get (nodes_at above spec goal x steps block j) j ≡ Some c →
          IsChosen above spec (Contains []) (goal_clause goal) (nodes_at above spec goal x steps block j) c
          turn_here.step in
          subst P (sym later) (later_chosen above spec goal x steps block k turn_here.step c) turn_here.at here_there

      -- some step is chosen there
      pub some_chosen : ((step : Step) → IsChosen above spec (Contains []) (goal_clause goal) nodes c step → ⊥) → ⊥
      some_chosen never = never turn_here.step
          (subst (λ ns. IsChosen above spec (Contains []) (goal_clause goal) ns c turn_here.step)
          (sym p.nodes_are) chosen_there)

      -- the chosen step with its nodes
      pub followed : (step : Step) (made : Children) →
          IsChosen above spec (Contains []) (goal_clause goal) nodes c step →
          Says above c nodes (row_of spec (Contains []) nodes c step) (Ok made) →
          IsPart (first ++ step ∷ []) (nodes ++ clauses_of made)
      followed step made chosen says =
          let chosen' : IsChosen above spec (Contains []) (goal_clause goal) there c step = subst
          (λ ns. IsChosen above spec (Contains []) (goal_clause goal) ns c step) p.nodes_are chosen in
          let says' : Says above c there (row_of spec (Contains []) there c step) (Ok made) = subst
          (λ ns. Says above c ns (row_of spec (Contains []) ns c step) (Ok made)) p.nodes_are says in
          let e : turn_here.step ≡ step = one_choice spec [] (goal_clause goal) there c turn_here.step step fine
          tidy premises refl chosen_there chosen' in
          let m : turn_here.made_by ≡ made = one_made there c step turn_here.made_by made
          (made_there (length first) turn_here c here_there step e) says' in
          subst (λ ns. IsPart (first ++ step ∷ []) (ns ++ clauses_of made)) (sym p.nodes_are)
          (more first p.steps_are in_block step made (turn_here.at ∙ ap (λ s. Some s) e) (turn_here.makes_at
          ∙ ap (λ n. Some n) m))
