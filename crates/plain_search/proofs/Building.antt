-- How a block is built, node by node.
use Rattle.std.proofs.Common.{◌≡◌, ℕ, ◌+◌, ◌*◌, zero, suc, ◌≤◌, List, [], ◌∷◌, ◌++◌, take, length, Bool, true, Some}
use Rattle.std.proofs.Common.{None, refl, ap, sym, ◌∙◌, subst, arith, append_assoc, length-append}
use Rattle.std.specs.Prelude.{slice_get, flat_map, Ok}
use Rattle.std.specs.List.{AllByRecursion}
use Rattle.std.proofs.lemmas.List.{append-nil}
use Rattle.term_core.specs.Tree.{Tree}
use Rattle.spec_core.specs.declared.records.Spec.{Spec}
use Rattle.clause_core.specs.declared.clauses.Clause.{Clause}
use Rattle.clause_core.specs.declared.clauses.Relation.TheVariants.{Less, Same}
use Rattle.clause_core.specs.declared.steps.Step.{Step}
use Rattle.clause_core.specs.declared.answers.Child.{Child}
use Rattle.clause_core.specs.declared.answers.Children.{Children}
use Rattle.clause_core.specs.declared.answers.Reference.{Reference}
use Rattle.clause_core.specs.Says.{Says}
use Rattle.clause_core.specs.Steps.{row_of}
use Rattle.acceptance.specs.Blocks.{clauses_of, StepsMake}

-- what a step makes at a clause, whichever goals may be used
abbrev pub SaysMade : (Tree → Tree → Type 0) → Spec → List Clause → Clause → Step → Children → Type 1
SaysMade above spec nodes c step made = (usable : ℕ → Type 0) →
    Says above c nodes (row_of spec usable nodes c step) (Ok made)

-- the children are Less, and the references are to the first node, as Same
pub record IsFine (made : Children) : Type 0 where
  pub falls : AllByRecursion (λ (d : Child). d.relation ≡ Less) made.clauses
  pub refers : AllByRecursion (λ (r : Reference). (r.node ≡ 0) × (r.relation ≡ Same)) made.refs

-- each clause can be closed by this many nodes, and if it is marked by a step that refers to no node
abbrev pub AllClosable : (Clause → ℕ → Bool → Type 0) → List Clause → List (ℕ × Bool) → Type 0
AllClosable Closable [] [] = Unit {0}
AllClosable Closable (c ∷ cs) (m ∷ ms) = Closable c m.0 m.1 × AllClosable Closable cs ms
AllClosable Closable [] (m ∷ ms) = ⊥
AllClosable Closable (c ∷ cs) [] = ⊥

abbrev pub total : List (ℕ × Bool) → ℕ
total [] = 0
total (m ∷ ms) = m.0 + total ms

abbrev pub total_cost : (Step → ℕ) → List Step → ℕ
total_cost cost [] = 0
total_cost cost (s ∷ ss) = cost s + total_cost cost ss

-- what is made of marked nodes refers to no node
abbrev pub AreMarked : List (ℕ × Bool) → List Children → Type 0
AreMarked [] made = Unit {0}
AreMarked (m ∷ ms) [] = ⊥
AreMarked (m ∷ ms) (x ∷ made) = (m.1 ≡ true → x.refs ≡ []) × AreMarked ms made

marked_front : (ms ns : List (ℕ × Bool)) (made : List Children) → AreMarked (ms ++ ns) made → AreMarked ms made
marked_front [] ns made h = tt
marked_front (m ∷ ms) ns [] h = absurd h
marked_front (m ∷ ms) ns (x ∷ made) h = (h.0, marked_front ms ns made h.1)

total_append : (ms ns : List (ℕ × Bool)) → total (ms ++ ns) ≡ total ms + total ns
total_append [] ns = omega arith
total_append (m ∷ ms) ns = omega (arith, total_append ms ns)

middle_get : (xs ys : List Clause) (x : Clause) → slice_get (xs ++ x ∷ ys) (length xs) ≡ Some x
middle_get [] ys x = refl
middle_get (y ∷ xs) ys x = middle_get xs ys x

first_stays : (xs ys : List Clause) (x : Clause) → slice_get xs 0 ≡ Some x → slice_get (xs ++ ys) 0 ≡ Some x
first_stays [] ys x h = absurd (let q : None ≡ Some x = h in cc)
first_stays (y ∷ xs) ys x h = h

module _ (above : Tree → Tree → Type 0) (spec : Spec) (Chosen : List Clause → Clause → Step → Type 0) where
  -- each step is chosen at its node, over the nodes that the steps before it make
  abbrev pub ChosenFrom : List Clause → ℕ → List Step → List Children → Type 0
  ChosenFrom nodes k steps made =
      (i : ℕ) (step : Step) (c : Clause) → slice_get steps i ≡ Some step →
      slice_get (nodes ++ flat_map clauses_of (take i made)) (k + i) ≡ Some c →
      Chosen (nodes ++ flat_map clauses_of (take i made)) c step

  chosen_more : (nodes : List Clause) (k : ℕ) (c : Clause) (step : Step) (steps : List Step) (m : Children)
      (made : List Children) → slice_get nodes k ≡ Some c → Chosen nodes c step →
      ChosenFrom (nodes ++ clauses_of m) (suc k) steps made → ChosenFrom nodes k (step ∷ steps) (m ∷ made)
  chosen_more nodes k c step steps m made at one rest zero s d get here =
      let q : Some step ≡ Some s = get in
      let same : step ≡ s = cc in
      let z : k + 0 ≡ k = omega arith in
      let there : slice_get nodes k ≡ Some d = subst (λ j. slice_get nodes j ≡ Some d) z
      (subst (λ xs. slice_get xs (k + 0) ≡ Some d) (append-nil nodes) here) in
      let p : Some c ≡ Some d = sym at ∙ there in
      let e : c ≡ d = cc in
      subst (λ xs. Chosen xs d s) (sym (append-nil nodes))
      (subst (λ x. Chosen nodes x s) e (subst (λ x. Chosen nodes c x) same one))
  chosen_more nodes k c step steps m made at one rest (suc i) s d get here =
      let a : (nodes ++ clauses_of m) ++ flat_map clauses_of (take i made) ≡ nodes
      ++ (clauses_of m ++ flat_map clauses_of (take i made)) = append_assoc nodes (clauses_of m)
      (flat_map clauses_of (take i made)) in
      let z : k + suc i ≡ suc k + i = omega arith in
      let there = subst (λ j. slice_get ((nodes ++ clauses_of m) ++ flat_map clauses_of (take i made)) j ≡ Some
      d) z (subst (λ xs. slice_get xs (k + suc i) ≡ Some d) (sym a) here) in
      subst (λ xs. Chosen xs d s) a (rest i s d get there)

  module _ (start : Clause) (Closable : Clause → ℕ → Bool → Type 0) (Cheap : Type 0) (cost : Step → ℕ) (rate : ℕ) where
    -- a step closes the node but for children with smaller numbers
    pub record StepAt (nodes : List Clause) (c : Clause) (m : ℕ) (mark : Bool) : Type 1 where
      pub step : Step
      pub made : Children
      pub marks : List (ℕ × Bool)
      pub says : SaysMade above spec nodes c step made
      pub chosen : Chosen nodes c step
      pub fine : IsFine made
      pub marked : mark ≡ true → made.refs ≡ []
      pub closable : AllClosable Closable (clauses_of made) marks
      pub smaller : total marks + 1 ≤ m
      pub cheap : Cheap → cost step + rate * total marks ≤ rate * m

    abbrev pub HasSteps : Type 1
    HasSteps =
        (nodes : List Clause) (c : Clause) (m : ℕ) (mark : Bool) → slice_get nodes 0 ≡ Some start →
        length nodes + m ≤ 10001 → Closable c m mark → StepAt nodes c m mark

    -- the steps of the pending nodes, which come after those that are done
    pub record Rest (done pending : List Clause) (marks : List (ℕ × Bool)) : Type 1 where
      pub steps : List Step
      pub made : List Children
      pub makes : (usable : ℕ → Type 0) → StepsMake above spec usable (done ++ pending) (length done) steps made
      pub chosen : ChosenFrom (done ++ pending) (length done) steps made
      pub fine : AllByRecursion IsFine made
      pub marked : AreMarked marks made
      pub finished : length (done ++ pending) + length (flat_map clauses_of made) ≡ length done + length steps
      pub count : length steps ≤ total marks
      pub costs : Cheap → total_cost cost steps ≤ rate * total marks

    closable_append : (cs ds : List Clause) (ms ns : List (ℕ × Bool)) → AllClosable Closable cs ms →
        AllClosable Closable ds ns → AllClosable Closable (cs ++ ds) (ms ++ ns)
    closable_append [] ds [] ns a b = b
    closable_append [] ds (m ∷ ms) ns a b = absurd a
    closable_append (c ∷ cs) ds [] ns a b = absurd a
    closable_append (c ∷ cs) ds (m ∷ ms) ns a b = (a.0, closable_append cs ds ms ns a.1 b)

    -- there are as many marks as clauses
    pub aligned : (cs : List Clause) (ms : List (ℕ × Bool)) → AllClosable Closable cs ms → length cs ≡ length ms
    aligned [] [] h = refl
    aligned [] (m ∷ ms) h = absurd h
    aligned (c ∷ cs) [] h = absurd h
    aligned (c ∷ cs) (m ∷ ms) h = ap (λ n. suc n) (aligned cs ms h.1)

    module _ (positive : (c : Clause) (m : ℕ) (mark : Bool) → Closable c m mark → 1 ≤ m) (has : HasSteps) where
      counted : (cs : List Clause) (ms : List (ℕ × Bool)) → AllClosable Closable cs ms → length cs ≤ total ms
      counted [] [] h = omega arith
      counted [] (m ∷ ms) h = absurd h
      counted (c ∷ cs) [] h = absurd h
      counted (c ∷ cs) (m ∷ ms) h = omega (arith, positive c m.0 m.1 h.0, counted cs ms h.1)

      next_nodes : (done cs ds : List Clause) (c : Clause) → (done ++ c ∷ cs) ++ ds ≡ (done ++ c ∷ []) ++ (cs ++ ds)
      next_nodes done cs ds c = append_assoc done (c ∷ cs) ds ∙ sym (append_assoc done (c ∷ []) (cs ++ ds))

      one_more : (done : List Clause) (c : Clause) → length (done ++ c ∷ []) ≡ suc (length done)
      one_more done c = omega (arith, length-append done (c ∷ []))

      pub rest : (fuel : ℕ) (done pending : List Clause) (marks : List (ℕ × Bool)) → total marks ≤ fuel →
          slice_get (done ++ pending) 0 ≡ Some start → length done + total marks ≤ 10000 →
          AllClosable Closable pending marks → Rest done pending marks
      rest fuel done [] [] enough first room closable = record {
        steps = [];
        made = [];
        makes = λ usable. tt;
        chosen = λ i s c get here. absurd (let q : None ≡ Some s = get in cc);
        fine = tt;
        marked = tt;
        finished = omega (arith, length-append done []);
        count = omega arith;
        costs = λ z. omega arith;
      }
      rest fuel done [] (m ∷ ms) enough first room closable = absurd closable
      rest fuel done (c ∷ cs) [] enough first room closable = absurd closable
      rest zero done (c ∷ cs) (m ∷ ms) enough first room closable = absurd
          (omega (arith, positive c m.0 m.1 closable.0, enough))
      rest (suc fuel) done (c ∷ cs) (m ∷ ms) enough first room closable =
          let nodes = done ++ c ∷ cs in
          let n = length-append done (c ∷ cs) in
          let k = counted cs ms closable.1 in
          let s = has nodes c m.0 m.1 first (omega (arith, n, k, room)) closable.0 in
          let ds = clauses_of s.made in
          let w = total_append ms s.marks in
          let o = one_more done c in
          let next = next_nodes done cs ds c in
          let r = rest fuel (done ++ c ∷ []) (cs ++ ds) (ms ++ s.marks) (omega (arith, s.smaller, w, enough))
          (subst (λ xs. slice_get xs 0 ≡ Some start) next (first_stays nodes ds start first))
          (omega (arith, s.smaller, w, o, room)) (closable_append cs ds ms s.marks closable.1 s.closable) in
          let here = middle_get done cs c in
          let onward : ChosenFrom (nodes ++ ds) (suc (length done)) r.steps r.made = subst
          (λ j. ChosenFrom (nodes ++ ds) j r.steps r.made) o
          (subst (λ xs. ChosenFrom xs (length (done ++ c ∷ [])) r.steps r.made) (sym next) r.chosen) in
          record {
            steps = s.step ∷ r.steps;
            made = s.made ∷ r.made;
            makes = λ usable. (
              record { clause = c; is = here; says = s.says usable },
              subst (λ j. StepsMake above spec usable (nodes ++ ds) j r.steps r.made) o
                  (subst (λ xs. StepsMake above spec usable xs (length (done ++ c ∷ [])) r.steps r.made)
                  (sym next) (r.makes usable)),
            );
            chosen = chosen_more nodes (length done) c s.step r.steps s.made r.made here s.chosen onward;
            fine = (s.fine, r.fine);
            marked = (s.marked, marked_front ms s.marks r.made r.marked);
            finished = omega (
              arith,
              r.finished,
              o,
              ap (λ (xs : List Clause). length xs) next,
              length-append nodes ds,
              length-append ds (flat_map clauses_of r.made),
            );
            count = omega (arith, r.count, s.smaller, w);
            costs = λ z. omega (arith, r.costs z, s.cheap z, ap (λ x. rate * x) w);
          }
