-- What the steps of a cut block make.
use Rattle.std.proofs.Common.{◌≡◌, ◌≢◌, ℕ, zero, suc, ◌+◌, ◌<◌, List, [], ◌∷◌, ◌++◌, Bool, true, false, take, refl}
use Rattle.std.proofs.Common.{sym, ◌∙◌, ap, subst, arith, length, length-append, append_assoc, map}
use Rattle.std.specs.Prelude.{flat_map, slice_set, cond}
use Rattle.std.specs.List.{AllByRecursion}
use Rattle.std.proofs.lemmas.List.{append-nil}
use Rattle.term_core.specs.Tree.{Tree}
use Rattle.spec_core.specs.declared.records.Spec.{Spec}
use Rattle.clause_core.specs.declared.answers.Child.{Child}
use Rattle.clause_core.specs.declared.answers.Children.{Children}
use Rattle.clause_core.specs.declared.clauses.Clause.{Clause}
use Rattle.clause_core.specs.declared.steps.Step.{Step}
use Rattle.acceptance.specs.Blocks.{clauses_of, StepMakes, StepsMake}
use Rattle.script_trim.specs.Cut.{new_number, renumbered, staying, RefersToStaying}
use Rattle.script_trim.specs.Made.{made_renumbered}
use Rattle.script_trim.proofs.Follows.{says_anew}
use Rattle.script_trim.proofs.Staying.{staying_append, staying_at, staying_fewer, staying_yes, staying_no}
use Rattle.script_trim.proofs.StayingChildren.{AreLocal}

module _ (stays : ℕ → Bool) (above : Tree → Tree → Type 0) (spec : Spec) (usable : ℕ → Type 0) where
  -- what a step makes at a node that stays, it makes there over what stays
  step_anew :
      (nodes : List Clause) (k : ℕ) (step : Step) (m : Children) → StepMakes above spec usable nodes k step m →
      stays k ≡ true → RefersToStaying stays step → StepMakes above spec usable (staying stays 0 nodes)
      (new_number stays k) (renumbered stays step) (made_renumbered stays m)
  step_anew nodes k step m p kept refers = record {
    clause = p.clause;
    is = staying_at stays k nodes p.clause p.is kept;
    says =
        says_anew stays above spec usable p.clause nodes (staying stays 0 nodes) (staying_fewer stays 0 nodes)
        (λ j d e at. staying_at stays j nodes d at e) step refers m p.says;
  }

  -- the nodes that stay of those with the children of one node more
  grown :
      (nodes : List Clause) (cs ds : List Clause) → staying stays (length nodes) cs ≡ ds →
      staying stays 0 (nodes ++ cs) ≡ staying stays 0 nodes ++ ds
  grown nodes cs ds e =
      let z : 0 + length nodes ≡ length nodes = omega arith in
      staying_append stays 0 nodes cs ∙ ap (λ n. staying stays 0 nodes ++ staying stays n cs) z ∙ ap
      (λ xs. staying stays 0 nodes ++ xs) e

  abbrev StepsMakeAnew : List Clause → ℕ → List Step → List Children → Type 0
  StepsMakeAnew nodes k steps made =
      StepsMake above spec usable (staying stays 0 nodes) (new_number stays k)
      (map (renumbered stays) (staying stays k steps)) (map (made_renumbered stays) (staying stays k made))

  abbrev Refer : ℕ → List Step → Type 0
  Refer k steps = AllByRecursion (RefersToStaying stays) (staying stays k steps)

  -- one node more at the front: it stays, and its step makes what stays of its children, or it doesn't
  module _ (nodes : List Clause) (k : ℕ) (cs : List Clause) (step : Step) (steps : List Step) (m : Children)
      (made : List Children) where
    goes_on :
        (b : Bool) → stays k ≡ b → (stays k ≡ true → StepMakes above spec usable nodes k step m ×
        (staying stays (length nodes) cs ≡ clauses_of m)) → (stays k ≡ false → staying stays (length nodes) cs ≡ []) →
        (Refer (suc k) steps → StepsMakeAnew (nodes ++ cs) (suc k) steps made) → Refer k (step ∷ steps) →
        StepsMakeAnew nodes k (step ∷ steps) (m ∷ made)
    goes_on true e yes_so not_so rest refer =
        let refers : AllByRecursion (RefersToStaying stays) (step ∷ staying stays (suc k) steps) =
        subst (λ xs. AllByRecursion (RefersToStaying stays) xs) (staying_yes stays k step steps e) refer in
        let here = yes_so e in
        let one : StepMakes above spec usable (staying stays 0 nodes) (new_number stays k) (renumbered stays step)
        (made_renumbered stays m) = step_anew nodes k step m here.0 e refers.0 in
        let n : new_number stays (suc k) ≡ suc (new_number stays k) =
        ap (λ b. cond b (suc (new_number stays k)) (new_number stays k)) e in
        let g : staying stays 0 (nodes ++ cs) ≡ staying stays 0 nodes ++ clauses_of m =
        grown nodes cs (clauses_of m) here.1 in
        let next : StepsMake above spec usable (staying stays 0 nodes ++ clauses_of m) (suc (new_number stays k))
        (map (renumbered stays) (staying stays (suc k) steps))
        (map (made_renumbered stays) (staying stays (suc k) made)) =
        subst (λ j. StepsMake above spec usable (staying stays 0 nodes ++ clauses_of m) j
        (map (renumbered stays) (staying stays (suc k) steps))
        (map (made_renumbered stays) (staying stays (suc k) made))) n
        (subst (λ ns. StepsMake above spec usable ns (new_number stays (suc k))
        (map (renumbered stays) (staying stays (suc k) steps))
        (map (made_renumbered stays) (staying stays (suc k) made))) g (rest refers.1)) in
        let both : StepsMake above spec usable (staying stays 0 nodes) (new_number stays k)
        (map (renumbered stays) (step ∷ staying stays (suc k) steps))
        (map (made_renumbered stays) (m ∷ staying stays (suc k) made)) = (one, next) in
        subst (λ xs. StepsMake above spec usable (staying stays 0 nodes) (new_number stays k)
        (map (renumbered stays) xs) (map (made_renumbered stays) (staying stays k (m ∷ made))))
        (sym (staying_yes stays k step steps e))
        (subst (λ ys. StepsMake above spec usable (staying stays 0 nodes) (new_number stays k)
        (map (renumbered stays) (step ∷ staying stays (suc k) steps)) (map (made_renumbered stays) ys))
        (sym (staying_yes stays k m made e)) both)
    goes_on false e yes_so not_so rest refer =
        let refers : Refer (suc k) steps = subst (λ xs. AllByRecursion (RefersToStaying stays) xs)
        (staying_no stays k step steps e) refer in
        let n : new_number stays (suc k) ≡ new_number stays k =
        ap (λ b. cond b (suc (new_number stays k)) (new_number stays k)) e in
        let g : staying stays 0 (nodes ++ cs) ≡ staying stays 0 nodes =
        grown nodes cs [] (not_so e) ∙ append-nil (staying stays 0 nodes) in
        let next : StepsMake above spec usable (staying stays 0 nodes) (new_number stays k)
        (map (renumbered stays) (staying stays (suc k) steps))
        (map (made_renumbered stays) (staying stays (suc k) made)) =
        subst (λ j. StepsMake above spec usable (staying stays 0 nodes) j
        (map (renumbered stays) (staying stays (suc k) steps))
        (map (made_renumbered stays) (staying stays (suc k) made))) n
        (subst (λ ns. StepsMake above spec usable ns (new_number stays (suc k))
        (map (renumbered stays) (staying stays (suc k) steps))
        (map (made_renumbered stays) (staying stays (suc k) made))) g (rest refers)) in
        subst (λ xs. StepsMake above spec usable (staying stays 0 nodes) (new_number stays k)
        (map (renumbered stays) xs) (map (made_renumbered stays) (staying stays k (m ∷ made))))
        (sym (staying_no stays k step steps e))
        (subst (λ ys. StepsMake above spec usable (staying stays 0 nodes) (new_number stays k)
        (map (renumbered stays) (staying stays (suc k) steps)) (map (made_renumbered stays) ys))
        (sym (staying_no stays k m made e)) next)

  module _ (i : ℕ) where
    -- after the node that is closed
    pub go_after :
        (nodes : List Clause) (k n : ℕ) (steps : List Step) (made : List Children) → n ≡ length nodes → i < k →
        StepsMake above spec usable nodes k steps made → AreLocal stays i k n made → Refer k steps →
        StepsMakeAnew nodes k steps made
    go_after nodes k n [] [] e l p h refer = tt
    go_after nodes k n [] (m ∷ made) e l p h refer = absurd p
    go_after nodes k n (s ∷ steps) [] e l p h refer = absurd p
    go_after nodes k n (s ∷ steps) (m ∷ made) e l p h refer =
        let other : k ≢ i = λ q. omega (arith, q, l) in
        let more : n + length (clauses_of m) ≡ length (nodes ++ clauses_of m) =
        omega (arith, e, length-append nodes (clauses_of m)) in
        goes_on nodes k (clauses_of m) s steps m made (stays k) refl
        (λ f. (p.0, subst (λ x. staying stays x (clauses_of m) ≡ clauses_of m) e (h.0.all f other)))
        (λ f. subst (λ x. staying stays x (clauses_of m) ≡ []) e (h.0.none f))
        (λ r. go_after (nodes ++ clauses_of m) (suc k) (n + length (clauses_of m)) steps made more (omega (arith, l))
        p.1 h.1 r)
        refer

    -- from the front, if the closing step makes this at node i, and nothing after it
    pub go_before :
        (d : ℕ) (nodes : List Clause) (k n : ℕ) (steps : List Step) (made : List Children) → n ≡ length nodes →
        k + d ≡ i → d < length steps → StepsMake above spec usable nodes k steps made → AreLocal stays i k n made →
        stays i ≡ true
        → (step : Step) (closed : Children) → closed.clauses ≡ [] →
        StepMakes above spec usable (nodes ++ flat_map clauses_of (take d made)) i step closed
        → Refer k (slice_set steps d step) → StepsMakeAnew nodes k (slice_set steps d step) (slice_set made d closed)
    go_before d nodes k n [] [] e z l p h kept step closed none closes refer = absurd (omega (arith, l))
    go_before d nodes k n [] (m ∷ made) e z l p h kept step closed none closes refer = absurd p
    go_before d nodes k n (s ∷ steps) [] e z l p h kept step closed none closes refer = absurd p
    go_before zero nodes k n (s ∷ steps) (m ∷ made) e z l p h kept step closed none closes refer =
        let at : k ≡ i = omega (arith, z) in
        let more : n + length (clauses_of m) ≡ length (nodes ++ clauses_of m) =
        omega (arith, e, length-append nodes (clauses_of m)) in
        let made_here : StepMakes above spec usable nodes k step closed =
        subst (λ j. StepMakes above spec usable nodes j step closed) (sym at)
        (subst (λ ns. StepMakes above spec usable ns i step closed) (append-nil nodes) closes) in
        let gone : staying stays (length nodes) (clauses_of m) ≡ [] =
        subst (λ x. staying stays x (clauses_of m) ≡ []) e (h.0.closed at) in
        let empty : clauses_of closed ≡ [] = ap (λ cs. map (λ (x : Child). x.clause) cs) none in
        goes_on nodes k (clauses_of m) step steps closed made (stays k) refl
        (λ f. (made_here, gone ∙ sym empty))
        (λ f. gone)
        (λ r. go_after (nodes ++ clauses_of m) (suc k) (n + length (clauses_of m)) steps made more (omega (arith, at))
        p.1 h.1 r)
        refer
    go_before (suc d) nodes k n (s ∷ steps) (m ∷ made) e z l p h kept step closed none closes refer =
        let other : k ≢ i = λ q. omega (arith, q, z) in
        let more : n + length (clauses_of m) ≡ length (nodes ++ clauses_of m) =
        omega (arith, e, length-append nodes (clauses_of m)) in
        goes_on nodes k (clauses_of m) s (slice_set steps d step) m (slice_set made d closed) (stays k) refl
        (λ f. (p.0, subst (λ x. staying stays x (clauses_of m) ≡ clauses_of m) e (h.0.all f other)))
        (λ f. subst (λ x. staying stays x (clauses_of m) ≡ []) e (h.0.none f))
        (λ r. go_before d (nodes ++ clauses_of m) (suc k) (n + length (clauses_of m)) steps made more
        (omega (arith, z)) (omega (arith, l)) p.1 h.1 kept step closed none
        (subst (λ ns. StepMakes above spec usable ns i step closed)
        (sym (append_assoc nodes (clauses_of m) (flat_map clauses_of (take d made)))) closes) r)
        refer

  -- and the nodes are those that stay
  module _ (nodes : List Clause) (k : ℕ) (cs : List Clause) (m : Children) (made : List Children) (all : List Clause)
    where
      abbrev made_behind : ℕ → List Children → List Clause
      made_behind j ms = flat_map clauses_of (map (made_renumbered stays) (staying stays j ms))

      nodes_on :
          (b : Bool) → stays k ≡ b → (stays k ≡ true → staying stays (length nodes) cs ≡ clauses_of m) →
          (stays k ≡ false → staying stays (length nodes) cs ≡ []) →
          staying stays 0 (nodes ++ cs) ++ made_behind (suc k) made ≡ all →
          staying stays 0 nodes ++ made_behind k (m ∷ made) ≡ all
      nodes_on true e yes_so not_so rest =
          ap (λ ms. staying stays 0 nodes ++ flat_map clauses_of (map (made_renumbered stays) ms))
          (staying_yes stays k m made e)
          ∙ sym (append_assoc (staying stays 0 nodes) (clauses_of m) (made_behind (suc k) made))
          ∙ ap (λ ns. ns ++ made_behind (suc k) made) (sym (grown nodes cs (clauses_of m) (yes_so e)))
          ∙ rest
      nodes_on false e yes_so not_so rest =
          ap (λ ms. staying stays 0 nodes ++ flat_map clauses_of (map (made_renumbered stays) ms))
          (staying_no stays k m made e)
          ∙ ap (λ ns. ns ++ made_behind (suc k) made) (sym (grown nodes cs [] (not_so e) ∙ append-nil
          (staying stays 0 nodes)))
          ∙ rest

  abbrev behind : ℕ → List Children → List Clause
  behind j ms = flat_map clauses_of (map (made_renumbered stays) (staying stays j ms))

  module _ (i : ℕ) where
    pub nodes_after :
        (nodes : List Clause) (k n : ℕ) (made : List Children) → n ≡ length nodes → i < k →
        AreLocal stays i k n made → staying stays 0 nodes ++ behind k made ≡ staying stays 0
        (nodes ++ flat_map clauses_of made)
    nodes_after nodes k n [] e l h =
        append-nil (staying stays 0 nodes) ∙ ap (λ ns. staying stays 0 ns) (sym (append-nil nodes))
    nodes_after nodes k n (m ∷ made) e l h =
        let other : k ≢ i = λ q. omega (arith, q, l) in
        let more : n + length (clauses_of m) ≡ length (nodes ++ clauses_of m) =
        omega (arith, e, length-append nodes (clauses_of m)) in
        nodes_on nodes k (clauses_of m) m made (staying stays 0 (nodes ++ flat_map clauses_of (m ∷ made))) (stays k)
        refl
        (λ f. subst (λ x. staying stays x (clauses_of m) ≡ clauses_of m) e (h.0.all f other))
        (λ f. subst (λ x. staying stays x (clauses_of m) ≡ []) e (h.0.none f))
        (nodes_after (nodes ++ clauses_of m) (suc k) (n + length (clauses_of m)) made more (omega (arith, l)) h.1
        ∙ ap (λ ns. staying stays 0 ns) (append_assoc nodes (clauses_of m) (flat_map clauses_of made)))

    pub nodes_before :
        (d : ℕ) (nodes : List Clause) (k n : ℕ) (made : List Children) → n ≡ length nodes → k + d ≡ i →
        d < length made → AreLocal stays i k n made → (closed : Children) → closed.clauses ≡ [] →
        staying stays 0 nodes ++ behind k (slice_set made d closed) ≡ staying stays 0
        (nodes ++ flat_map clauses_of made)
    nodes_before d nodes k n [] e z l h closed none = absurd (omega (arith, l))
    nodes_before zero nodes k n (m ∷ made) e z l h closed none =
        let at : k ≡ i = omega (arith, z) in
        let more : n + length (clauses_of m) ≡ length (nodes ++ clauses_of m) =
        omega (arith, e, length-append nodes (clauses_of m)) in
        let gone : staying stays (length nodes) (clauses_of m) ≡ [] =
        subst (λ x. staying stays x (clauses_of m) ≡ []) e (h.0.closed at) in
        let empty : clauses_of closed ≡ [] = ap (λ cs. map (λ (x : Child). x.clause) cs) none in
        nodes_on nodes k (clauses_of m) closed made (staying stays 0 (nodes ++ flat_map clauses_of (m ∷ made)))
        (stays k) refl
        (λ f. gone ∙ sym empty)
        (λ f. gone)
        (nodes_after (nodes ++ clauses_of m) (suc k) (n + length (clauses_of m)) made more (omega (arith, at)) h.1
        ∙ ap (λ ns. staying stays 0 ns) (append_assoc nodes (clauses_of m) (flat_map clauses_of made)))
    nodes_before (suc d) nodes k n (m ∷ made) e z l h closed none =
        let other : k ≢ i = λ q. omega (arith, q, z) in
        let more : n + length (clauses_of m) ≡ length (nodes ++ clauses_of m) =
        omega (arith, e, length-append nodes (clauses_of m)) in
        nodes_on nodes k (clauses_of m) m (slice_set made d closed)
        (staying stays 0 (nodes ++ flat_map clauses_of (m ∷ made))) (stays k) refl
        (λ f. subst (λ x. staying stays x (clauses_of m) ≡ clauses_of m) e (h.0.all f other))
        (λ f. subst (λ x. staying stays x (clauses_of m) ≡ []) e (h.0.none f))
        (nodes_before d (nodes ++ clauses_of m) (suc k) (n + length (clauses_of m)) made more (omega (arith, z))
        (omega (arith, l)) h.1 closed none
        ∙ ap (λ ns. staying stays 0 ns) (append_assoc nodes (clauses_of m) (flat_map clauses_of made)))
