-- The nodes of a block that is being built, of which the next one is taken out. No node is below it,
-- so the ways of the others stay.
use Rattle.std.proofs.Common.{◌≡◌, ℕ, zero, suc, ◌+◌, ◌<◌, List, [], ◌∷◌, ◌++◌, Option, Some, inl, inr, refl, ap}
use Rattle.std.proofs.Common.{sym, ◌∙◌, subst, arith, append_assoc, length}
use Rattle.std.specs.Prelude.{slice_get, remove}
use Rattle.std.specs.List.{zip}
use Rattle.std.proofs.lemmas.List.{append-nil}
use Rattle.std.proofs.lemmas.List.Edits.{length-remove}
use Rattle.clause_core.specs.declared.clauses.Clause.{Clause}
use Rattle.clause_core.specs.declared.steps.Step.{Step}
use Rattle.spec_core.specs.Sig.{Sig}
use Rattle.inference_rules.specs.declared.nodes.Node.{Node as ClauseNode}
use Rattle.inference_rules.specs.Answers.{clauses_of}
use Rattle.inference_rules.specs.Nodes.{AreNodes}
use Rattle.routine_proof.specs.Ways.{Node}
use Rattle.proof_search.specs.declared.building.Building.{Building}
use Rattle.proof_search.specs.Building.{way_below, grown, nodes_in, IsWhole, Passes}
use Rattle.proof_search.proofs.BuiltNodes.{get_within, length_one, node_below, zip_second}
use Rattle.proof_search.proofs.RemovedItems.{removed_before, removed_at, removed_middle, map_removed, zip_removed}

-- each later one is below one of the first nodes
abbrev AreBelow : ℕ → List (ClauseNode × ℕ) → Type 0
AreBelow n ms = (j : ℕ) (m : ClauseNode × ℕ) → slice_get ms j ≡ Some m → m.1 < n

-- the nodes that are added, if one after the first nodes is left out
grown_without :
    (steps : List Step) (nodes others : List Node) (w : Node) (ms : List (ClauseNode × ℕ)) →
    AreBelow (length nodes) ms →
    grown steps (nodes ++ others) ms ≡ remove (grown steps (nodes ++ w ∷ others) ms) (length nodes)
grown_without steps nodes others w [] below = removed_middle nodes others w
grown_without steps nodes others w (m ∷ ms) below =
    let lt : m.1 < length nodes = below 0 m refl in
    let new = λ (o : Option Node). let made : Node = record {
      clause = m.0.clause;
      way = way_below m.1 o (slice_get steps m.1);
    } in made in
    let v : Node = new (slice_get nodes m.1) in
    let short : slice_get (nodes ++ others) m.1 ≡ slice_get nodes m.1 = get_within nodes others m.1 lt in
    let long : slice_get (nodes ++ w ∷ others) m.1 ≡ slice_get nodes m.1 =
    get_within nodes (w ∷ others) m.1 lt in
    ap (λ (o : Option Node). grown steps ((nodes ++ others) ++ new o ∷ []) ms) short
    ∙ ap (λ (ns : List Node). grown steps ns ms) (append_assoc nodes others (v ∷ []))
    ∙ grown_without steps nodes (others ++ v ∷ []) w ms (λ j n at. below (suc j) n at)
    ∙ ap (λ (ns : List Node). remove (grown steps ns ms) (length nodes))
    (sym (append_assoc nodes (w ∷ others) (v ∷ [])))
    ∙ ap
    (λ (o : Option Node). remove (grown steps ((nodes ++ w ∷ others) ++ new o ∷ []) ms) (length nodes))
    (sym long)

grown_removed :
    (steps : List Step) (nodes : List Node) (ms : List (ClauseNode × ℕ)) (k : ℕ) → k < length ms →
    ((j : ℕ) (m : ClauseNode × ℕ) → k < j → slice_get ms j ≡ Some m → m.1 < length nodes + k) →
    grown steps nodes (remove ms k) ≡ remove (grown steps nodes ms) (length nodes + k)
grown_removed steps nodes [] k lt below = absurd (omega (arith, lt))
grown_removed steps nodes (m ∷ ms) zero lt below =
    let z : length nodes + 0 ≡ length nodes = omega arith in
    let w : Node = node_below steps nodes m in
    let later : AreBelow (length nodes) ms =
    λ j n at. subst (λ l. n.1 < l) z (below (suc j) n (omega arith) at) in
    ap (λ (ns : List Node). grown steps ns ms) (sym (append-nil nodes))
    ∙ grown_without steps nodes [] w ms later
    ∙ ap (λ l. remove (grown steps (nodes ++ w ∷ []) ms) l) (sym z)
grown_removed steps nodes (m ∷ ms) (suc k) lt below =
    let w : Node = node_below steps nodes m in
    let long : length (nodes ++ w ∷ []) + k ≡ length nodes + suc k =
    omega (arith, length_one nodes w) in
    grown_removed steps (nodes ++ w ∷ []) ms k (omega (arith, lt))
    (λ j n more at. subst (λ l. n.1 < l) (sym long) (below (suc j) n (omega (arith, more)) at))
    ∙ ap (λ l. remove (grown steps (nodes ++ w ∷ []) ms) l) long

-- clauses of nodes without one of them
nodes_removed :
    (sig : Sig) (cs : List Clause) (i : ℕ) → AreNodes sig cs → AreNodes sig (remove cs i)
nodes_removed sig cs i are j d at =
    elim (removed_at cs i j d at) [ inl h ↦ are j d h.0 | inr h ↦ are (suc j) d h.0 ]

module _
    (old new : Building) (clause : Clause) (passed : Passes old new clause) (whole : IsWhole old)
    (lt : length old.steps.items < length old.block.nodes.items)
  where
    abbrev next : ℕ
    next = length old.steps.items

    clauses_are : clauses_of new.block.nodes.items ≡ remove (clauses_of old.block.nodes.items) next
    clauses_are =
        ap clauses_of passed.nodes
        ∙ map_removed (λ (n : ClauseNode). n.clause) old.block.nodes.items next

    pub passes_whole : IsWhole new
    passes_whole = record {
      paired =
          let ps = ap length passed.parents in
          let ds = ap length passed.nodes in
          let p = length-remove old.parents.items next (omega (arith, lt, whole.paired)) in
          let d = length-remove old.block.nodes.items next lt in
          omega (arith, ps, ds, p, d, whole.paired);
      parents = λ k p at.
          let same : length new.steps.items ≡ next = ap length passed.steps in
          elim (removed_at old.parents.items next (suc k) p
          (subst (λ (ps : List ℕ). slice_get ps (suc k) ≡ Some p) passed.parents at)) [
            | inl h ↦ let low = whole.parents k p h.0 in (low.0, omega (arith, low.1, same))
            | inr h ↦
                let low = whole.parents (suc k) p h.0 in
                (omega (arith, low.1, h.1), omega (arith, low.1, same))
          ];
      leadings = passed.leadings;
    }

    pub passes_nodes : nodes_in new ≡ remove (nodes_in old) next
    passes_nodes =
        let pairs = zip old.block.nodes.items old.parents.items in
        let z : 0 + next ≡ next = omega arith in
        let below : (j : ℕ) (m : ClauseNode × ℕ) → next < j → slice_get pairs j ≡ Some m → m.1 < 0 + next =
        λ j m. later j m in
        (λ i. grown (passed.steps i) [] (zip (passed.nodes i) (passed.parents i)))
        ∙ ap (λ (ms : List (ClauseNode × ℕ)). grown old.steps.items [] ms)
        (zip_removed old.block.nodes.items old.parents.items next whole.paired)
        ∙ grown_removed old.steps.items [] pairs next long below
        ∙ ap (λ l. remove (nodes_in old) l) z
      where
        long : next < length (zip old.block.nodes.items old.parents.items)
        long = zip_long old.block.nodes.items old.parents.items next lt (omega (arith, lt, whole.paired))
          where
            zip_long :
                {X Y : Type 0} (xs : List X) (ys : List Y) (k : ℕ) → k < length xs → k < length ys →
                k < length (zip xs ys)
            zip_long [] ys k h j = absurd (omega (arith, h))
            zip_long (x ∷ xs) [] k h j = absurd (omega (arith, j))
            zip_long (x ∷ xs) (y ∷ ys) zero h j = omega arith
            zip_long (x ∷ xs) (y ∷ ys) (suc k) h j =
                let e = zip_long xs ys k (omega (arith, h)) (omega (arith, j)) in
                omega (arith, e)

        later :
            (j : ℕ) (m : ClauseNode × ℕ) → next < j →
            slice_get (zip old.block.nodes.items old.parents.items) j ≡ Some m → m.1 < 0 + next
        later zero m more at = absurd (omega (arith, more))
        later (suc j) m more at =
            let low =
            whole.parents j m.1 (zip_second old.block.nodes.items old.parents.items (suc j) m at) in
            omega (arith, low.1)

    pub passes_are : (sig : Sig) → AreNodes sig (clauses_of old.block.nodes.items) →
        AreNodes sig (clauses_of new.block.nodes.items)
    passes_are sig are =
        subst (AreNodes sig) (sym clauses_are)
        (nodes_removed sig (clauses_of old.block.nodes.items) next are)

    -- the first node stays, unless it is the next one
    pub passes_first :
        (goal : Clause) → 0 < length old.steps.items →
        slice_get (clauses_of old.block.nodes.items) 0 ≡ Some goal →
        slice_get (clauses_of new.block.nodes.items) 0 ≡ Some goal
    passes_first goal later first =
        ap (λ (cs : List Clause). slice_get cs 0) clauses_are
        ∙ removed_before (clauses_of old.block.nodes.items) next 0 later ∙ first
