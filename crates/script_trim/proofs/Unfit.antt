-- Clauses that can't close a node as they are: those whose keys don't agree, and nodes that aren't made yet.
use Rattle.std.proofs.Common.{◌≡◌, ◌⊎◌, ℕ, zero, suc, ◌+◌, ◌≤◌, List, [], ◌∷◌, ◌++◌, Option, Some, None, Ok}
use Rattle.std.proofs.Common.{Err, inl}
use Rattle.std.proofs.Common.{inr, refl, sym, ◌∙◌, ap, subst, arith, length, map, take, drop}
use Rattle.std.specs.Prelude.{slice_get, Contains, Result}
use Rattle.std.specs.List.{AllByRecursion}
use Rattle.std.proofs.lemmas.List.{append-nil, take-append-drop}
use Rattle.std.proofs.lemmas.Option.{slice_get_within}
use Rattle.term_core.specs.Tree.{Tree}
use Rattle.spec_core.specs.declared.records.Equation.{Equation}
use Rattle.spec_core.specs.declared.records.Goal.{Goal}
use Rattle.spec_core.specs.declared.records.Spec.{Spec}
use Rattle.clause_core.specs.declared.clauses.Clause.{Clause}
use Rattle.clause_core.specs.declared.answers.Children.{Children}
use Rattle.clause_core.specs.declared.answers.Why.{Why}
use Rattle.clause_core.specs.declared.steps.Step.{Step}
use Rattle.clause_core.specs.declared.steps.Step.TheVariants.{Subsume}
use Rattle.clause_core.specs.Equations.{Among, IsIdentity}
use Rattle.clause_core.specs.Referred.{instance_here}
use Rattle.clause_core.specs.Says.{Says}
use Rattle.clause_core.specs.Steps.{row_of}
use Rattle.clause_core.specs.Subsuming.{Subsumes, subsumed_by, subsume_row, by_lemma_row}
use Rattle.clause_core.specs.Tidied.{goal_clause}
use Rattle.inference_rules.specs.Answers.{clauses_of}
use Rattle.script_trim.specs.declared.blocks.Fit.{Fit}
use Rattle.script_trim.specs.declared.fitting.Spot.{Spot}
use Rattle.script_trim.specs.Closing.{own_variables, subsume_each, by_whole_lemma}
use Rattle.script_trim.specs.Fitting.{AreDefined, none, left_out}
use Rattle.script_trim.specs.Keys.{equation_key, key_of, MayClose}
use Rattle.script_trim.specs.Trying.{IsSpot, MakesThere, Adds}
use Rattle.script_trim.proofs.Adding.{adds_then}
use Rattle.script_trim.proofs.EquationKeys.{keys_agree}
use Rattle.script_trim.proofs.OwnVariables.{premises_stay, conclusions_stay}

pub same_item : {X : Type 0} (o : Option X) (x y : X) → o ≡ Some x → o ≡ Some y → x ≡ y
same_item o x y p q = let e : Some x ≡ Some y = sym p ∙ q in cc

pub not_both : {X : Type 0} (made : Children) (why : Why) → ◌≡◌ {A = Result Children Why} (Ok made) (Err why) → X
not_both made why e = absurd (cc)

-- what is made is made by an instance that subsumes
subsumed : (above : Tree → Tree → Type 0) (spec : Spec) (c : Clause) (nodes : List Clause) (d : Clause)
    (terms : List Tree) (refs : Clause → List (ℕ × Clause)) (made : Children) →
    Says above c nodes (subsumed_by spec c d terms refs) (Ok made) → Subsumes c (instance_here spec c d terms)
subsumed above spec c nodes d terms refs made (inl (sorted, inl (within, inl (fits, rest)))) = fits
subsumed above spec c nodes d terms refs made (inl (sorted, inl (within, inr (isnt, e)))) = not_both made _ e
subsumed above spec c nodes d terms refs made (inl (sorted, inr (isnt, e))) = not_both made _ e
subsumed above spec c nodes d terms refs made (inr (isnt, e)) = not_both made _ e

-- a clause that closes the node as it is says no less
closes_by : (above : Tree → Tree → Type 0) (spec : Spec) (c : Clause) (nodes : List Clause) (d : Clause)
    (refs : Clause → List (ℕ × Clause)) (made : Children) →
    Says above c nodes (subsumed_by spec c d (own_variables d) refs) (Ok made) → Subsumes c d
closes_by above spec c nodes d refs made says =
    let by : Subsumes c (instance_here spec c d (own_variables d)) =
    subsumed above spec c nodes d (own_variables d) refs made says in (
      subst (λ es. AllByRecursion (λ (e : Equation). Among e c.premises ⊎ IsIdentity e) es)
          (premises_stay d c.ctx) by.0,
      subst (λ es. AllByRecursion (λ (e : Equation). Among e c.conclusions) es)
          (conclusions_stay d c.ctx) by.1,
    )

module _ (above : Tree → Tree → Type 0) (spot : Spot) (is : IsSpot spot) where
  pub says_here : (step : Step) (made : Children) → MakesThere above spot step made →
      Says above spot.here.now (clauses_of spot.nodes.now) (row_of spot.spec.now (Contains spot.proved.now)
      (clauses_of spot.nodes.now) spot.here.now step) (Ok made)
  says_here step made makes =
      subst (λ (c : Clause). Says above c (clauses_of spot.nodes.now)
      (row_of spot.spec.now (Contains spot.proved.now) (clauses_of spot.nodes.now) c step) (Ok made))
      (same_item (slice_get (clauses_of spot.nodes.now) spot.number) makes.clause spot.here.now makes.is is.here)
      makes.says

  by_node : (k : ℕ) (d : Clause) (made : Children) → slice_get (clauses_of spot.nodes.now) k ≡ Some d →
      Says above spot.here.now (clauses_of spot.nodes.now) (subsume_row spot.spec.now spot.here.now
      (clauses_of spot.nodes.now) k (own_variables d)) (Ok made) → Subsumes spot.here.now d
  by_node k d made at (inl (node, rest)) =
      closes_by above spot.spec.now spot.here.now (clauses_of spot.nodes.now) d (λ instance. (k, instance) ∷ [])
      made
      (subst (λ (x : Clause). Says above spot.here.now (clauses_of spot.nodes.now)
      (subsumed_by spot.spec.now spot.here.now x (own_variables d) (λ instance. (k, instance) ∷ [])) (Ok made))
      (same_item (slice_get (clauses_of spot.nodes.now) k) node.clause d node.is at) rest)
  by_node k d made at (inr (isnt, e)) = not_both made _ e

  -- a node that closes this one as it is says no less, and has a key that agrees
  pub node_subsumes : (k : ℕ) (d : Clause) (made : Children) → slice_get (clauses_of spot.nodes.now) k ≡ Some d →
      MakesThere above spot (Subsume k (own_variables d)) made → Subsumes spot.here.now d
  node_subsumes k d made at makes = by_node k d made at (says_here (Subsume k (own_variables d)) made makes)

  pub node_agrees : (k : ℕ) (d : Clause) (made : Children) → slice_get (clauses_of spot.nodes.now) k ≡ Some d →
      MakesThere above spot (Subsume k (own_variables d)) made →
      MayClose (map equation_key spot.here.now.conclusions) (key_of d)
  node_agrees k d made at makes = keys_agree d spot.here.now (node_subsumes k d made at makes).1

  by_goal : (k : ℕ) (goal : Goal) (made : Children) → slice_get spot.spec.now.goals k ≡ Some goal →
      Says above spot.here.now (clauses_of spot.nodes.now) (by_lemma_row spot.spec.now spot.here.now
      (Contains spot.proved.now) goal.name (own_variables (goal_clause goal))) (Ok made) →
      Subsumes spot.here.now (goal_clause goal)
  by_goal k goal made at (inl (lemma, rest)) =
      let number : lemma.number ≡ k = is.fine.names lemma.number k lemma.goal goal lemma.is at lemma.named in
      let same : lemma.goal ≡ goal = same_item (slice_get spot.spec.now.goals k) lemma.goal goal
      (subst (λ n. slice_get spot.spec.now.goals n ≡ Some lemma.goal) number lemma.is) at in
      closes_by above spot.spec.now spot.here.now (clauses_of spot.nodes.now) (goal_clause goal) (λ instance. [])
      made
      (subst (λ (g : Goal). Says above spot.here.now (clauses_of spot.nodes.now)
      (subsumed_by spot.spec.now spot.here.now (goal_clause g) (own_variables (goal_clause goal))
      (λ instance. [])) (Ok made)) same rest)
  by_goal k goal made at (inr (isnt, e)) = not_both made _ e

  -- and so has a goal
  pub goal_subsumes : (k : ℕ) (goal : Goal) (made : Children) → slice_get spot.spec.now.goals k ≡ Some goal →
      MakesThere above spot (by_whole_lemma goal) made → Subsumes spot.here.now (goal_clause goal)
  goal_subsumes k goal made at makes = by_goal k goal made at (says_here (by_whole_lemma goal) made makes)

  pub goal_agrees : (k : ℕ) (goal : Goal) (made : Children) → slice_get spot.spec.now.goals k ≡ Some goal →
      MakesThere above spot (by_whole_lemma goal) made → MayClose (map equation_key spot.here.now.conclusions)
      (key_of (goal_clause goal))
  goal_agrees k goal made at makes =
      keys_agree (goal_clause goal) spot.here.now (goal_subsumes k goal made at makes).1

module _ (above : Tree → Tree → Type 0) (spec : Spec) (usable : ℕ → Type 0) (nodes : List Clause) (i : ℕ) where
  isnt_made : (c : Clause) (k : ℕ) (terms : List Tree) (made : Children) → length nodes ≤ k →
      Says above c nodes (subsume_row spec c nodes k terms) (Ok made) → ⊥
  isnt_made c k terms made le (inl (node, rest)) = absurd (omega
      (arith, le, slice_get_within nodes k node.clause node.is))
  isnt_made c k terms made le (inr (isnt, e)) = not_both made _ e

  -- nodes that aren't made yet close none
  later_nodes : (k : ℕ) (later : List Clause) → length nodes ≤ k →
      AreDefined above spec usable nodes i (subsume_each k later) []
  later_nodes k [] le = none
  later_nodes k (d ∷ later) le =
      left_out (λ made makes. absurd (isnt_made makes.clause k (own_variables d) made le makes.says))
      (later_nodes (suc k) later (omega (arith, le)))

each_joined : (k : ℕ) (ds es : List Clause) → subsume_each k (ds ++ es) ≡ subsume_each k ds ++ subsume_each
    (k + length ds) es
each_joined k [] es = ap (λ n. subsume_each n es) (let e : k ≡ k + 0 = omega arith in e)
each_joined k (d ∷ ds) es = ap (λ ss. Subsume k (own_variables d) ∷ ss)
    (each_joined (suc k) ds es ∙ ap (λ n. subsume_each (suc k) ds ++ subsume_each n es)
    (let e : suc k + length ds ≡ k + suc (length ds) = omega arith in e))

module _ (above : Tree → Tree → Type 0) (spot : Spot) where
  none_later : (later : List Clause) (fits : List Fit) → Adds above spot
      (subsume_each (length (clauses_of spot.nodes.now)) later) fits fits
  none_later later fits = record {
    more = [];
    is = sym (append-nil fits);
    defined = later_nodes above spot.spec.now (Contains spot.proved.now) (clauses_of spot.nodes.now) spot.number
        (length (clauses_of spot.nodes.now)) later (omega arith);
  }

  -- so that those that are made are enough
  pub made_are_enough : (all : List Clause) (before : ℕ) (old new : List Fit) →
      take before all ≡ clauses_of spot.nodes.now → Adds above spot (subsume_each 0 (clauses_of spot.nodes.now)) old
      new → Adds above spot (subsume_each 0 all) old new
  made_are_enough all before old new is p =
      let nodes : List Clause = clauses_of spot.nodes.now in
      let later : List Clause = drop before all in
      let whole : subsume_each 0 all ≡ subsume_each 0 nodes ++ subsume_each (length nodes) later =
      ap (λ cs. subsume_each 0 cs) (sym (take-append-drop before all)) ∙ ap (λ cs. subsume_each 0 (cs ++ later)) is
      ∙ each_joined 0 nodes later ∙ ap (λ n. subsume_each 0 nodes ++ subsume_each n later)
      (let e : 0 + length nodes ≡ length nodes = omega arith in e) in
      subst (λ ss. Adds above spot ss old new) (sym whole) (adds_then above spot (subsume_each 0 nodes)
      (subsume_each (length nodes) later) old new new p (none_later later new))

-- the step of the node with this number
pub node_step : (nodes : List Clause) (k : ℕ) (c : Clause) → slice_get nodes k ≡ Some c →
    slice_get (subsume_each 0 nodes) k ≡ Some (Subsume k (own_variables c))
node_step nodes k c at = from 0 nodes k at ∙ ap (λ n. Some (Subsume n (own_variables c)))
    (let e : 0 + k ≡ k = omega arith in e)
  where
    from : (first : ℕ) (cs : List Clause) (j : ℕ) → slice_get cs j ≡ Some c →
        slice_get (subsume_each first cs) j ≡ Some (Subsume (first + j) (own_variables c))
    from first [] j at = absurd (let q : None ≡ Some c = at in cc)
    from first (d ∷ cs) zero at =
        let q : Some d ≡ Some c = at in
        let e : d ≡ c = cc in
        let n : first ≡ first + 0 = omega arith in
        ap (λ (x : Clause). Some (Subsume first (own_variables x))) e
        ∙ ap (λ n. Some (Subsume n (own_variables c))) n
    from first (d ∷ cs) (suc j) at = from (suc first) cs j at ∙ ap (λ n. Some (Subsume n (own_variables c)))
        (let n : suc first + j ≡ first + suc j = omega arith in n)

-- as many steps as nodes
pub each_long : (k : ℕ) (nodes : List Clause) → length (subsume_each k nodes) ≡ length nodes
each_long k [] = refl
each_long k (c ∷ nodes) = omega (arith, each_long (suc k) nodes)
