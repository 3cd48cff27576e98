-- Nodes and goals that are tried one after the other, and what all closing steps come to.
use Rattle.std.proofs.Common.{◌≡◌, ℕ, zero, suc, ◌+◌, ◌<◌, ◌≤◌, List, [], ◌∷◌, ◌++◌, Bool, true, false}
use Rattle.std.proofs.Common.{Option, Some}
use Rattle.std.proofs.Common.{None, refl, sym, ◌∙◌, ap, subst, arith, length, map, take, get_or}
use Rattle.std.specs.Prelude.{◌↔◌, IsTrue, slice_get, Contains}
use Rattle.std.proofs.lemmas.List.{length-map, take-map, length-take-le}
use Rattle.std.proofs.lemmas.Option.{slice_get-map, slice_get-get_or, slice_get_read}
use Rattle.std.specs.Option.{option_map}
use Rattle.term_core.specs.Tree.{Tree}
use Rattle.spec_core.specs.Sig.{Sig}
use Rattle.spec_core.specs.declared.records.Goal.{Goal}
use Rattle.spec_core.specs.declared.records.Spec.{Spec}
use Rattle.clause_core.specs.declared.clauses.Clause.{Clause}
use Rattle.clause_core.specs.declared.steps.Step.{Step}
use Rattle.clause_core.specs.declared.steps.Step.TheVariants.{Subsume}
use Rattle.clause_core.specs.Subsuming.{Subsumes}
use Rattle.clause_core.specs.Tidied.{goal_clause}
use Rattle.inference_rules.specs.declared.nodes.Node.{Node}
use Rattle.inference_rules.specs.Answers.{clauses_of}
use Rattle.inference_rules.specs.Nodes.{AreNodes}
use Rattle.script_trim.specs.declared.blocks.Fit.{Fit}
use Rattle.script_trim.specs.declared.fitting.Spot.{Spot}
use Rattle.script_trim.specs.declared.lemmas.LemmaClause.{LemmaClause}
use Rattle.script_trim.specs.Closing.{trivials, matches, absurds, own_variables, subsume_each, by_whole_lemma}
use Rattle.script_trim.specs.Closing.{by_each_lemma}
use Rattle.script_trim.specs.Fitting.{own_steps, other_steps, AreDefined, AreFitting}
use Rattle.script_trim.specs.Keys.{equation_key, key_of, MayClose}
use Rattle.script_trim.specs.Sharing.{IsAlone}
use Rattle.script_trim.specs.Trying.{lemma_clause, IsSpot, Adds, AreFits}
use Rattle.script_trim.proofs.Adding.{adds_then, adds_nothing, adds_next}
use Rattle.script_trim.proofs.Unfit.{node_agrees, node_subsumes, goal_agrees, goal_subsumes}
use Rattle.script_trim.proofs.Unfit.{made_are_enough, node_step}
use Rattle.script_trim.proofs.Whole.{key_there, lemma_there, item_there}

differs : (answer : Bool) → answer ≡ false → IsTrue answer → ⊥
differs answer e y = let q : answer ≡ true = y in absurd (cc)

-- as many keys as nodes, and lemmas as goals
pub as_many_keys : (keys : List (Option ℕ)) (nodes : List Clause) → keys ≡ map key_of nodes →
    length keys ≡ length nodes
as_many_keys keys nodes are = ap (λ (ks : List (Option ℕ)). length ks) are ∙ length-map nodes key_of

pub as_many_lemmas : (lemmas : List LemmaClause) (goals : List Goal) → lemmas ≡ map lemma_clause goals →
    length lemmas ≡ length goals
as_many_lemmas lemmas goals are = ap (λ (ls : List LemmaClause). length ls) are ∙ length-map goals lemma_clause

goal_step : (goals : List Goal) (k : ℕ) (goal : Goal) → slice_get goals k ≡ Some goal →
    slice_get (by_each_lemma goals) k ≡ Some (by_whole_lemma goal)
goal_step goals k goal at = slice_get-map by_whole_lemma goals k ∙ ap (λ o. option_map by_whole_lemma o) at

module _ (above : Tree → Tree → Type 0) (spot : Spot) (is : IsSpot spot) (wanted : List ℕ)
    (keys_are : wanted ≡ map equation_key spot.here.now.conclusions) where
  -- a node whose key doesn't agree is passed over
  pub skip_node : (keys : List (Option ℕ)) (k : ℕ) (default : Option ℕ) (answer : Bool) (old new : List Fit) →
      keys ≡ map key_of (clauses_of spot.nodes.now) → k < length keys →
      IsTrue answer ↔ MayClose wanted (get_or keys k default) → answer ≡ false →
      Adds above spot (take k (subsume_each 0 (clauses_of spot.nodes.now))) old new →
      Adds above spot (take (k + 1) (subsume_each 0 (clauses_of spot.nodes.now))) old new
  skip_node keys k default answer old new are lt tells says before =
      let nodes : List Clause = clauses_of spot.nodes.now in
      let node : (d : Clause) × (slice_get nodes k ≡ Some d) = item_there nodes k
      (omega (arith, lt, as_many_keys keys nodes are)) in
      let own : get_or keys k default ≡ key_of node.0 = key_there keys nodes k node.0 (get_or keys k default) are
      node.1 (slice_get-get_or keys k default lt) in
      adds_next above spot (subsume_each 0 nodes) k (Subsume k (own_variables node.0)) old new new
      (node_step nodes k node.0 node.1) before
      (adds_nothing above spot (Subsume k (own_variables node.0)) new
      (λ made makes. differs answer says (tells.1 (subst (λ o. MayClose wanted o) (sym own)
      (subst (λ ks. MayClose ks (key_of node.0)) (sym keys_are)
      (node_agrees above spot is k node.0 made node.1 makes))))))

  -- and so is a goal
  pub skip_goal : (lemmas : List LemmaClause) (k : ℕ) (lemma : LemmaClause) (answer : Bool) (old new : List Fit) →
      lemmas ≡ map lemma_clause spot.spec.now.goals → k < length lemmas → lemma ≡ get_or lemmas k lemma →
      IsTrue answer ↔ MayClose wanted lemma.key → answer ≡ false →
      Adds above spot (take k (by_each_lemma spot.spec.now.goals)) old new →
      Adds above spot (take (k + 1) (by_each_lemma spot.spec.now.goals)) old new
  skip_goal lemmas k lemma answer old new are lt read tells says before =
      let goals : List Goal = spot.spec.now.goals in
      let goal : (g : Goal) × (slice_get goals k ≡ Some g) = item_there goals k
      (omega (arith, lt, as_many_lemmas lemmas goals are)) in
      let own : lemma.key ≡ key_of (goal_clause goal.0) = ap (λ (l : LemmaClause). l.key)
      (lemma_there lemmas goals k goal.0 lemma are goal.1 (slice_get_read lemmas (length lemmas) k lemma refl lt
      read)) in
      adds_next above spot (by_each_lemma goals) k (by_whole_lemma goal.0) old new new
      (goal_step goals k goal.0 goal.1) before
      (adds_nothing above spot (by_whole_lemma goal.0) new
      (λ made makes. differs answer says (tells.1 (subst (λ o. MayClose wanted o) (sym own)
      (subst (λ ks. MayClose ks (key_of (goal_clause goal.0))) (sym keys_are)
      (goal_agrees above spot is k goal.0 made goal.1 makes))))))

module _ (above : Tree → Tree → Type 0) (spot : Spot) (is : IsSpot spot) where
  -- what doesn't say as much as the node's clause adds nothing
  pub less_node : (k : ℕ) (d c : Clause) (answer : Bool) (fits : List Fit) → c ≡ d →
      IsTrue answer ↔ Subsumes spot.here.now c → answer ≡ false → slice_get (clauses_of spot.nodes.now) k ≡ Some d →
      Adds above spot (Subsume k (own_variables d) ∷ []) fits fits
  less_node k d c answer fits e tells says at =
      adds_nothing above spot (Subsume k (own_variables d)) fits
      (λ made makes. differs answer says (tells.1 (subst (λ (x : Clause). Subsumes spot.here.now x) (sym e)
      (node_subsumes above spot is k d made at makes))))

  pub less_goal : (k : ℕ) (goal : Goal) (c : Clause) (answer : Bool) (fits : List Fit) → c ≡ goal_clause goal →
      IsTrue answer ↔ Subsumes spot.here.now c → answer ≡ false → slice_get spot.spec.now.goals k ≡ Some goal →
      Adds above spot (by_whole_lemma goal ∷ []) fits fits
  less_goal k goal c answer fits e tells says at =
      adds_nothing above spot (by_whole_lemma goal) fits
      (λ made makes. differs answer says (tells.1 (subst (λ (x : Clause). Subsumes spot.here.now x) (sym e)
      (goal_subsumes above spot is k goal made at makes))))

module _ (above : Tree → Tree → Type 0) (spot : Spot) where
  -- a node or goal that is tried
  pub take_node : (k : ℕ) (old mid new : List Fit) → k < length (clauses_of spot.nodes.now) →
      Adds above spot (take k (subsume_each 0 (clauses_of spot.nodes.now))) old mid →
      ((d : Clause) → slice_get (clauses_of spot.nodes.now) k ≡ Some d →
      Adds above spot (Subsume k (own_variables d) ∷ []) mid new) →
      Adds above spot (take (k + 1) (subsume_each 0 (clauses_of spot.nodes.now))) old new
  take_node k old mid new lt before here =
      let nodes : List Clause = clauses_of spot.nodes.now in
      let node : (d : Clause) × (slice_get nodes k ≡ Some d) = item_there nodes k lt in
      adds_next above spot (subsume_each 0 nodes) k (Subsume k (own_variables node.0)) old mid new
      (node_step nodes k node.0 node.1) before (here node.0 node.1)

  pub take_goal : (k : ℕ) (old mid new : List Fit) → k < length spot.spec.now.goals →
      Adds above spot (take k (by_each_lemma spot.spec.now.goals)) old mid →
      ((g : Goal) → slice_get spot.spec.now.goals k ≡ Some g → Adds above spot (by_whole_lemma g ∷ []) mid new) →
      Adds above spot (take (k + 1) (by_each_lemma spot.spec.now.goals)) old new
  take_goal k old mid new lt before here =
      let goals : List Goal = spot.spec.now.goals in
      let goal : (g : Goal) × (slice_get goals k ≡ Some g) = item_there goals k lt in
      adds_next above spot (by_each_lemma goals) k (by_whole_lemma goal.0) old mid new
      (goal_step goals k goal.0 goal.1) before (here goal.0 goal.1)

  -- those that are added to none are all
  all_more : (steps : List Step) (a fits : List Fit) → a ≡ [] → Adds above spot steps a fits →
      AreDefined above spot.spec.now (Contains spot.proved.now) (clauses_of spot.nodes.now) spot.number steps fits
  all_more steps a fits empty whole =
      let more : fits ≡ whole.more = whole.is ∙ ap (λ fs. fs ++ whole.more) empty in
      subst (λ fs. AreDefined above spot.spec.now (Contains spot.proved.now) (clauses_of spot.nodes.now) spot.number
      steps fs) (sym more) whole.defined

  -- kinds one after the other
  pub own_tried : (a b c fits : List Fit) → a ≡ [] → Adds above spot (trivials spot.here.now) a b →
      Adds above spot (matches spot.here.now) b c → Adds above spot (absurds spot.here.now) c fits →
      AreFits above spot own_steps fits
  own_tried a b c fits empty ts ms os all is =
      let here : Clause = spot.here.now in
      let whole : Adds above spot (own_steps spot.spec.now all here) a fits =
      adds_then above spot (trivials here) (matches here ++ absurds here) a b fits ts
      (adds_then above spot (matches here) (absurds here) b c fits ms os) in
      all_more (own_steps spot.spec.now all here) a fits empty whole

  pub others_tried : (a b fits : List Fit) → a ≡ [] →
      Adds above spot (subsume_each 0 (clauses_of spot.nodes.now)) a b →
      Adds above spot (by_each_lemma spot.spec.now.goals) b fits → AreFits above spot other_steps fits
  others_tried a b fits empty ss ls all is =
      let lemmas : List Step = by_each_lemma spot.spec.now.goals in
      let each : List Step = subsume_each 0 all in
      let whole : Adds above spot (other_steps spot.spec.now all spot.here.now) a fits =
      adds_then above spot each lemmas a b fits
      (made_are_enough above spot all (length (clauses_of spot.nodes.now)) a b is ss) ls in
      all_more (other_steps spot.spec.now all spot.here.now) a fits empty whole

get_taken : {X : Type 0} (xs : List X) (n i : ℕ) → i < n → slice_get (take n xs) i ≡ slice_get xs i
get_taken xs zero i lt = absurd (omega arith)
get_taken [] (suc n) i lt = refl
get_taken (x ∷ xs) (suc n) zero lt = refl
get_taken (x ∷ xs) (suc n) (suc i) lt = get_taken xs n i (omega arith)

pub got_taken : {X : Type 0} (xs : List X) (n i : ℕ) (x : X) → slice_get (take n xs) i ≡ Some x →
    slice_get xs i ≡ Some x
got_taken xs zero i x at = absurd (let q : None ≡ Some x = at in cc)
got_taken [] (suc n) i x at = at
got_taken (y ∷ xs) (suc n) zero x at = at
got_taken (y ∷ xs) (suc n) (suc i) x at = got_taken xs n i x at

-- in the block of all nodes
pub fits_in_block :
    (steps : Spec → List Clause → Clause → List Step) (above : Tree → Tree → Type 0) (spot : Spot) (spec : Spec)
    (numbers : List ℕ) (nodes : List Node) (before i : ℕ) (fits : List Fit) →
    IsSpot spot → spot.spec.now ≡ spec → spot.proved.now ≡ numbers → spot.nodes.now ≡ take before nodes →
    spot.number ≡ i → before ≤ length nodes → i < before →
    AreFits above spot steps fits → AreFitting above spec (Contains numbers) steps (clauses_of nodes) before i fits
fits_in_block steps above spot spec numbers nodes before i fits is spec_is proved_is nodes_are number_is le lt h d at =
    let all : List Clause = clauses_of nodes in
    let own : List Clause = clauses_of spot.nodes.now in
    let taken : own ≡ take before all = ap (λ ns. clauses_of ns) nodes_are
    ∙ sym (take-map (λ (n : Node). n.clause) before nodes) in
    let long : length own ≡ before = ap (λ (cs : List Clause). length cs) taken
    ∙ length-take-le before all (omega (arith, le, length-map nodes (λ (n : Node). n.clause))) in
    let enough : take (length own) all ≡ own = ap (λ n. take n all) long ∙ sym taken in
    let there : slice_get all i ≡ Some spot.here.now =
    sym (get_taken all before i lt) ∙ sym (ap (λ cs. slice_get cs i) taken)
    ∙ ap (λ n. slice_get own n) (sym number_is) ∙ is.here in
    let two : Some spot.here.now ≡ Some d = sym there ∙ at in
    let here : spot.here.now ≡ d = cc in
    subst (λ (x : Clause). AreDefined above spec (Contains numbers) (take before all) i (steps spec all x)
    fits) here
    (subst (λ n. AreDefined above spec (Contains numbers) (take before all) n (steps spec all spot.here.now)
    fits) number_is
    (subst (λ cs. AreDefined above spec (Contains numbers) cs spot.number (steps spec all spot.here.now)
    fits) taken
    (subst (λ ns. AreDefined above spec (Contains ns) own spot.number (steps spec all spot.here.now) fits)
    proved_is
    (subst (λ (s : Spec). AreDefined above s (Contains spot.proved.now) own spot.number
    (steps s all spot.here.now) fits) spec_is
    (h all enough)))))

-- the first nodes are nodes, with their keys
pub first_nodes : (sig : Sig) (nodes : List Node) (before : ℕ) → AreNodes sig (clauses_of nodes) →
    AreNodes sig (clauses_of (take before nodes))
first_nodes sig nodes before are j d at =
    let all : List Clause = clauses_of nodes in
    let taken : take before all ≡ clauses_of (take before nodes) = take-map (λ (n : Node). n.clause) before nodes in
    are j d (got_taken all before j d (ap (λ cs. slice_get cs j) taken ∙ at))

pub first_keys : (keys : List (Option ℕ)) (nodes made : List Node) (before : ℕ) →
    keys ≡ map key_of (clauses_of nodes) → made ≡ take before nodes →
    take before keys ≡ map key_of (clauses_of made)
first_keys keys nodes made before are is =
    ap (λ ks. take before ks) are ∙ take-map key_of before (clauses_of nodes)
    ∙ ap (λ cs. map key_of cs) (take-map (λ (n : Node). n.clause) before nodes)
    ∙ sym (ap (λ ns. map key_of (clauses_of ns)) is)

-- and a node that is alone among all is alone among them
pub first_alone :
    (nodes : List Node) (before i : ℕ) → ((c : Clause) → slice_get (clauses_of nodes) i ≡ Some c →
    IsAlone (clauses_of nodes) i c) → (c : Clause) → slice_get (clauses_of (take before nodes)) i ≡ Some c →
    IsAlone (clauses_of (take before nodes)) i c
first_alone nodes before i alone c at j d apart there =
    let all : List Clause = clauses_of nodes in
    let taken : take before all ≡ clauses_of (take before nodes) = take-map (λ (n : Node). n.clause) before nodes in
    alone c (got_taken all before i c (ap (λ cs. slice_get cs i) taken ∙ at)) j d apart
    (got_taken all before j d (ap (λ cs. slice_get cs j) taken ∙ there))
