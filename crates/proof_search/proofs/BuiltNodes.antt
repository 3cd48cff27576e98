-- The nodes of a block that is being built: their clauses, their ways, and the children that a step
-- adds.
use Rattle.std.proofs.Common.{◌≡◌, ℕ, zero, suc, ◌+◌, ◌≤◌, ◌<◌, List, [], ◌∷◌, ◌++◌, Option, Some, map, length, ◌⊎◌}
use Rattle.std.proofs.Common.{inl, inr, refl, ap, sym, ◌∙◌, subst, arith, append_assoc, length-append}
use Rattle.std.specs.Prelude.{slice_get}
use Rattle.std.specs.List.{zip}
use Rattle.std.proofs.lemmas.List.{append-nil, length-map, map-append}
use Rattle.std.proofs.lemmas.Option.{none-some, same_Some, slice_get_within, slice_get_cases}
use Rattle.clause_core.specs.declared.answers.Child.{Child}
use Rattle.clause_core.specs.declared.clauses.Clause.{Clause}
use Rattle.clause_core.specs.declared.steps.Step.{Step}
use Rattle.inference_rules.specs.declared.nodes.Node.{Node as ClauseNode}
use Rattle.inference_rules.specs.Answers.{clauses_of}
use Rattle.routine_proof.specs.declared.moves.Move.{Move}
use Rattle.routine_proof.specs.Blocks.{clauses, root}
use Rattle.routine_proof.specs.Ways.{Node, born}
use Rattle.proof_search.specs.declared.building.Building.{Building}
use Rattle.proof_search.specs.Building.{way_below, grown, nodes_in, IsWhole, Begins, child_nodes, child_parents, Takes}

-- an item stays where it is when more come after it
pub get_more :
    {X : Type 0} (xs ys : List X) (k : ℕ) (x : X) → slice_get xs k ≡ Some x →
    slice_get (xs ++ ys) k ≡ Some x
get_more [] ys k x at = absurd (none-some x at)
get_more (w ∷ xs) ys zero x at = at
get_more (w ∷ xs) ys (suc k) x at = get_more xs ys k x at

pub get_within :
    {X : Type 0} (xs ys : List X) (k : ℕ) → k < length xs →
    slice_get (xs ++ ys) k ≡ slice_get xs k
get_within [] ys k lt = absurd (omega arith)
get_within (w ∷ xs) ys zero lt = refl
get_within (w ∷ xs) ys (suc k) lt = get_within xs ys k (omega arith)

pub get_middle :
    {X : Type 0} (xs ys : List X) (x : X) →
    slice_get (xs ++ x ∷ ys) (length xs) ≡ Some x
get_middle [] ys x = refl
get_middle (w ∷ xs) ys x = get_middle xs ys x

pub there :
    {X : Type 0} (xs : List X) (k : ℕ) → k < length xs → (x : X) × (slice_get xs k ≡ Some x)
there xs k lt =
    elim (slice_get_cases xs k).1
    [ inl p ↦ (p.0, p.2) | inr p ↦ absurd (omega (arith, p.0, lt)) ]

pub length_one : {X : Type 0} (xs : List X) (x : X) → length (xs ++ x ∷ []) ≡ suc (length xs)
length_one xs x = omega (arith, length-append xs (x ∷ []))

zip_append :
    {X Y : Type 0} (xs us : List X) (ys vs : List Y) → length ys ≡ length xs →
    zip (xs ++ us) (ys ++ vs) ≡ zip xs ys ++ zip us vs
zip_append [] us [] vs e = refl
zip_append [] us (y ∷ ys) vs e = absurd (omega arith)
zip_append (x ∷ xs) us [] vs e = absurd (omega arith)
zip_append (x ∷ xs) us (y ∷ ys) vs e = ap (λ l. (x, y) ∷ l) (zip_append xs us ys vs (omega arith))

zip_at :
    {X Y : Type 0} (xs : List X) (ys : List Y) (k : ℕ) (x : X) (y : Y) →
    slice_get xs k ≡ Some x → slice_get ys k ≡ Some y → slice_get (zip xs ys) k ≡ Some (x, y)
zip_at [] ys k x y p q = absurd (none-some x p)
zip_at (w ∷ xs) [] k x y p q = absurd (none-some y q)
zip_at (w ∷ xs) (z ∷ ys) zero x y p q =
    let e : w ≡ x = same_Some w x p in
    let f : z ≡ y = same_Some z y q in
    λ i. Some (e i, f i)
zip_at (w ∷ xs) (z ∷ ys) (suc k) x y p q = zip_at xs ys k x y p q

-- the node of this clause below its parent
abbrev pub node_below : List Step → List Node → ClauseNode × ℕ → Node
node_below steps nodes made = record {
  clause = made.0.clause;
  way = way_below made.1 (slice_get nodes made.1) (slice_get steps made.1);
}

grown_both :
    (steps : List Step) (nodes : List Node) (ms ns : List (ClauseNode × ℕ)) →
    grown steps nodes (ms ++ ns) ≡ grown steps (grown steps nodes ms) ns
grown_both steps nodes [] ns = refl
grown_both steps nodes (m ∷ ms) ns = grown_both steps (nodes ++ node_below steps nodes m ∷ []) ms ns

-- the nodes that are there stay
grown_within :
    (steps : List Step) (nodes : List Node) (ms : List (ClauseNode × ℕ)) (k : ℕ) →
    k < length nodes → slice_get (grown steps nodes ms) k ≡ slice_get nodes k
grown_within steps nodes [] k lt = refl
grown_within steps nodes (m ∷ ms) k lt =
    let w = node_below steps nodes m in
    let more : k < length (nodes ++ w ∷ []) = omega (arith, length_one nodes w, lt) in
    grown_within steps (nodes ++ w ∷ []) ms k more ∙ get_within nodes (w ∷ []) k lt

-- what is at a place
grown_at :
    (steps : List Step) (nodes : List Node) (ms : List (ClauseNode × ℕ)) (k : ℕ)
    (m : ClauseNode × ℕ) → slice_get ms k ≡ Some m → m.1 < length nodes + k →
    slice_get (grown steps nodes ms) (length nodes + k)
    ≡ Some (node_below steps (grown steps nodes ms) m)
grown_at steps nodes [] k m at lt = absurd (none-some m at)
grown_at steps nodes (n ∷ ms) zero m at lt =
    let e : n ≡ m = same_Some n m at in
    let w = node_below steps nodes n in
    let all = grown steps (nodes ++ w ∷ []) ms in
    let z : length nodes + 0 ≡ length nodes = omega arith in
    let below : m.1 < length nodes = omega arith in
    let here : slice_get all (length nodes) ≡ Some w =
    grown_within steps (nodes ++ w ∷ []) ms (length nodes) (omega (arith, length_one nodes w))
    ∙ get_middle nodes [] w in
    let same : slice_get all m.1 ≡ slice_get nodes m.1 =
    grown_within steps nodes (n ∷ ms) m.1 below in
    subst (λ j. slice_get all j ≡ Some (node_below steps all m)) (sym z)
    (here ∙ ap (λ (x : ClauseNode × ℕ). Some (node_below steps nodes x)) e
    ∙ ap
    (λ o. Some (record { clause = m.0.clause; way = way_below m.1 o (slice_get steps m.1) }))
    (sym same))
grown_at steps nodes (n ∷ ms) (suc k) m at lt =
    let w = node_below steps nodes n in
    let all = grown steps (nodes ++ w ∷ []) ms in
    let long : length (nodes ++ w ∷ []) + k ≡ length nodes + suc k =
    omega (arith, length_one nodes w) in
    subst (λ j. slice_get all j ≡ Some (node_below steps all m)) long
    (grown_at steps (nodes ++ w ∷ []) ms k m at (omega (arith, long, lt)))

-- a further step changes no node whose parent has one
abbrev ParentsBelow : ℕ → List (ClauseNode × ℕ) → Type 0
ParentsBelow n ms = (k : ℕ) (m : ClauseNode × ℕ) → slice_get ms k ≡ Some m → m.1 < n

grown_longer :
    (steps more : List Step) (nodes : List Node) (ms : List (ClauseNode × ℕ)) →
    ParentsBelow (length steps) ms → grown (steps ++ more) nodes ms ≡ grown steps nodes ms
grown_longer steps more nodes [] p = refl
grown_longer steps more nodes (m ∷ ms) p =
    let at : slice_get (steps ++ more) m.1 ≡ slice_get steps m.1 =
    get_within steps more m.1 (p 0 m refl) in
    let go =
    λ (o : Option Step).
    nodes
    ++ record { clause = m.0.clause; way = way_below m.1 (slice_get nodes m.1) o } ∷ [] in
    ap (λ o. grown (steps ++ more) (go o) ms) at
    ∙ grown_longer steps more (go (slice_get steps m.1)) ms (λ k n h. p (suc k) n h)

-- the clauses are those of the nodes
grown_clauses :
    (steps : List Step) (nodes : List Node) (ds : List ClauseNode) (ps : List ℕ) →
    length ps ≡ length ds → clauses (grown steps nodes (zip ds ps)) ≡ clauses nodes ++ clauses_of ds
grown_clauses steps nodes [] [] e = sym (append-nil (clauses nodes))
grown_clauses steps nodes [] (p ∷ ps) e = absurd (omega arith)
grown_clauses steps nodes (d ∷ ds) [] e = absurd (omega arith)
grown_clauses steps nodes (d ∷ ds) (p ∷ ps) e =
    let w = node_below steps nodes (d, p) in
    grown_clauses steps (nodes ++ w ∷ []) ds ps (omega arith)
    ∙ ap (λ cs. cs ++ clauses_of ds) (map-append (λ (n : Node). n.clause) nodes (w ∷ []))
    ∙ append_assoc (clauses nodes) (d.clause ∷ []) (clauses_of ds)

pub nodes_clauses : (b : Building) → IsWhole b → clauses (nodes_in b) ≡ clauses_of b.block.nodes.items
nodes_clauses b w = grown_clauses b.steps.items [] b.block.nodes.items b.parents.items w.paired

pub nodes_length : (b : Building) → IsWhole b → length (nodes_in b) ≡ length b.block.nodes.items
nodes_length b w =
    sym (length-map (nodes_in b) (λ (n : Node). n.clause)) ∙ ap length (nodes_clauses b w)
    ∙ length-map b.block.nodes.items (λ (n : ClauseNode). n.clause)

-- Ways
pub way_first : (b : Building) (here : Node) → slice_get (nodes_in b) 0 ≡ Some here → here.way ≡ []
way_first b here at = go b.block.nodes.items b.parents.items at
  where
    go :
        (ds : List ClauseNode) (ps : List ℕ) →
        slice_get (grown b.steps.items [] (zip ds ps)) 0 ≡ Some here → here.way ≡ []
    go [] ps h = absurd (none-some here h)
    go (d ∷ ds) [] h = absurd (none-some here h)
    go (d ∷ ds) (p ∷ ps) h =
        let w : Node = node_below b.steps.items [] (d, p) in
        let e : Some w ≡ Some here =
        sym (grown_within b.steps.items (w ∷ []) (zip ds ps) 0 (omega arith)) ∙ h in
        sym (ap (λ (n : Node). n.way) (same_Some w here e))

-- a later node is below its parent
pub record IsBelow (b : Building) (p : ℕ) (here : Node) : Type 0 where
  pub parent : Node
  pub step : Step
  pub at : slice_get (nodes_in b) p ≡ Some parent
  pub has : slice_get b.steps.items p ≡ Some step
  pub way : here.way ≡ parent.way ++ (p, step) ∷ []

pub way_later :
    (b : Building) → IsWhole b → (k p : ℕ) (here : Node) →
    slice_get b.parents.items (suc k) ≡ Some p → slice_get (nodes_in b) (suc k) ≡ Some here →
    IsBelow b p here
way_later b w k p here parent at =
    let low = w.parents k p parent in
    let long = nodes_length b w in
    let within : suc k < length (nodes_in b) = slice_get_within (nodes_in b) (suc k) here at in
    let node = there b.block.nodes.items (suc k) (omega (arith, within, long)) in
    let up = there (nodes_in b) p (omega (arith, within, low.0)) in
    let step = there b.steps.items p low.1 in
    let z : 0 + suc k ≡ suc k = omega arith in
    let below = node_below b.steps.items (nodes_in b) (node.0, p) in
    let is : slice_get (nodes_in b) (suc k) ≡ Some below =
    subst (λ j. slice_get (nodes_in b) j ≡ Some below) z
    (grown_at b.steps.items [] (zip b.block.nodes.items b.parents.items) (suc k) (node.0, p)
    (zip_at b.block.nodes.items b.parents.items (suc k) node.0 p node.1 parent)
    (omega (arith, low.0))) in
    let same : below ≡ here = same_Some below here (sym is ∙ at) in
    record {
      parent = up.0;
      step = step.0;
      at = up.1;
      has = step.1;
      way =
          sym (ap (λ (n : Node). n.way) same)
          ∙ ap (λ (o : Option Node × Option Step). way_below p o.0 o.1) (λ i. (up.1 i, step.1 i));
    }

-- Steps that are taken
grown_children :
    (steps : List Step) (nodes : List Node) (k : ℕ) (node : Node) (step : Step)
    (children : List Child) → slice_get nodes k ≡ Some node → slice_get steps k ≡ Some step →
    grown steps nodes (zip (child_nodes children) (child_parents k children))
    ≡ nodes
    ++ map
    (λ (d : Child). record { clause = d.clause; way = node.way ++ (k, step) ∷ [] })
    children
grown_children steps nodes k node step [] at is = sym (append-nil nodes)
grown_children steps nodes k node step (c ∷ children) at is =
    let new : Node = record { clause = c.clause; way = node.way ++ (k, step) ∷ [] } in
    let rest = zip (child_nodes children) (child_parents k children) in
    let behind : List Node =
    map (λ (d : Child). record { clause = d.clause; way = node.way ++ (k, step) ∷ [] }) children in
    let first =
    λ (p : Option Node × Option Step).
    nodes ++ record { clause = c.clause; way = way_below k p.0 p.1 } ∷ [] in
    ap (λ p. grown steps (first p) rest) (λ i. (at i, is i))
    ∙ grown_children steps (nodes ++ new ∷ []) k node step children
    (get_more nodes (new ∷ []) k node at) is
    ∙ append_assoc nodes (new ∷ []) behind

pub zip_second :
    {X Y : Type 0} (xs : List X) (ys : List Y) (k : ℕ) (m : X × Y) →
    slice_get (zip xs ys) k ≡ Some m → slice_get ys k ≡ Some m.1
zip_second [] ys k m at = absurd (none-some m at)
zip_second (x ∷ xs) [] k m at = absurd (none-some m at)
zip_second (x ∷ xs) (y ∷ ys) zero m at = let e = same_Some (x, y) m at in λ i. Some (e i).1
zip_second (x ∷ xs) (y ∷ ys) (suc k) m at = zip_second xs ys k m at

-- steps after those of the nodes change no way
steps_longer :
    (steps more : List Step) (ds : List ClauseNode) (ps : List ℕ) →
    ((k p : ℕ) → slice_get ps (suc k) ≡ Some p → p < length steps) →
    grown (steps ++ more) [] (zip ds ps) ≡ grown steps [] (zip ds ps)
steps_longer steps more [] ps h = refl
steps_longer steps more (d ∷ ds) [] h = refl
steps_longer steps more (d ∷ ds) (p ∷ ps) h =
    grown_longer steps more (record { clause = d.clause; way = [] } ∷ []) (zip ds ps)
    (λ k m at. h k m.1 (zip_second ds ps k m at))

pub begins_whole : (clause : Clause) (b : Building) → Begins clause b → IsWhole b
begins_whole clause b h = record {
  paired = ap length h.parents ∙ sym (ap length h.nodes);
  parents =
      λ k p at. absurd (none-some p (subst (λ ps. slice_get ps (suc k) ≡ Some p) h.parents at));
  leadings = h.leadings;
}

pub begins_nodes :
    (clause : Clause) (b : Building) → Begins clause b →
    nodes_in b ≡ root clause ∷ []
begins_nodes clause b h = λ i. grown (h.steps i) [] (zip (h.nodes i) (h.parents i))

-- the children of the node that is next
module _ (old new : Building) (move : Move) (taken : Takes old new move) (whole : IsWhole old) where
  abbrev next : ℕ
  next = length old.steps.items

  parent_of :
      (ps : List ℕ) (children : List Child) (k p : ℕ) →
      slice_get (ps ++ child_parents next children) k ≡ Some p →
      (slice_get ps k ≡ Some p) ⊎ ((length ps ≤ k) × (p ≡ next))
  parent_of [] [] k p at = absurd (none-some p at)
  parent_of [] (c ∷ children) zero p at = inr (omega arith, sym (same_Some next p at))
  parent_of [] (c ∷ children) (suc k) p at =
      elim (parent_of [] children k p at)
      [ inl h ↦ absurd (none-some p h) | inr h ↦ inr (omega arith, h.1) ]
  parent_of (q ∷ ps) children zero p at = inl at
  parent_of (q ∷ ps) children (suc k) p at =
      elim (parent_of ps children k p at) [ inl h ↦ inl h | inr h ↦ inr (omega (arith, h.0), h.1) ]

  pub takes_whole : next < length old.block.nodes.items → IsWhole new
  takes_whole lt = record {
    paired =
        let ps =
        ap length taken.parents
        ∙ length-append old.parents.items (child_parents next move.made.clauses) in
        let ds =
        ap length taken.nodes ∙ length-append old.block.nodes.items (child_nodes move.made.clauses) in
        let p = length-map {B = ℕ} move.made.clauses (λ (d : Child). next) in
        let d =
        length-map {B = ClauseNode} move.made.clauses
        (λ (d : Child). record { clause = d.clause }) in
        omega (arith, ps, ds, p, d, whole.paired);
    parents = λ k p at.
        let long : length new.steps.items ≡ suc next =
        ap length taken.steps ∙ length_one old.steps.items move.step in
        elim (parent_of old.parents.items move.made.clauses (suc k) p
        (subst (λ ps. slice_get ps (suc k) ≡ Some p) taken.parents at)) [
          | inl h ↦ let low = whole.parents k p h in (low.0, omega (arith, low.1, long))
          | inr h ↦ (omega (arith, h.0, h.1, whole.paired, lt), omega (arith, h.1, long))
        ];
    leadings = taken.leadings whole.leadings;
  }

  pub takes_nodes :
      (here : Node) → slice_get (nodes_in old) next ≡ Some here →
      nodes_in new ≡ nodes_in old ++ born next here move.step move.made
  takes_nodes here at =
      let ds = child_nodes move.made.clauses in
      let ps = child_parents next move.made.clauses in
      let steps = old.steps.items ++ move.step ∷ [] in
      let pairs = zip (old.block.nodes.items ++ ds) (old.parents.items ++ ps) in
      let is : nodes_in new ≡ grown steps [] pairs =
      λ i. grown (taken.steps i) [] (zip (taken.nodes i) (taken.parents i)) in
      is
      ∙ ap (λ ms. grown steps [] ms)
      (zip_append old.block.nodes.items ds old.parents.items ps whole.paired)
      ∙ grown_both steps [] (zip old.block.nodes.items old.parents.items) (zip ds ps)
      ∙ ap (λ ns. grown steps ns (zip ds ps))
      (steps_longer old.steps.items (move.step ∷ []) old.block.nodes.items old.parents.items
      (λ k p h. (whole.parents k p h).1))
      ∙ grown_children steps (nodes_in old) next here move.step move.made.clauses at
      (get_middle old.steps.items [] move.step)
