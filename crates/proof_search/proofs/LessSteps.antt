-- A step that rewrites a term by a clause makes what is less only if the term is above what it
-- becomes.
use Rattle.std.proofs.Common.{◌≡◌, ℕ, List, [], ◌∷◌, ◌++◌, ◌≤◌, Bool, true, false, not, Some, None, Ok, Err, Result}
use Rattle.std.proofs.Common.{inl, inr, refl, ap, sym, ◌∙◌, subst, arith, map}
use Rattle.std.specs.List.{AllByRecursion, AllZip}
use Rattle.term_core.specs.Tree.{Tree, var, tree_size, sizes, trees_of, instance}
use Rattle.substitutions.proofs.Instances.{apply_values}
use Rattle.substitutions.specs.Substitution.{apply}
use Rattle.spec_core.specs.declared.records.Equation.{Equation}
use Rattle.spec_core.specs.declared.records.Spec.{Spec}
use Rattle.clause_core.specs.declared.answers.Child.{Child}
use Rattle.clause_core.specs.declared.answers.Children.{Children}
use Rattle.clause_core.specs.declared.answers.Why.{Why}
use Rattle.clause_core.specs.declared.clauses.Clause.{Clause}
use Rattle.clause_core.specs.declared.clauses.Relation.{Relation}
use Rattle.clause_core.specs.declared.clauses.Relation.TheVariants.{Less}
use Rattle.clause_core.specs.declared.steps.Place.{Place}
use Rattle.clause_core.specs.Clauses.{sides_of}
use Rattle.clause_core.specs.ClauseInstances.{equation_instance}
use Rattle.clause_core.specs.Comparing.{Compares}
use Rattle.clause_core.specs.Limits.{IsWithin, clause_size}
use Rattle.clause_core.specs.Places.{TermAt, side, holding}
use Rattle.clause_core.specs.Instances.{instance_by}
use Rattle.clause_core.specs.Referred.{AreTermsFor, UsableGoal}
use Rattle.clause_core.specs.Replacing.{Rewrites, rewritten_by}
use Rattle.clause_core.specs.Rows.{compared_child}
use Rattle.clause_core.specs.Says.{IsChild, AnswersWithin, Says}
use Rattle.clause_core.specs.Tidied.{goal_clause}
use Rattle.clause_core.proofs.OnePlace.{term_one}
use Rattle.clause_core.proofs.OneReferred.{one_get}
use Rattle.inference_rules.specs.Answers.{clauses_of}
use Rattle.place_comparison.specs.AtPlaces.{PlaceDecides}
use Rattle.place_comparison.proofs.LimitsThere.{size_there}
use Rattle.routine_proof.specs.Candidates.{all_less, Meets}
use Rattle.proof_search.specs.declared.at.At.{At}
use Rattle.proof_search.specs.Falling.{IsGoalClause, IsReferred, FallsTo}
use Rattle.proof_search.specs.Referring.{Target, node, goal, rewriting_step}
use Rattle.proof_search.specs.Taking.{IsAt, IsTaken, SaysAt}

-- what is made is no reason
pub never : {X : Type 0} (made : Children) (why : Why) →
    ◌≡◌ {A = Result Children Why} (Ok made) (Err why) → X
never made why e = absurd (cc)

last_sizes :
    (ts : List Tree) (t u : Tree) →
    (tree_size t ≤ sizes (trees_of (ts ++ t ∷ u ∷ []))) × (tree_size u ≤ sizes (trees_of (ts ++ t ∷ u ∷ [])))
last_sizes [] t u = (omega arith, omega arith)
last_sizes (s ∷ ts) t u =
    let rest = last_sizes ts t u in
    (omega (arith, rest.0), omega (arith, rest.1))

-- a side of a clause's only conclusion is no larger than the clause
conclusion_side :
    (c : Clause) (own : Equation) (left : Bool) → c.conclusions ≡ own ∷ [] →
    tree_size (side left own) ≤ clause_size c
conclusion_side c own left is =
    subst (λ (es : List Equation). tree_size (side left own) ≤ sizes (trees_of (sides_of c.premises ++ sides_of es)))
    (sym is) (by_side left)
  where
    by_side :
        (left : Bool) →
        tree_size (side left own) ≤ sizes (trees_of (sides_of c.premises ++ own.left ∷ own.right ∷ []))
    by_side true = (last_sizes (sides_of c.premises) own.left own.right).0
    by_side false = (last_sizes (sides_of c.premises) own.left own.right).1

-- what the step rewrites at the place, and to what
pub record Falling (above : Tree → Tree → Type 0) (spec : Spec) (c d : Clause) (place : Place)
    (list : List Tree) (left : Bool) : Type 0 where
  pub sorted : AreTermsFor spec c d list
  pub there : TermAt c place
  pub within : IsWithin (instance_by list c.ctx d)
  pub rewrites : Rewrites c (instance_by list c.ctx d) there.term left
  pub falls : above there.term (side (not left) rewrites.equation)

-- the clause of the goal that is used by this name is the one that is referred to
pub named_clause :
    {usable : ℕ → Type 0} (at : At) → IsAt at → (name : List ℕ) (d : Clause) →
    IsGoalClause at name d → (lemma : UsableGoal at.setting.now.spec.now usable name) →
    goal_clause lemma.goal ≡ d
named_clause at is name d referred lemma =
    let spec = at.setting.now.spec.now in
    let number : lemma.number ≡ referred.number =
    is.setting.fine.names lemma.number referred.number lemma.goal referred.goal lemma.is
    referred.is (lemma.named ∙ sym referred.named) in
    let same : lemma.goal ≡ referred.goal =
    one_get spec.goals lemma.number referred.number lemma.goal referred.goal lemma.is
    referred.is number in
    ap goal_clause same ∙ sym referred.clause

module _ (above : Tree → Tree → Type 0) (decides : PlaceDecides above) (at : At) (place : Place)
    (list : List Tree) (left : Bool) (made : Children) (less : Meets all_less made) where
  abbrev pub c : Clause
  c = at.here.now

  only_child :
      (d : Clause) (cs : List Child) → AllZip (IsChild above c) (compared_child d ∷ []) cs →
      AllByRecursion (λ (x : Child). x.relation ≡ Less) cs → Compares above c d Less
  only_child d [] p l = absurd p
  only_child d (x ∷ []) p l = subst (λ (r : Relation). Compares above c d r) l.0 p.0.1
  only_child d (x ∷ y ∷ cs) p l = absurd p.1

  compared :
      (d : Clause) (answer : Children) →
      AllZip (IsChild above c) (compared_child d ∷ []) answer.clauses →
      AnswersWithin (clauses_of at.nodes.now) answer (Ok made) → Compares above c d Less
  compared d answer p (inl (w, e)) =
      let same : made ≡ answer =
      let q : ◌≡◌ {A = Result Children Why} (Ok made) (Ok answer) = e in
      cc in
      only_child d answer.clauses p
      (subst (λ (m : Children). AllByRecursion (λ (x : Child). x.relation ≡ Less) m.clauses) same
      less.0)
  compared d answer p (inr (w, e)) = never made _ e

  -- the row that `hyp` and `lemma` have in common
  by_row :
      (d : Clause) (refs : Clause → List (ℕ × Clause)) →
      Says above c (clauses_of at.nodes.now)
      (rewritten_by at.setting.now.spec.now c d list place left refs) (Ok made) →
      Falling above at.setting.now.spec.now c d place list left
  by_row d refs (inl (sorted, inl (within, inl (there, inl (rewrites, rest))))) =
      let u = side (not left) rewrites.equation in
      record {
        sorted = sorted;
        there = there;
        within = within;
        rewrites = rewrites;
        falls =
            ((decides c place there u Less).0 (compared (holding there u) rest.0 rest.1 rest.3)).1;
      }
  by_row d refs (inl (sorted, inl (within, inl (there, inr q)))) = never made _ q.1
  by_row d refs (inl (sorted, inl (within, inr q))) = never made _ q.1
  by_row d refs (inl (sorted, inr q)) = never made _ q.1
  by_row d refs (inr q) = never made _ q.1

  -- of the clause that is referred to
  pub falling :
      (target : Target) (d : Clause) → IsAt at → IsReferred at target d →
      SaysAt above at (rewriting_step target place list left) made →
      Falling above at.setting.now.spec.now c d place list left
  falling (node number) d is referred (inl (n, says)) =
      let same : n.clause ≡ d =
      one_get (clauses_of at.nodes.now) number number n.clause d n.is referred refl in
      subst (λ (x : Clause). Falling above at.setting.now.spec.now c x place list left) same
      (by_row n.clause (λ instance. (number, instance) ∷ []) says)
  falling (node number) d is referred (inr q) = never made _ q.1
  falling (goal name) d is referred (inl (lemma, says)) =
      subst (λ (x : Clause). Falling above at.setting.now.spec.now c x place list left)
      (named_clause at is name d referred lemma)
      (by_row (goal_clause lemma.goal) (λ instance. []) says)
  falling (goal name) d is referred (inr q) = never made _ q.1

  -- the term at the place falls to the instance of the other side
  module _ (d : Clause) (e : Equation) (alone : d.conclusions ≡ e ∷ [])
      (f : Falling above at.setting.now.spec.now c d place list left) where
    by_list : (t : Tree) → apply (map (λ (x : Tree). Some x) list) t ≡ instance list t
    by_list t = apply_values list t

    its_side :
        (right : Bool) (own : Equation) → (instance_by list c.ctx d).conclusions ≡ own ∷ [] →
        side right own ≡ instance list (side right e)
    its_side right own is =
        let entries = map (λ (x : Tree). Some x) list in
        let q : own ∷ [] ≡ equation_instance entries e ∷ [] =
        sym is ∙ ap (λ (es : List Equation). map (equation_instance entries) es) alone in
        let same : own ≡ equation_instance entries e = cc in
        ap (λ (x : Equation). side right x) same ∙ by_side right
      where
        by_side :
            (right : Bool) →
            side right (equation_instance (map (λ (x : Tree). Some x) list) e)
            ≡ instance list (side right e)
        by_side true = by_list e.left
        by_side false = by_list e.right

    -- the instance of the one side is above that of the other one
    pub sides_fall : above (instance list (side left e)) (instance list (side (not left) e))
    sides_fall =
        let here : f.there.term ≡ instance list (side left e) =
        sym f.rewrites.is ∙ its_side left f.rewrites.equation f.rewrites.alone in
        let own = its_side (not left) f.rewrites.equation f.rewrites.alone in
        subst (λ (x : Tree × Tree). above x.0 x.1) (λ i. (here i, own i)) f.falls

    pub falls_at :
        (t : Tree) (there : TermAt c place) → there.term ≡ t → IsWithin c →
        FallsTo above t (instance list (side (not left) e))
    falls_at t there same within =
        let own = its_side (not left) f.rewrites.equation f.rewrites.alone in
        let here : f.there.term ≡ t = (term_one c place f.there there).0 ∙ same in
        record {
          falls =
              subst (λ (x : Tree × Tree). above x.0 x.1) (λ i. (here i, own i)) f.falls;
          old = omega (
            arith,
            ap tree_size same,
            size_there c place there (var 0),
            within.size,
          );
          new =
              let q = conclusion_side (instance_by list c.ctx d) f.rewrites.equation (not left)
              f.rewrites.alone in
              omega (arith, q, ap tree_size own, f.within.size);
        }

-- a list of one item is the image of one
one_item :
    {X Y : Type 0} (f : X → Y) (xs : List X) (y : Y) → map f xs ≡ y ∷ [] → (x : X) × (xs ≡ x ∷ [])
one_item {X} {Y} f [] y e = absurd (let q : ◌≡◌ {A = List Y} [] (y ∷ []) = e in cc)
one_item f (x ∷ []) y e = (x, refl)
one_item {X} {Y} f (x ∷ z ∷ xs) y e =
    absurd (let q : ◌≡◌ {A = List Y} (f x ∷ f z ∷ map f xs) (y ∷ []) = e in cc)

-- if the term doesn't fall, the step makes nothing that is less
module _ (above : Tree → Tree → Type 0) (decides : PlaceDecides above) (at : At) (place : Place)
    (list : List Tree) (left : Bool) (target : Target) (d : Clause) (t : Tree) where
  pub none_rising :
      IsAt at → IsReferred at target d → (there : TermAt at.here.now place) → there.term ≡ t →
      ((e : Equation) → d.conclusions ≡ e ∷ [] →
      FallsTo above t (instance list (side (not left) e)) → ⊥) →
      IsTaken (SaysAt above at) (rewriting_step target place list left) all_less None
  none_rising is referred there same rises = λ made says less.
      let f = falling above decides at place list left made less target d is referred says in
      let one = one_item (equation_instance (map (λ (x : Tree). Some x) list)) d.conclusions
      f.rewrites.equation f.rewrites.alone in
      rises one.0 one.1
      (falls_at above decides at place list left made less d one.0 one.1 f t there same
      is.node.within)
