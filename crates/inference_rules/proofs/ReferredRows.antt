-- Rows that begin with a node or with a goal.
use Rattle.std.proofs.Common.{◌≡◌, ℕ, List, [], ◌∷◌, ◌++◌, inl, ap, sym, ◌∙◌, subst}
use Rattle.std.specs.Prelude.{Result, Ok, Err}
use Rattle.std.specs.List.{AllZip}
use Rattle.term_core.specs.Tree.{Tree}
use Rattle.spec_core.specs.declared.records.Goal.{Goal}
use Rattle.spec_core.specs.declared.records.Spec.{Spec}
use Rattle.clause_core.specs.declared.clauses.Clause.{Clause}
use Rattle.clause_core.specs.declared.answers.Children.{Children}
use Rattle.clause_core.specs.declared.answers.Why.{Why}
use Rattle.clause_core.specs.declared.answers.Why.TheVariants.{NoSuchNode, NotProvedBefore}
use Rattle.clause_core.specs.Referred.{NodeAt, UsableGoal}
use Rattle.clause_core.specs.Rows.{Made, Row, needs}
use Rattle.clause_core.specs.Tidied.{goal_clause}
use Rattle.inference_rules.specs.declared.nodes.StepError.{StepError}
use Rattle.inference_rules.specs.declared.nodes.StepError.TheVariants.{Why as because, OutOfMemory as out_of_memory}
use Rattle.inference_rules.specs.Answers.{Answered}
use Rattle.inference_rules.specs.Conditions.{RefusesWith, Makes}

-- a row is refused after a condition that is met
pub refused_behind : {P : Type 0} (own : Why) (rest : P → Row) (p : P) (error : StepError) →
    RefusesWith (rest p) error → RefusesWith (needs P own rest) error
refused_behind own rest p (because why) r = inl (p, r)
refused_behind own rest p out_of_memory r = tt

-- and answers there as what is after it
pub answered_behind :
    (above : Tree → Tree → Type 0) (c : Clause) {P : Type 0} (own : Why) (rest : P →
    Row) (p : P) (answer : Result Children StepError) →
    Answered above c [] (rest p) answer → Answered above c [] (needs P own rest) answer
answered_behind above c own rest p (Ok made) s = inl (p, s)
answered_behind above c own rest p (Err (because why)) s = inl (p, s)
answered_behind above c own rest p (Err out_of_memory) s = tt

module _ (row : Clause → Row) where
  module _ (nodes : List Clause) (number : ℕ) (at : NodeAt nodes number) (d : Clause) (is : at.clause ≡ d) where
    pub node_refused : (error : StepError) → RefusesWith (row d) error →
        RefusesWith (needs (NodeAt nodes number) NoSuchNode (λ node. row node.clause)) error
    node_refused error r = refused_behind NoSuchNode (λ (node : NodeAt nodes number). row node.clause) at error
        (subst (λ z. RefusesWith (row z) error) (sym is) r)

    pub node_made :
        (children : List Made) (refs : List (ℕ × Clause)) → Makes (row d) children refs →
        Makes (needs (NodeAt nodes number) NoSuchNode (λ node. row node.clause)) children refs
    node_made children refs m = (at, subst (λ z. Makes (row z) children refs) (sym is) m)

    pub node_answered :
        (above : Tree → Tree → Type 0) (c : Clause) (answer : Result Children StepError) →
        Answered above c [] (row d) answer →
        Answered above c [] (needs (NodeAt nodes number) NoSuchNode (λ node. row node.clause)) answer
    node_answered above c answer s =
        answered_behind above c NoSuchNode (λ (node : NodeAt nodes number). row node.clause) at answer
        (subst (λ z. Answered above c [] (row z) answer) (sym is) s)

  module _ (spec : Spec) (usable : ℕ → Type 0) (name : List ℕ) (lemma : UsableGoal spec usable name)
      (goal : Goal) (is : lemma.goal ≡ goal) (d : Clause) (clause : d ≡ goal_clause goal) where
    the_clause : d ≡ goal_clause lemma.goal
    the_clause = clause ∙ ap goal_clause (sym is)

    pub goal_refused :
        (error : StepError) → RefusesWith (row d) error →
        RefusesWith (needs (UsableGoal spec usable name) NotProvedBefore (λ lemma. row (goal_clause lemma.goal))) error
    goal_refused error r = refused_behind NotProvedBefore
        (λ (lemma : UsableGoal spec usable name). row (goal_clause lemma.goal)) lemma error
        (subst (λ z. RefusesWith (row z) error) the_clause r)

    pub goal_made :
        (children : List Made) (refs : List (ℕ × Clause)) → Makes (row d) children refs →
        Makes (needs (UsableGoal spec usable name) NotProvedBefore (λ lemma. row (goal_clause lemma.goal)))
        children refs
    goal_made children refs m = (lemma, subst (λ z. Makes (row z) children refs) the_clause m)

    pub goal_answered :
        (above : Tree → Tree → Type 0) (c : Clause) (answer : Result Children StepError) →
        Answered above c [] (row d) answer →
        Answered above c [] (needs (UsableGoal spec usable name) NotProvedBefore
        (λ lemma. row (goal_clause lemma.goal))) answer
    goal_answered above c answer s =
        answered_behind above c NotProvedBefore
        (λ (lemma : UsableGoal spec usable name). row (goal_clause lemma.goal)) lemma answer
        (subst (λ z. Answered above c [] (row z) answer) the_clause s)

-- no pairs, and one
pub no_pairs : {X Y : Type 0} (R : X → Y → Type 0) (ys : List Y) → ys ≡ [] → AllZip R [] ys
no_pairs R [] e = tt
no_pairs R (y ∷ ys) e = absurd (let q : y ∷ ys ≡ [] = e in cc)

pub one_pair : {X Y : Type 0} (R : X → Y → Type 0) (x : X) (y : Y) (first ys : List Y) → first ≡ [] →
    ys ≡ first ++ y ∷ [] → R x y → AllZip R (x ∷ []) ys
one_pair R x y first ys e is r =
    let q : ys ≡ y ∷ [] = is ∙ ap (λ zs. zs ++ y ∷ []) e in
    subst (λ zs. AllZip R (x ∷ []) zs) (sym q) (r, tt)
