-- Terms that are the variables of a clause.
use Rattle.std.proofs.Common.{◌≡◌, ℕ, ◌+◌, ◌<◌, ◌≤◌, List, [], ◌∷◌, ◌++◌, Bool, Some, None, ap, sym, ◌∙◌, subst}
use Rattle.std.proofs.Common.{arith, length, take, get_or}
use Rattle.std.specs.Prelude.{◌↔◌, IsTrue, slice_get}
use Rattle.std.proofs.lemmas.List.{length-map, take_all}
use Rattle.std.proofs.lemmas.List.FromFn.{map-range_with_len_more, length-map-range_with_len, get_or-map-range_with_len}
use Rattle.std.proofs.lemmas.Option.{slice_get_past}
use Rattle.term_core.specs.Tree.{Tree, var}
use Rattle.term_core.proofs.Items.{taken_next}
use Rattle.spec_core.specs.declared.records.Goal.{Goal}
use Rattle.spec_core.specs.declared.records.Spec.{Spec}
use Rattle.spec_core.specs.WellSorted.{IsWellSorted}
use Rattle.clause_core.specs.declared.clauses.Clause.{Clause}
use Rattle.clause_core.specs.Tidied.{goal_clause}
use Rattle.clause_core.specs.Instances.{variables}
use Rattle.inference_rules.specs.declared.nodes.Node.{Node}
use Rattle.inference_rules.specs.Answers.{clauses_of}
use Rattle.script_trim.proofs.Whole.{clause_at}
use Rattle.script_trim.specs.Closing.{own_variables}

-- one more variable
pub variables_next : (count : ℕ) → variables 0 (count + 1) ≡ variables 0 count ++ var count ∷ []
variables_next count = map-range_with_len_more (λ n. var n) 0 count count (omega arith)

-- the terms are variables one place further
pub variables_so_far : (terms : List Tree) (k : ℕ) (t : Tree) → k < length terms → t ≡ get_or terms k t →
    take k terms ≡ variables 0 k → t ≡ var k → take (k + 1) terms ≡ variables 0 (k + 1)
variables_so_far terms k t lt is before here =
    taken_next terms k t lt is ∙ (λ i. before i ++ here i ∷ []) ∙ sym (variables_next k)

-- the same of a list that grows
pub one_more_variable : (made new : List Tree) (k : ℕ) (t : Tree) → new ≡ made ++ t ∷ [] → made ≡ variables 0 k →
    t ≡ var k → new ≡ variables 0 (k + 1)
one_more_variable made new k t is before here =
    is ∙ (λ i. before i ++ here i ∷ []) ∙ sym (variables_next k)

-- and up to their end
pub all_variables : (terms : List Tree) (k count : ℕ) → length terms ≤ k → length terms ≡ count → k ≤ length terms →
    take k terms ≡ variables 0 k → terms ≡ variables 0 count
all_variables terms k count le long within before =
    let e : k ≡ count = omega arith in
    sym (take_all k terms le) ∙ before ∙ ap (λ n. variables 0 n) e

-- as many as variables
pub as_many : (terms : List Tree) (count : ℕ) → terms ≡ variables 0 count → length terms ≡ count
as_many terms count e = ap (λ (ts : List Tree). length ts) e ∙ length-map-range_with_len (λ n. var n) 0 count

-- each of the terms is the variable of its place
pub variable_there : (terms : List Tree) (count k : ℕ) (t : Tree) → k < length terms → t ≡ get_or terms k t →
    terms ≡ variables 0 count → t ≡ var k
variable_there terms count k t lt is e =
    is ∙ ap (λ (ts : List Tree). get_or ts k t) e ∙ get_or-map-range_with_len (λ n. var n) 0 count k k t
    (omega (arith, lt, as_many terms count e)) (omega arith)

same_clause : (nodes : List Clause) (k : ℕ) (c d : Clause) → slice_get nodes k ≡ Some c →
    slice_get nodes k ≡ Some d → c ≡ d
same_clause nodes k c d p q = let e : Some c ≡ Some d = sym p ∙ q in cc

-- whether they are those of a node's clause
pub of_node : (nodes : List Node) (k : ℕ) (node : Node) (terms : List Tree) (answer : Bool) → k < length nodes →
    node ≡ get_or nodes k node → IsTrue answer ↔ (terms ≡ own_variables node.clause) →
    IsTrue answer ↔ ((c : Clause) × (slice_get (clauses_of nodes) k ≡ Some c) × (terms ≡ own_variables c))
of_node nodes k node terms answer lt is h =
    let at : slice_get (clauses_of nodes) k ≡ Some node.clause =
    clause_at nodes k node lt ∙ ap (λ (x : Node). Some x.clause) (sym is) in (
      λ y. (node.clause, at, h.0 y),
      λ p. h.1 (p.2 ∙ ap (λ (c : Clause). own_variables c) (same_clause (clauses_of nodes) k p.0 node.clause p.1
          at)),
    )

pub of_no_node : (nodes : List Node) (k : ℕ) (c : Clause) → length nodes ≤ k →
    slice_get (clauses_of nodes) k ≡ Some c → ⊥
of_no_node nodes k c le at =
    let past : slice_get (clauses_of nodes) k ≡ None = slice_get_past (clauses_of nodes) k
    (omega (arith, le, length-map nodes (λ (n : Node). n.clause))) in
    let q : Some c ≡ None = sym at ∙ past in
    absurd (cc)

-- whether they are those of the goal of a name, which is the only one
pub of_goal : (spec : Spec) → IsWellSorted spec → (k : ℕ) (goal : Goal) (name : List ℕ) (terms : List Tree)
    (answer : Bool) → slice_get spec.goals k ≡ Some goal → goal.name ≡ name →
    IsTrue answer ↔ (terms ≡ own_variables (goal_clause goal)) →
    IsTrue answer ↔ ((j : ℕ) × (other : Goal) × (slice_get spec.goals j ≡ Some other) × (other.name ≡ name) ×
    (terms ≡ own_variables (goal_clause other)))
of_goal spec fine k goal name terms answer at named h = (
  λ y. (k, goal, at, named, h.0 y),
  λ p.
      let number : p.0 ≡ k = fine.names p.0 k p.1 goal p.2 at (p.3 ∙ sym named) in
      let there : slice_get spec.goals k ≡ Some p.1 = subst (λ n. slice_get spec.goals n ≡ Some p.1) number p.2 in
      let same : Some p.1 ≡ Some goal = sym there ∙ at in
      let e : p.1 ≡ goal = cc in
      h.1 (p.4 ∙ ap (λ (g : Goal). own_variables (goal_clause g)) e),
)
