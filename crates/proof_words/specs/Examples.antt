-- What a page of plain text shows of insertion into sorted lists, and of naturals. The variables 0, 1
-- and 2 are x, y and l.
use Rattle.std.specs.Prelude.{◌≡◌, ℕ, List, [], ◌∷◌, ◌++◌, true, false, Some, None, codes}
use Rattle.term_core.specs.Tree.{var}
use Rattle.spec_core.specs.declared.records.Equation.{Equation}
use Rattle.spec_core.specs.declared.records.Goal.{Goal}
use Rattle.spec_core.specs.Naturals.{nat, naturals, naturals_sig, number, plus_term, same_goal, succ_term}
use Rattle.clause_core.specs.declared.clauses.Clause.{Clause}
use Rattle.clause_core.specs.declared.steps.Place.{Place}
use Rattle.clause_core.specs.declared.steps.Step.{Step}
use Rattle.clause_core.specs.declared.steps.Step.TheVariants.{Subsume, ByLemma, Rule, Case, Decompose, Cover, Hyp}
use Rattle.clause_core.specs.ClauseExamples.{equals}
use Rattle.clause_core.specs.Insertion.{insertion, insertion_sig, list, cons_term, false_term, insert_term, le_term}
use Rattle.clause_core.specs.Insertion.{nil_term, sorted_if_rule, sorted_term, sorted_unless_rule, true_term}
use Rattle.page_core.specs.Events.{Event}
use Rattle.page_core.specs.Pages.{after, blank}
use Rattle.page_core.specs.declared.parts.Format.TheVariants.{Text}
use Rattle.proof_words.specs.TermEvents.{omitted, side_events}
use Rattle.proof_words.specs.ClauseEvents.{clause_events}
use Rattle.proof_words.specs.GoalEvents.{goal_names}
use Rattle.proof_words.specs.RuleEvents.{rule_events}
use Rattle.proof_words.specs.StepEvents.{step_events}
use Rattle.proof_words.specs.CaseEvents.{case_events}

abbrev pub shown_by : List Event → List ℕ
shown_by events = (after (blank Text) events).text

abbrev pub x_y_l : List (List ℕ)
x_y_l = codes "x" ∷ codes "y" ∷ codes "l" ∷ []

-- over x, y and l, the clause of these equations
abbrev pub clause_of : List Equation → List Equation → Clause
clause_of premises conclusions =
    record { ctx = nat ∷ nat ∷ list ∷ []; premises = premises; conclusions = conclusions }

-- sorted(cons(y, l)) = true => sorted(insert(x, cons(y, l))) = true
abbrev pub inserted : Clause
inserted =
    clause_of (equals (sorted_term (cons_term (var 1) (var 2))) true_term ∷ [])
    (equals (sorted_term (insert_term (var 0) (cons_term (var 1) (var 2)))) true_term ∷ [])

-- le(x, y) = false, and le(y, x) = false
abbrev pub less : Equation
less = equals (le_term (var 0) (var 1)) false_term

abbrev pub greater : Equation
greater = equals (le_term (var 1) (var 0)) false_term

-- a place in the left side of conclusion 1
abbrev pub at : List ℕ → Place
at path = record { conclusion = true; number = 1; left = true; path = path }

-- the cases of l are nil and cons
abbrev pub list_cases : Step
list_cases = Cover (record { 0 = 2 }) (nil_term ∷ cons_term (var 0) (var 1) ∷ [])

-- goal same(x : Nat, y : Nat) : plus(y, x) = y
abbrev pub swapped_goal : Goal
swapped_goal = record same_goal { conclusions = equals (plus_term (var 1) (var 0)) (var 1) ∷ [] }

-- the words of a step of the goal 0, at a node with these names, where the node that it refers to has
-- the variable a alone
abbrev pub insertion_words : Step → List ℕ
insertion_words step = shown_by (step_events insertion 0 x_y_l (codes "a" ∷ []) step)

-- the heading of the child at this place of a node with one premise; its names are the same, and those
-- of the pattern are m and k
abbrev pub heading : Step → ℕ → Clause → List ℕ
heading step place child =
    shown_by (case_events insertion_sig x_y_l (codes "m" ∷ codes "k" ∷ []) x_y_l 1 step place child)

pub record WorkedExamples : Type 0 where
  -- the term at a place is marked, and nothing is where there is no such place
  pub marked : shown_by (clause_events insertion_sig x_y_l (Some (at (1 ∷ []))) inserted)
      ≡ codes "sorted(cons(y, l)) = true => sorted([insert(x, cons(y, l))]) = true"
  pub no_place : shown_by (clause_events insertion_sig x_y_l (Some (at (1 ∷ 3 ∷ []))) inserted)
      ≡ codes "sorted(cons(y, l)) = true => sorted(insert(x, cons(y, l))) = true"
  -- premises and conclusions are set apart, and the last premise ends with the arrow
  pub two_premises : shown_by (clause_events insertion_sig x_y_l None (clause_of (less ∷ greater ∷ []) []))
      ≡ codes "le(x, y) = false, le(y, x) = false =>"
  pub two_conclusions : shown_by (clause_events insertion_sig x_y_l None (clause_of [] (less ∷ greater ∷ [])))
      ≡ codes "le(x, y) = false | le(y, x) = false"
  -- of 151 symbols those to depth 6 are shown
  pub large : shown_by (side_events naturals_sig [] None (number 150))
      ≡ codes "succ(succ(succ(succ(succ(succ(" ++ omitted ++ codes "))))))"
  -- a goal's clause has its variables by first occurrence
  pub names : goal_names swapped_goal ≡ codes "y" ∷ codes "x" ∷ []
  -- a rule has its own names and its guards
  pub guarded : shown_by (rule_events insertion_sig sorted_if_rule)
      ≡ codes "sorted(cons(x, cons(y, l))) = sorted(cons(y, l)) if le(x, y)"
  pub unless : shown_by (rule_events insertion_sig sorted_unless_rule)
      ≡ codes "sorted(cons(x, cons(y, l))) = false unless le(x, y)"
  -- steps
  pub decompose : insertion_words (Decompose true 1) ≡ codes "strip the constructor of conclusion 1"
  pub cover : insertion_words list_cases ≡ codes "split on l"
  pub rule : insertion_words (Rule (at []) 6)
      ≡ codes "by rule 6: sorted(cons(x, cons(y, l))) = sorted(cons(y, l)) if le(x, y)"
  pub case : insertion_words (Case (at []) 1)
      ≡ codes "split on the tests of rule 1: le(zero, y) = true"
  -- the term that is put for a variable has the names of the node, and the variable that of the node
  -- that is referred to
  pub subsume : insertion_words (Subsume 5 (succ_term (var 1) ∷ []))
      ≡ codes "induction hypothesis: node 5 with a := succ(y)"
  pub hyp : insertion_words (Hyp 0 (var 1 ∷ []) (at []) false)
      ≡ codes "by the goal itself as induction hypothesis, from right to left, with a := y"
  -- a lemma is written out
  pub lemma : shown_by (step_events naturals 0 x_y_l [] (ByLemma (codes "unit") (succ_term (var 1) ∷ [])))
      ≡ codes "lemma unit: plus(x, zero) = x with x := succ(y)"
  -- the heading of a case is the pattern, the further premises, or its number
  pub pattern : heading list_cases 1 inserted ≡ codes "l = cons(m, k)"
  pub premises : heading (Case (at []) 6) 0 (clause_of (less ∷ greater ∷ []) []) ≡ codes "le(y, x) = false"
  pub part : heading (Decompose true 1) 1 inserted ≡ codes "part 2"
