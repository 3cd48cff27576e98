-- What is written of each node of a block, and over each case.
use Rattle.std.specs.Prelude.{ℕ, ◌+◌, nat_lt, Bool, true, false, ◌||◌, List, [], ◌∷◌, ◌++◌, Option, Some, None, codes}
use Rattle.std.specs.Prelude.{length, slice_get}
use Rattle.std.specs.Fmt.{decimal}
use Rattle.spec_core.specs.declared.records.Spec.{Spec}
use Rattle.clause_core.specs.declared.answers.Children.{Children}
use Rattle.clause_core.specs.declared.clauses.Clause.{Clause}
use Rattle.clause_core.specs.declared.steps.Place.{Place}
use Rattle.clause_core.specs.declared.steps.Step.{Step}
use Rattle.clause_core.specs.declared.steps.Step.TheVariants.{Subsume, Hyp, Cover, Case}
use Rattle.acceptance.specs.Strict.{first_child}
use Rattle.node_names.specs.declared.names.NodeNames.{NodeNames}
use Rattle.page_core.specs.declared.parts.Anchor.TheVariants.{Node as to_node}
use Rattle.page_core.specs.declared.parts.Part.TheVariants.{Node as node_line, Step as step_line, CaseHeading}
use Rattle.page_core.specs.declared.parts.Style.TheVariants.{Plain}
use Rattle.page_core.specs.Events.{Event, link, text, within}
use Rattle.proof_words.specs.CaseEvents.{case_events}
use Rattle.proof_words.specs.ClauseEvents.{clause_events}
use Rattle.proof_words.specs.StepEvents.{step_events, marked_place}
use Rattle.proof_trees.specs.Trees.{Outline, tree}

-- A block of the goal of this number: its nodes' clauses and steps, what the steps make, and names
-- for the variables at each node.
pub record ShownBlock : Type 0 where
  pub spec : Spec
  pub goal : ℕ
  pub clauses : List Clause
  pub steps : List Step
  pub made : List Children
  pub names : List NodeNames

abbrev pub variable_names : Option NodeNames → List (List ℕ)
variable_names None = []
variable_names (Some names) = names.variables

abbrev pub pattern_names : Option NodeNames → List (List ℕ)
pattern_names None = []
pattern_names (Some names) = names.pattern

abbrev pub premise_count : Option Clause → ℕ
premise_count None = 0
premise_count (Some c) = length c.premises

-- how many children these are
abbrev pub child_count : Option Children → ℕ
child_count None = 0
child_count (Some m) = length m.clauses

-- `cover` and `case` split a node into cases
abbrev pub splits : Option Step → Bool
splits (Some (Cover variable patterns)) = true
splits (Some (Case place rule)) = true
splits other = false

-- the place that a step rewrites, if there is a step
abbrev pub step_mark : Option Step → Option Place
step_mark None = None
step_mark (Some step) = marked_place step

module _ (b : ShownBlock) where
  -- the names of the variables at node k
  abbrev pub names_at : ℕ → List (List ℕ)
  names_at k = variable_names (slice_get b.names k)

  -- the names at the node that a step refers to
  abbrev pub referred_names : Step → List (List ℕ)
  referred_names (Subsume node terms) = names_at node
  referred_names (Hyp node terms place left) = names_at node
  referred_names other = []

  -- the clause of node k, where the place of its step is marked
  abbrev pub shown_clause : ℕ → Option Place → Option Clause → List Event
  shown_clause k mark None = []
  shown_clause k mark (Some c) = clause_events b.spec.sig (names_at k) mark c

  -- what the step of node k says
  abbrev pub shown_step : ℕ → Option Step → List Event
  shown_step k None = []
  shown_step k (Some step) = step_events b.spec b.goal (names_at k) (referred_names step) step

  -- the lines of node k: its number and its clause, and what its step says
  abbrev pub node_events : ℕ → List Event
  node_events k =
      within (node_line b.goal k)
      (link (to_node b.goal k) (decimal k) ∷ text Plain (codes "  ")
      ∷ shown_clause k (step_mark (slice_get b.steps k)) (slice_get b.clauses k))
      ++ within step_line (shown_step k (slice_get b.steps k))

  -- the heading of case i of node k, whose child is node j
  abbrev pub shown_case : ℕ → ℕ → ℕ → Option Step → Option Clause → List Event
  shown_case k i j (Some step) (Some child) =
      case_events b.spec.sig (names_at k) (pattern_names (slice_get b.names j)) (names_at j)
      (premise_count (slice_get b.clauses k)) step i child
  shown_case k i j (Some step) None = []
  shown_case k i j None child = []

  abbrev pub heading_events : ℕ → ℕ → List Event
  heading_events k i =
      let j = first_child b.made k + i in
      within CaseHeading (shown_case k i j (slice_get b.steps k) (slice_get b.clauses j))

  -- the outline of the block: children are cases where a step splits, or makes several
  abbrev pub outline : Outline
  outline = record {
    own = node_events;
    heading = heading_events;
    first = first_child b.made;
    count = λ k. child_count (slice_get b.made k);
    has_cases =
        λ k. splits (slice_get b.steps k) || nat_lt 1 (child_count (slice_get b.made k));
  }

  -- the whole block, from its first node down
  abbrev pub block_events : List Event
  block_events = tree outline (length b.clauses + 1) 0
