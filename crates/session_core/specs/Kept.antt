-- What a session keeps of its goals, and that it keeps a state.
use Rattle.std.specs.Prelude.{◌≡◌, ℕ, List, [], ◌∷◌, ◌++◌, Option, Some, None, map, slice_get}
use Rattle.term_core.specs.Tree.{Tree}
use Rattle.spec_core.specs.declared.records.Spec.{Spec}
use Rattle.clause_core.specs.declared.answers.Children.{Children}
use Rattle.clause_core.specs.declared.clauses.Clause.{Clause}
use Rattle.clause_core.specs.declared.reports.Claim.{Claim}
use Rattle.clause_core.specs.Tidied.{goal_clause}
use Rattle.acceptance.specs.Blocks.{nodes_of, StepsMake}
use Rattle.acceptance.specs.Claims.{ProvedBefore}
use Rattle.block_links.specs.Links.{links_of}
use Rattle.session_core.specs.States.{Work, State, proves}
use Rattle.session_core.specs.Lengths.{lengths_after}

-- of a goal: its number, its nodes, the links from those with a step, and for each step the bytes up
-- to the end of its line, from that of the first step on
pub record Kept : Type 0 where
  pub number : ℕ
  pub nodes : List Clause
  pub links : List Children
  pub lengths : List ℕ

module _ (above : Tree → Tree → Type 0) (spec : Spec) where
  -- these are the goal's number, its nodes, its links and the lengths of its lines, if its steps
  -- make this after these claims
  pub record IsKept (before : List Claim) (work : Work) (kept : Kept) : Type 0 where
    pub number : slice_get spec.goals kept.number ≡ Some work.goal
    pub makes :
        StepsMake above spec (ProvedBefore spec before) (goal_clause work.goal ∷ []) 0 work.steps
        work.made
    pub nodes : kept.nodes ≡ nodes_of (goal_clause work.goal) work.made
    pub links : kept.links ≡ map links_of work.made
    pub lengths : kept.lengths ≡ lengths_after spec.sig 0 work.steps

  -- the same of each proved claim, after those before it
  abbrev pub AreKept : List Claim → List Claim → List Kept → Type 0
  AreKept before [] [] = Unit {0}
  AreKept before [] (kept ∷ others) = ⊥
  AreKept before (claim ∷ claims) [] = ⊥
  AreKept before (claim ∷ claims) (kept ∷ others) =
      ((work : Work) × (claim ≡ proves work.goal work.steps) × IsKept before work kept)
      × AreKept (before ++ claim ∷ []) claims others

  -- and of the goal under work, if there is one
  abbrev pub WorkIsKept : List Claim → Option Work → List Kept → Type 0
  WorkIsKept claims None [] = Unit {0}
  WorkIsKept claims (Some work) (kept ∷ []) = IsKept claims work kept
  WorkIsKept claims None (kept ∷ others) = ⊥
  WorkIsKept claims (Some work) [] = ⊥
  WorkIsKept claims (Some work) (kept ∷ other ∷ others) = ⊥

  -- the session keeps this state
  pub record Keeps (state : State) (goals : List Kept) : Type 0 where
    pub finished : List Kept
    pub last : List Kept
    pub is : goals ≡ finished ++ last
    pub claims : AreKept [] state.claims finished
    pub work : WorkIsKept state.claims state.work last
