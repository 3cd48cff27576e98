-- What is left to draw of a tree, as a stack.
use Rattle.std.specs.Prelude.{◌≡◌, ◌+◌, ◌-◌, ◌*◌, ◌≤◌, ℕ, suc, List, [], ◌∷◌, ◌++◌, length}
use Rattle.std.specs.List.{AllByRecursion}
use Rattle.page_core.specs.declared.parts.Part.TheVariants.{Case}
use Rattle.page_core.specs.Events.{Event, ends}
use Rattle.page_core.specs.Pages.{PageValue, after}
use Rattle.proof_trees.specs.declared.trees.Pending.{Pending}
use Rattle.proof_trees.specs.declared.trees.Pending.TheVariants.{Tree, Cases, EndCase}
use Rattle.proof_trees.specs.Trees.{Outline, cases, tree}

module _ (o : Outline) (nodes : ℕ) where
  -- the tree of node k, drawn as deep as there are nodes
  abbrev pub whole : ℕ → List Event
  whole k = tree o (suc (nodes - k)) k

  abbrev pub left_of : Pending → List Event
  left_of (Tree node) = whole node
  left_of (Cases parent index left) = cases o whole parent index left
  left_of EndCase = ends Case ∷ []

  -- what is left of a stack, whose last item comes first
  abbrev pub lefts : List Pending → List Event
  lefts [] = []
  lefts (p ∷ ps) = lefts ps ++ left_of p

  -- cases are some of those that their node has
  abbrev pub IsPending : Pending → Type 0
  IsPending (Tree node) = Unit {0}
  IsPending (Cases parent index left) = index + left ≡ o.count parent
  IsPending EndCase = Unit {0}

  -- how much is left to do
  abbrev pub work : List Pending → ℕ
  work stack = 2 * length (lefts stack) + length stack

  -- what comes next of a stack is drawn, and what is left of it is put back
  pub record DrawsNext (next : Pending) (old new : List Pending) (before after_it : PageValue) :
      Type 0 where
    pub drawn : List Event
    pub page : after_it ≡ after before drawn
    pub more : List Pending
    pub stack : new ≡ old ++ more
    pub same : drawn ++ lefts more ≡ left_of next
    pub falls : length more ≤ 2 * length drawn
    pub pending : AllByRecursion IsPending more
