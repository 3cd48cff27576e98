-- States in which each call that comes is sorted, and has values as its arguments.
use Rattle.std.specs.Prelude.{◌≡◌, ℕ, List, [], ◌∷◌, ◌++◌, Some, slice_get}
use Rattle.term_core.specs.Tree.{Tree, Trees, var, app, instance}
use Rattle.term_core.specs.declared.ids.SortId.{SortId}
use Rattle.spec_core.specs.declared.records.Rule.{Rule}
use Rattle.spec_core.specs.declared.records.Spec.{Spec}
use Rattle.spec_core.specs.Sig.{IsConstructor}
use Rattle.std.specs.List.{AllByRecursion}
use Rattle.spec_core.specs.Sorts.{Sorted, IsBuilt, AreBuilt, IsValue}
use Rattle.rule_code.specs.Code.{Step, build, call, End, slot, last, decide, slots, entries}
use Rattle.bank_machine.specs.States.{Frame, State}

module _ (spec : Spec) where
  -- the call of a function with values is sorted
  pub record IsReady (f : ℕ) (vs : Trees) (s : SortId) : Type 0 where
    pub function : ¬ (IsConstructor spec.sig f)
    pub built : AreBuilt spec.sig vs
    pub sorted : Sorted spec.sig [] (app f vs) s

  abbrev pub IsFitEnd : List Tree → End → SortId → Type 0
  IsFitEnd env (slot i) s = IsValue spec.sig s (instance env (var i))
  IsFitEnd env (last f ss) s = IsReady f (slots env ss) s
  IsFitEnd env (decide i number k homes) s = (rule : Rule)
      × (slice_get spec.rules number ≡ Some rule)
      × Sorted spec.sig [] (instance (entries env homes) rule.left) s
      × AllByRecursion (λ (t : Tree). IsBuilt spec.sig t) (entries env homes)

  -- each call of the code is ready, whatever values of their sorts the calls before it give, and so is what it gives
  abbrev pub IsFit : List Tree → List Step → End → SortId → Type 0
  IsFit env [] end s = IsFitEnd env end s
  IsFit env (build f ss ∷ steps) end s = IsFit (env ++ app f (slots env ss) ∷ []) steps end s
  IsFit env (call f ss ∷ steps) end s = (u : SortId) × IsReady f (slots env ss) u
      × ((v : Tree) → IsValue spec.sig u v → IsFit (env ++ v ∷ []) steps end s)

  -- the first of these frames waits for a value of the sort u, and all of them give one of the sort s
  abbrev pub WaitFor : List Frame → SortId → SortId → Type 0
  WaitFor [] u s = u ≡ s
  WaitFor (f ∷ fs) u s = (m : SortId)
      × ((v : Tree) → IsValue spec.sig u v → IsFit (f.env ++ v ∷ []) f.steps f.end m)
      × WaitFor fs m s

  abbrev pub IsSound : State → SortId → Type 0
  IsSound state s =
      (u : SortId) × IsFit state.top.env state.top.steps state.top.end u × WaitFor state.waiting u s
