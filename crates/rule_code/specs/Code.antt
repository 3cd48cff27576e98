-- Straight code over slots, and what it gives.
use Rattle.std.specs.Prelude.{◌≡◌, ℕ, ◌+◌, List, [], ◌∷◌, ◌++◌, Some, slice_get}
use Rattle.term_core.specs.Tree.{Tree, Trees, var, app, none, some, instance}
use Rattle.spec_core.specs.declared.records.Rule.{Rule}
use Rattle.spec_core.specs.declared.records.Spec.{Spec}
use Rattle.spec_core.specs.Gives.{Gives}
use Rattle.rule_code.specs.Tests.{IsDecided}

-- a step puts a symbol with the values of slots into the next slot, or what the call of a function with them gives
pub data Step : Type 0 where
  build : ℕ → List ℕ → Step
  call : ℕ → List ℕ → Step

-- at its end the code gives the value of a slot, or what the call of a function with slots gives; or it has in a slot
-- the answer of a test of a rule, by its number, whose variables have these slots
pub data End : Type 0 where
  slot : ℕ → End
  last : ℕ → List ℕ → End
  decide : ℕ → ℕ → ℕ → List ℕ → End

-- the values of slots, as arguments and as a list
abbrev pub slots : List Tree → List ℕ → Trees
slots env [] = none
slots env (s ∷ ss) = some (instance env (var s)) (slots env ss)

abbrev pub entries : List Tree → List ℕ → List Tree
entries env [] = []
entries env (s ∷ ss) = instance env (var s) ∷ entries env ss

module _ (spec : Spec) where
  abbrev pub Ends : List Tree → End → Tree → ℕ → Type 0
  Ends env (slot s) w n = (w ≡ instance env (var s)) × (n ≡ 0)
  Ends env (last f ss) w n = Gives spec (app f (slots env ss)) w n
  Ends env (decide s number k homes) w n = (rule : Rule) × (slice_get spec.rules number ≡ Some rule)
      × IsDecided spec (entries env homes) rule k (instance env (var s)) w n

  -- from these slots on the code gives the value at the cost: each call gives by the definition of evaluation
  abbrev pub Does : List Tree → List Step → End → Tree → ℕ → Type 0
  Does env [] end w n = Ends env end w n
  Does env (build f ss ∷ steps) end w n = Does (env ++ app f (slots env ss) ∷ []) steps end w n
  Does env (call f ss ∷ steps) end w n = (v : Tree) × (m : ℕ) × (k : ℕ)
      × Gives spec (app f (slots env ss)) v m × Does (env ++ v ∷ []) steps end w k × (n ≡ m + k)
