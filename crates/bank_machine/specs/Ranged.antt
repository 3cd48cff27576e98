-- Code whose slots are there.
use Rattle.std.specs.Prelude.{ℕ, suc, ◌<◌, List, [], ◌∷◌, length}
use Rattle.std.specs.List.{AllByRecursion}
use Rattle.spec_core.specs.declared.records.Rule.{Rule}
use Rattle.rule_code.specs.Code.{Step, build, call, End, slot, last, decide}
use Rattle.rule_code.specs.Homes.{AreOwnHomes}
use Rattle.bank_machine.specs.States.{Frame, State}

abbrev pub AreThere : ℕ → List ℕ → Type 0
AreThere n ss = AllByRecursion (λ (s : ℕ). s < n) ss

module _ (rules : List Rule) where
  abbrev pub IsRangedEnd : ℕ → End → Type 0
  IsRangedEnd n (slot s) = s < n
  IsRangedEnd n (last f ss) = AreThere n ss
  IsRangedEnd n (decide s number k homes) =
      (s < n) × AreThere n homes × AreOwnHomes rules number n homes

  -- if n slots are there, and each step adds one, the steps and the end look at slots that are there
  abbrev pub IsRanged : ℕ → List Step → End → Type 0
  IsRanged n [] end = IsRangedEnd n end
  IsRanged n (build f ss ∷ steps) end = AreThere n ss × IsRanged (suc n) steps end
  IsRanged n (call f ss ∷ steps) end = AreThere n ss × IsRanged (suc n) steps end

  -- the same for the frames of a state, of which those that wait get one more slot
  abbrev pub WaitRanged : List Frame → Type 0
  WaitRanged fs = AllByRecursion (λ (f : Frame). IsRanged (suc (length f.env)) f.steps f.end) fs

  pub record IsRangedState (s : State) : Type 0 where
    pub top : IsRanged (length s.top.env) s.top.steps s.top.end
    pub waiting : WaitRanged s.waiting
