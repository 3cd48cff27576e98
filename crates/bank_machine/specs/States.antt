-- States of the machine, what they give, and its moves.
use Rattle.std.specs.Prelude.{◌≡◌, ℕ, suc, ◌+◌, List, [], ◌∷◌, ◌++◌, Some, slice_get, length}
use Rattle.term_core.specs.Tree.{Tree, Trees, var, app, instance}
use Rattle.spec_core.specs.declared.records.Rule.{Rule}
use Rattle.spec_core.specs.declared.records.Spec.{Spec}
use Rattle.spec_core.specs.Sig.{IsConstructor}
use Rattle.spec_core.specs.Sorts.{Sorted, AreBuilt}
use Rattle.term_core.specs.declared.ids.SortId.{SortId}
use Rattle.term_core.specs.Variables.{Numbered}
use Rattle.spec_core.specs.Gives.{Gives}
use Rattle.rule_code.specs.Tests.{GoesOn}
use Rattle.rule_code.specs.Code.{Step, build, call, End, slot, last, decide, slots, entries, Does}
use Rattle.rule_code.specs.Compiled.{Fills, IsNext}
use Rattle.rule_code.specs.Homes.{AreOwnHomes}

-- code that is under way: its slots so far, its further steps and its end
pub record Frame : Type 0 where
  pub env : List Tree
  pub steps : List Step
  pub end : End

abbrev pub frame : List Tree → List Step → End → Frame
frame env steps end = record { env = env; steps = steps; end = end }

-- the frame that is worked at, and those that wait, each for the value of the one before it
pub record State : Type 0 where
  pub top : Frame
  pub waiting : List Frame

abbrev pub state : List Tree → List Step → End → List Frame → State
state env steps end waiting = record { top = frame env steps end; waiting = waiting }

module _ (spec : Spec) where
  -- if the first waiting frame gets the value v, all of them give w at the cost
  abbrev pub Resumes : List Frame → Tree → Tree → ℕ → Type 0
  Resumes [] v w n = (w ≡ v) × (n ≡ 0)
  Resumes (f ∷ fs) v w n = (u : Tree) × (m : ℕ) × (k : ℕ)
      × Does spec (f.env ++ v ∷ []) f.steps f.end u m × Resumes fs u w k × (n ≡ m + k)

  -- the state gives the value at the cost
  abbrev pub StateGives : State → Tree → ℕ → Type 0
  StateGives s w n = (u : Tree) × (m : ℕ) × (k : ℕ) × Does spec s.top.env s.top.steps s.top.end u m
      × Resumes s.waiting u w k × (n ≡ m + k)

  -- a frame for the call of f with these values: a rule matches them, its variables are in slots, and the code of its
  -- first test is under way, or that of its right side
  pub record Enters (f : ℕ) (vs : Trees) (entered : Frame) : Type 0 where
    pub number : ℕ
    pub rule : Rule
    pub xs : List Tree
    pub homes : List ℕ
    pub listed : slice_get spec.rules number ≡ Some rule
    pub function : ¬ (IsConstructor spec.sig f)
    pub built : AreBuilt spec.sig vs
    pub sorted : (s : SortId) × Sorted spec.sig [] (app f vs) s
    pub numbered : Numbered 0 rule.left (length xs)
    pub matches : instance xs rule.left ≡ app f vs
    pub fills : Fills spec.sig homes entered.env xs
    pub code : IsNext spec.sig homes number rule 0 (length entered.env) entered.steps entered.end
    pub own : AreOwnHomes spec.rules number (length entered.env) homes

  -- a frame that goes on if the rule's test k has its answer in a slot: a rule with the same left side goes on with
  -- the answer, the variables' slots stay, and the code of its next test is under way, or that of its right side
  pub record Follows (env : List Tree) (s number k : ℕ) (homes : List ℕ) (entered : Frame) : Type 0
    where
      pub rule : Rule
      pub listed : slice_get spec.rules number ≡ Some rule
      pub other : ℕ
      pub next : Rule
      pub there : slice_get spec.rules other ≡ Some next
      pub left : next.left ≡ rule.left
      pub on : GoesOn k (instance env (var s)) rule.guards next.guards
      pub fills : Fills spec.sig homes entered.env (entries env homes)
      pub code : IsNext spec.sig homes other next (suc k) (length entered.env) entered.steps
          entered.end
      pub own : AreOwnHomes spec.rules other (length entered.env) homes

  -- a move of the machine, and the rule uses that it costs. A call whose value and cost are known need not be entered
  pub data Moves : State → ℕ → State → Type 0 where
    builds : {env : List Tree} {f : ℕ} {ss : List ℕ} {steps : List Step} {end : End}
        {waiting : List Frame} → Moves (state env (build f ss ∷ steps) end waiting) 0
        (state (env ++ app f (slots env ss) ∷ []) steps end waiting)
    enters : {env : List Tree} {f : ℕ} {ss : List ℕ} {steps : List Step} {end : End}
        {waiting : List Frame} (entered : Frame) → Enters f (slots env ss) entered
        → Moves (state env (call f ss ∷ steps) end waiting) 1
        (record { top = entered; waiting = frame env steps end ∷ waiting })
    enters_last : {env : List Tree} {f : ℕ} {ss : List ℕ} {waiting : List Frame} (entered : Frame)
        → Enters f (slots env ss) entered → Moves (state env [] (last f ss) waiting) 1
        (record { top = entered; waiting = waiting })
    returns : {env : List Tree} {s : ℕ} {waiting : List Frame} (back : Frame)
        → Moves (state env [] (slot s) (back ∷ waiting)) 0
        (state (back.env ++ instance env (var s) ∷ []) back.steps back.end waiting)
    decides : {env : List Tree} {s number k : ℕ} {homes : List ℕ} {waiting : List Frame}
        (entered : Frame) → Follows env s number k homes entered
        → Moves (state env [] (decide s number k homes) waiting) 0
        (record { top = entered; waiting = waiting })
    recalls : {env : List Tree} {f : ℕ} {ss : List ℕ} {steps : List Step} {end : End}
        {waiting : List Frame} (v : Tree) (c : ℕ) (s : SortId)
        → Sorted spec.sig [] (app f (slots env ss)) s → Gives spec (app f (slots env ss)) v c
        → Moves (state env (call f ss ∷ steps) end waiting) c
        (state (env ++ v ∷ []) steps end waiting)

  -- the next step, or the end if there is none, is the call of a function with these values
  abbrev pub CallsIn : List Tree → List Step → End → ℕ → Trees → Type 0
  CallsIn env [] (slot s) f vs = ⊥
  CallsIn env [] (decide s number k homes) f vs = ⊥
  CallsIn env [] (last g ss) f vs = (g ≡ f) × (slots env ss ≡ vs)
  CallsIn env (build g ss ∷ steps) end f vs = ⊥
  CallsIn env (call g ss ∷ steps) end f vs = (g ≡ f) × (slots env ss ≡ vs)

  -- the next move of the state is the call of a function with these values
  abbrev pub CallsNext : State → ℕ → Trees → Type 0
  CallsNext s f vs = CallsIn s.top.env s.top.steps s.top.end f vs

  -- at the end of the code is the answer of a test with which no rule with the same left side goes on
  abbrev pub NoneGoesIn : List Tree → List Step → End → Type 0
  NoneGoesIn env [] (slot s) = ⊥
  NoneGoesIn env [] (last g ss) = ⊥
  NoneGoesIn env [] (decide s number k homes) = (rule next : Rule) (other : ℕ)
      → slice_get spec.rules number ≡ Some rule → slice_get spec.rules other ≡ Some next
      → next.left ≡ rule.left → GoesOn k (instance env (var s)) rule.guards next.guards → ⊥
  NoneGoesIn env (step ∷ steps) end = ⊥

  -- no rule with the same left side goes on if the next move is the answer of a test
  abbrev pub NoneGoesOn : State → Type 0
  NoneGoesOn s = NoneGoesIn s.top.env s.top.steps s.top.end

  -- moves one after the other, and what they cost together
  pub data Runs : State → ℕ → State → Type 0 where
    stays : {s : State} → Runs s 0 s
    then : {s mid end : State} {c d n : ℕ} → Runs s c mid → Moves mid d end → n ≡ c + d
        → Runs s n end
