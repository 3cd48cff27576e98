-- States as a stack of places and a list of waiting frames.
use Rattle.std.specs.Prelude.{◌≡◌, ℕ, ◌+◌, ◌≤◌, List, [], ◌∷◌, ◌++◌, Option, Some, None, take, drop, length}
use Rattle.std.specs.Prelude.{slice_index, reverse}
use Rattle.term_core.specs.Tree.{trees_of}
use Rattle.value_bank.specs.Cells.{Cell, AreTerms}
use Rattle.rule_code.specs.Instructions.{Instruction, IsCodeAt}
use Rattle.rule_code.specs.Code.{Step, End}
use Rattle.bank_machine.specs.declared.held.Held.{Held}
use Rattle.bank_machine.specs.declared.stack.Stack.{Stack as Kept}
use Rattle.bank_machine.specs.States.{Frame, State}

abbrev pub held : ℕ → ℕ → ℕ → Held
held base next left = record { base = base; next = next; left = left }

-- the places of the slots of all frames; where those of the frame begin that is worked at, and where its code goes on; and
-- the frames that wait, the last one last
pub record Stack : Type 0 where
  pub places : List ℕ
  pub base : ℕ
  pub next : ℕ
  pub waiting : List Held

abbrev pub stack : List ℕ → ℕ → ℕ → List Held → Stack
stack places base next waiting =
    record { places = places; base = base; next = next; waiting = waiting }

abbrev pub shown : Kept → Stack
shown s = stack s.places.items s.base s.next s.held.items

-- the places of slots
abbrev pub gathered : List ℕ → ℕ → List ℕ → List ℕ
gathered places base [] = []
gathered places base (s ∷ ss) = slice_index places (base + s) ∷ gathered places base ss

-- the last frame that waits, which began to wait when this much was left, goes on with this place in its next slot; or
-- none waits
abbrev pub IsReturned : Stack → Stack → ℕ → Option ℕ → Type 0
IsReturned old new place (Some left) = (rest : List Held) × (back : Held)
    × (old.waiting ≡ rest ++ back ∷ []) × (left ≡ back.left)
    × (new ≡ stack (take old.base old.places ++ place ∷ []) back.base back.next rest)
IsReturned old new place None = (old.waiting ≡ []) × (new ≡ old)

module _ (cells : List Cell) (CodeAt : ℕ → List Step → End → Type 0) (stack : List ℕ) where
  -- below `base` the stack has the places of the slots of the frames that wait, the last one first
  abbrev pub Waits : ℕ → List Held → List Frame → Type 0
  Waits base [] [] = base ≡ 0
  Waits base (h ∷ hs) (f ∷ fs) = (h.base ≤ base)
      × AreTerms cells (drop h.base (take base stack)) (trees_of f.env)
      × CodeAt h.next f.steps f.end × Waits h.base hs fs
  Waits base [] (f ∷ fs) = ⊥
  Waits base (h ∷ hs) [] = ⊥

  -- the stack, the base of its last frame, the place of its code and the frames that wait stand for the state
  pub record Stands (base next : ℕ) (held : List Held) (state : State) : Type 0 where
    pub within : base ≤ length stack
    pub slots : AreTerms cells (drop base stack) (trees_of state.top.env)
    pub code : CodeAt next state.top.steps state.top.end
    pub waits : Waits base held state.waiting

-- over this code and these cells the stack stands for the state
abbrev pub IsAt : List Instruction → List Cell → Stack → State → Type 0
IsAt code cells s state =
    Stands cells (IsCodeAt code) s.places s.base s.next (reverse s.waiting) state
