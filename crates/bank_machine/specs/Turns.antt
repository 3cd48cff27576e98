-- One move of the machine, over its stack and a bank.
use Rattle.std.specs.Prelude.{◌≡◌, ℕ, ◌-◌, ◌≤◌, List, []}
use Rattle.term_core.specs.Tree.{Tree, var, instance}
use Rattle.term_core.specs.declared.ids.SortId.{SortId}
use Rattle.spec_core.specs.Groups.{GroupsAreWhole}
use Rattle.spec_core.specs.Overlap.{NoOverlap}
use Rattle.value_bank.specs.Cells.{Cell, IsTerm}
use Rattle.rule_code.specs.Code.{slot}
use Rattle.rule_code.specs.Programs.{Program}
use Rattle.bank_machine.specs.declared.turns.Turn.{Turn}
use Rattle.bank_machine.specs.declared.turns.Turn.TheVariants.{Moved, Done, Stuck}
use Rattle.bank_machine.specs.Owed.{Pays}
use Rattle.bank_machine.specs.Ranged.{IsRangedState}
use Rattle.bank_machine.specs.Sound.{IsSound}
use Rattle.bank_machine.specs.Stacks.{Stack, IsAt}
use Rattle.bank_machine.specs.States.{State, state, StateGives, Moves}

module _ (p : Program) where
  -- the stack stands for a state, each call that comes is ready, and the slots are there that the code looks at
  pub record Works (cells : List Cell) (stack : Stack) (s : State) (sort : SortId) : Type 0 where
    pub at : IsAt p.code cells stack s
    pub sound : IsSound p.spec s sort
    pub ranged : IsRangedState p.spec.rules s

  abbrev pub IsWorking : List Cell → Stack → Type 0
  IsWorking cells stack = (s : State) × (sort : SortId) × Works cells stack s sort

  -- the same, if this much of the budget is left, and what is paid since each call began is part of its cost
  abbrev pub IsUnderWay : List Cell → ℕ → Stack → Type 0
  IsUnderWay cells left stack =
      (s : State) × (sort : SortId) × Works cells stack s sort × Pays p left stack s

  -- the stack stands for a next state, after a move of this cost
  abbrev pub IsMoved : List Cell → ℕ → Stack → State → ℕ → Type 0
  IsMoved cells left stack s cost = (next : State) × Moves p.spec s cost next
      × IsAt p.code cells stack next × Pays p (left - cost) stack next

  -- a move whose cost is within what is left; the value's place, at the end of the last frame; or if left sides don't
  -- overlap and groups are whole, what the state gives costs more than what is left, if it gives anything
  abbrev pub Turns : List Cell → ℕ → Stack → State → Turn → Type 0
  Turns cells left stack s (Moved cost) = (cost ≤ left) × IsMoved cells left stack s cost
  Turns cells left stack s (Done place) = (env : List Tree) × (i : ℕ)
      × (s ≡ state env [] (slot i) []) × IsTerm cells place (instance env (var i))
  Turns cells left stack s Stuck = NoOverlap p.spec → GroupsAreWhole p.spec → (w : Tree) (n : ℕ)
      → StateGives p.spec s w n → n ≤ left → ⊥

  -- the same of whatever state the stack stood for
  abbrev pub IsTurn : List Cell → List Cell → ℕ → Stack → Stack → Turn → Type 0
  IsTurn old new left before after turn = (s : State) (sort : SortId) → Works old before s sort
      → Pays p left before s → Turns new left after s turn
