-- How many moves are left before the next use of a rule, at most, and how many cells a run adds.
use Rattle.std.specs.Prelude.{ℕ, suc, ◌+◌, ◌*◌, ◌-◌, max, List, [], ◌∷◌, length, drop, reverse}
use Rattle.spec_core.specs.declared.records.Rule.{Rule}
use Rattle.rule_code.specs.Code.{Step, End, slot, last, decide}
use Rattle.rule_code.specs.Instructions.{Instruction, does, ends}
use Rattle.rule_code.specs.Programs.{Program}
use Rattle.bank_machine.specs.declared.held.Held.{Held}
use Rattle.bank_machine.specs.Stacks.{Stack}
use Rattle.bank_machine.specs.States.{Frame, State}

-- the most guards of a rule
abbrev pub most_guards : List Rule → ℕ
most_guards [] = 0
most_guards (r ∷ rs) = max (length r.guards) (most_guards rs)

-- if a rule has at most `most` guards, and a block at most `room` instructions
module _ (most room : ℕ) where
  -- the moves after an end: a test leads to one with a higher number
  abbrev pub behind : End → ℕ
  behind (slot s) = 0
  behind (last f ss) = 0
  behind (decide s number k homes) = (most - k) * room

  abbrev pub moves_from : List Instruction → ℕ
  moves_from [] = 0
  moves_from (does s ∷ is) = suc (moves_from is)
  moves_from (ends e ∷ is) = suc (behind e)

  abbrev pub held_moves : List Instruction → List Held → ℕ
  held_moves code [] = 0
  held_moves code (h ∷ hs) = moves_from (drop h.next code) + held_moves code hs

  -- the same of frames
  abbrev pub block_moves : List Step → End → ℕ
  block_moves steps end = length steps + suc (behind end)

  abbrev pub frames_moves : List Frame → ℕ
  frames_moves [] = 0
  frames_moves (f ∷ fs) = block_moves f.steps f.end + frames_moves fs

  abbrev pub state_moves : State → ℕ
  state_moves s = block_moves s.top.steps s.top.end + frames_moves s.waiting

abbrev pub stack_moves : Program → Stack → ℕ
stack_moves p s = moves_from (most_guards p.spec.rules) (suc (length p.code)) (drop s.next p.code)
    + held_moves (most_guards p.spec.rules) (suc (length p.code)) p.code (reverse s.waiting)

-- what a use of a rule can add to it
abbrev pub call_moves : Program → ℕ
call_moves p = suc (length p.code + most_guards p.spec.rules * suc (length p.code))

-- falls at each move, if this many uses of rules are left
abbrev pub fuel : Program → Stack → ℕ → ℕ
fuel p s left = left * call_moves p + stack_moves p s

-- the most cells that a run within the budget adds: the term, and then each use of a rule, runs through at most
-- this many instructions, of which each adds one cell at most
unfoldable pub most_added : Program → ℕ → ℕ
most_added p budget = suc budget * (suc (length p.code) * suc (most_guards p.spec.rules))
