-- What the calls give for which frames wait.
use Rattle.std.specs.Prelude.{◌≡◌, ℕ, suc, ◌+◌, ◌<◌, ◌≤◌, List, [], ◌∷◌, Some, length, slice_get, reverse}
use Rattle.std.specs.List.{AllByRecursion}
use Rattle.term_core.specs.Tree.{Tree, app}
use Rattle.spec_core.specs.declared.records.Spec.{Spec}
use Rattle.spec_core.specs.Gives.{Gives}
use Rattle.rule_code.specs.Code.{call, slots, Does}
use Rattle.rule_code.specs.Instructions.{Instruction, does}
use Rattle.rule_code.specs.Programs.{Program}
use Rattle.bank_machine.specs.declared.held.Held.{Held}
use Rattle.bank_machine.specs.Ranged.{AreThere}
use Rattle.bank_machine.specs.Stacks.{Stack}
use Rattle.bank_machine.specs.States.{Frame, frame, State}

module _ (spec : Spec) (code : List Instruction) where
  -- the frame waits for the call of the function with these slots, and this much of the budget was left when it
  -- began. What the top frame gives, the call gives at its cost and what was paid since then
  pub record IsOwed (top : Frame) (left : ℕ) (held : Held) (waits : Frame) (f : ℕ) (ss : List ℕ) :
      Type 0 where
    pub place : ℕ
    pub next : held.next ≡ suc place
    pub there : slice_get code place ≡ Some (does (call f ss))
    pub range : AreThere (length waits.env) ss
    pub paid : left ≤ held.left
    pub gives : (w : Tree) (n m : ℕ) → Does spec top.env top.steps top.end w n
        → m + left ≡ held.left + n → Gives spec (app f (slots waits.env ss)) w m

  -- so it is for the first frame that waits, and for each other one, if the frame before it is as it was at its call
  abbrev pub Owes : Frame → ℕ → List Held → List Frame → Type 0
  Owes top left [] fs = Unit {0}
  Owes top left (h ∷ hs) [] = Unit {0}
  Owes top left (h ∷ hs) (f ∷ fs) = (g : ℕ) × (ss : List ℕ) × IsOwed top left h f g ss
      × Owes (frame f.env (call g ss ∷ f.steps) f.end) h.left hs fs

module _ (p : Program) where
  -- the same for the frames of a state that the stack stands for
  abbrev pub Pays : ℕ → Stack → State → Type 0
  Pays left stack s = Owes p.spec p.code s.top left (reverse stack.waiting) s.waiting

  -- the step before the next one is the call of the function with these slots, which are there
  pub record HasCalled (stack : Stack) (f : ℕ) (ss : List ℕ) : Type 0 where
    pub place : ℕ
    pub next : stack.next ≡ suc place
    pub there : slice_get p.code place ≡ Some (does (call f ss))
    pub range : AllByRecursion (λ (s : ℕ). stack.base + s < length stack.places) ss
