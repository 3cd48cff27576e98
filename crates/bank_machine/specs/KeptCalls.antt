-- Calls whose values are known.
use Rattle.std.specs.Prelude.{◌≡◌, ◌⊎◌, ℕ, List, Some, slice_get}
use Rattle.term_core.specs.Tree.{Tree, Trees, app}
use Rattle.spec_core.specs.declared.records.Spec.{Spec}
use Rattle.spec_core.specs.Gives.{Gives}
use Rattle.value_bank.specs.Cells.{Cell, IsTerm, AreTerms}
use Rattle.bank_machine.specs.declared.kept_calls.Known.{Known}
use Rattle.bank_machine.specs.declared.kept_calls.KeptCall.{KeptCall}
use Rattle.bank_machine.specs.declared.kept_calls.KeptCalls.{KeptCalls}

-- of the call of this function with arguments at these places this is known
pub record IsKept (call : KeptCall) (f : ℕ) (ps : List ℕ) (known : Known) : Type 0 where
  pub function : call.sym ≡ f
  pub args : call.args.items ≡ ps
  pub value : call.known ≡ Some known

-- the table says that it is known
abbrev pub Says : KeptCalls → ℕ → List ℕ → Known → Type 0
Says kept f ps known = (i : ℕ) × (call : KeptCall) × (slice_get kept.calls.items i ≡ Some call)
    × IsKept call f ps known

-- what the table says it has said before
abbrev pub SaysNoMore : KeptCalls → KeptCalls → Type 0
SaysNoMore old new =
    (f : ℕ) (ps : List ℕ) (known : Known) → Says new f ps known → Says old f ps known

-- or it is what is known of this call
abbrev pub SaysAlso : KeptCalls → KeptCalls → ℕ → List ℕ → Known → Type 0
SaysAlso old new g qs also = (f : ℕ) (ps : List ℕ) (known : Known) → Says new f ps known
    → Says old f ps known ⊎ ((f ≡ g) × (ps ≡ qs) × (known ≡ also))

-- of no call a value is known
abbrev pub HaveNoValues : List KeptCall → Type 0
HaveNoValues calls = (i : ℕ) (call : KeptCall) (known : Known) → slice_get calls i ≡ Some call
    → call.known ≡ Some known → ⊥

module _ (spec : Spec) (cells : List Cell) where
  -- the call gives the value at the place at the cost
  pub record IsRight (f : ℕ) (ps : List ℕ) (known : Known) : Type 0 where
    pub args : Trees
    pub value : Tree
    pub stand : AreTerms cells ps args
    pub there : IsTerm cells known.place value
    pub gives : Gives spec (app f args) value known.cost

  -- and so does each call of the table
  abbrev pub AreRight : KeptCalls → Type 0
  AreRight kept = (f : ℕ) (ps : List ℕ) (known : Known) → Says kept f ps known → IsRight f ps known
