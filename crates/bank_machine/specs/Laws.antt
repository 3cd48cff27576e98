-- Laws of the machine.
use Rattle.std.specs.Prelude.{◌≡◌, ◌↔◌, ℕ, ◌+◌, ◌≤◌, List, [], Some, length, slice_get}
use Rattle.term_core.specs.Tree.{Tree, Trees, var, app, instance}
use Rattle.spec_core.specs.declared.records.Rule.{Rule}
use Rattle.spec_core.specs.declared.records.Spec.{Spec}
use Rattle.spec_core.specs.Sig.{IsConstructor}
use Rattle.spec_core.specs.Sorts.{AreBuilt}
use Rattle.spec_core.specs.WellSorted.{IsWellSorted}
use Rattle.spec_core.specs.Overlap.{NoOverlap}
use Rattle.spec_core.specs.Groups.{GroupsAreWhole}
use Rattle.spec_core.specs.Gives.{Gives}
use Rattle.rule_code.specs.Code.{Step, End, slot}
use Rattle.rule_code.specs.Compiled.{IsBody, Holds}
use Rattle.bank_machine.specs.States.{State, state, StateGives, Moves, CallsNext, Runs, NoneGoesOn}

-- what the next state gives at some cost, the state gives at that cost and the cost of the move
abbrev pub MovesAreRight : Type 0
MovesAreRight = (spec : Spec) (s next : State) (c : ℕ) (w : Tree) (n : ℕ) → IsWellSorted spec
    → Moves spec s c next → StateGives spec next w n → StateGives spec s w (c + n)

-- if left sides don't overlap and groups are whole, what a state gives, the next state gives at what is left of the
-- cost after the move
abbrev pub MovesAreWhole : Type 0
MovesAreWhole = (spec : Spec) (s next : State) (c : ℕ) (w : Tree) (n : ℕ) → IsWellSorted spec
    → NoOverlap spec → GroupsAreWhole spec → Moves spec s c next → StateGives spec s w n → (k : ℕ)
    × StateGives spec next w k × (n ≡ c + k)

-- a state that is at the end of its last frame gives the value of the slot for nothing, and nothing else
abbrev pub AtItsEnd : Type 0
AtItsEnd = (spec : Spec) (env : List Tree) (i : ℕ) (w : Tree) (n : ℕ)
    → StateGives spec (state env [] (slot i) []) w n ↔ ((w ≡ instance env (var i)) × (n ≡ 0))

-- if a call is next, what the state gives costs at least one use of a rule
abbrev pub CallsCost : Type 0
CallsCost = (spec : Spec) (s : State) (f : ℕ) (vs : Trees) (w : Tree) (n : ℕ) → IsWellSorted spec
    → ¬ (IsConstructor spec.sig f) → CallsNext spec s f vs → StateGives spec s w n → 1 ≤ n

-- and if no left side matches that call, the state gives nothing
abbrev pub NoMatchGivesNothing : Type 0
NoMatchGivesNothing = (spec : Spec) (s : State) (f : ℕ) (vs : Trees) (w : Tree) (n : ℕ)
    → IsWellSorted spec → ¬ (IsConstructor spec.sig f) → AreBuilt spec.sig vs
    → ((k : ℕ) (rule : Rule) (xs : List Tree) → slice_get spec.rules k ≡ Some rule
    → instance xs rule.left ≡ app f vs → ⊥) → CallsNext spec s f vs → StateGives spec s w n → ⊥

-- and if no rule goes on with the answer of a test, the state gives nothing
abbrev pub NoneGoesOnGivesNothing : Type 0
NoneGoesOnGivesNothing =
    (spec : Spec) (s : State) (w : Tree) (n : ℕ) → NoneGoesOn spec s → StateGives spec s w n → ⊥

-- if the code of a term runs to its end, the term gives the value of the slot at the cost of the run
abbrev pub RunGives : Type 0
RunGives = (spec : Spec) (homes : List ℕ) (env xs now : List Tree) (t : Tree) (steps : List Step)
    (end : End) (i c : ℕ) → IsWellSorted spec → IsBody spec.sig homes t (length env) steps end
    → Holds spec.sig homes env xs → Runs spec (state env steps end []) c (state now [] (slot i) [])
    → Gives spec (instance xs t) (instance now (var i)) c

-- if left sides don't overlap and groups are whole, what the term gives costs what the run has cost and what the
-- state that it has come to gives costs
abbrev pub RunIsWhole : Type 0
RunIsWhole = (spec : Spec) (homes : List ℕ) (env xs : List Tree) (t : Tree) (steps : List Step)
    (end : End) (s : State) (c : ℕ) (w : Tree) (n : ℕ) → IsWellSorted spec → NoOverlap spec
    → GroupsAreWhole spec → IsBody spec.sig homes t (length env) steps end
    → Holds spec.sig homes env xs → Runs spec (state env steps end []) c s
    → Gives spec (instance xs t) w n → (k : ℕ) × StateGives spec s w k × (n ≡ c + k)
