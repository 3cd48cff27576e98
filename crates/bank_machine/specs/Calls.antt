-- A call among places, and where its code goes on.
use Rattle.std.specs.Prelude.{◌≡◌, ℕ, ◌≤◌, List, Option, Some, None, drop, length, slice_get}
use Rattle.term_core.specs.Tree.{Tree, app, instance, trees_of}
use Rattle.term_core.specs.declared.ids.SortId.{SortId}
use Rattle.spec_core.specs.declared.records.Rule.{Rule}
use Rattle.spec_core.specs.declared.records.Spec.{Spec}
use Rattle.value_bank.specs.Cells.{Cell, AreTerms}
use Rattle.rule_code.specs.Instructions.{IsCodeAt}
use Rattle.rule_code.specs.Matched.{Extends}
use Rattle.rule_code.specs.Programs.{Program}
use Rattle.bank_machine.specs.Sound.{IsReady}
use Rattle.bank_machine.specs.States.{Frame, Enters}

-- the places from `base` on are those of the arguments of a call of the function with values
abbrev pub IsCallAt : Spec → List Cell → ℕ → ℕ → List ℕ → Type 0
IsCallAt spec cells f base places = (env : List Tree) × (s : SortId) × (base ≤ length places)
    × AreTerms cells (drop base places) (trees_of env) × IsReady spec f (trees_of env) s

-- a frame for the call, whose slots are there and whose code begins at the place; or no left side matches
abbrev pub FoundBy : Program → List Cell → ℕ → ℕ → List ℕ → List Tree → Option ℕ → Type 0
FoundBy p cells f base new env (Some place) = (entered : Frame)
    × Enters p.spec f (trees_of env) entered × AreTerms cells (drop base new) (trees_of entered.env)
    × IsCodeAt p.code place entered.steps entered.end
FoundBy p cells f base new env None = (k : ℕ) (rule : Rule) (xs : List Tree)
    → slice_get p.spec.rules k ≡ Some rule → instance xs rule.left ≡ app f (trees_of env) → ⊥

pub record IsFound (p : Program) (cells : List Cell) (f base : ℕ) (old new : List ℕ)
    (found : Option ℕ) : Type 0 where
  pub extends : Extends old new
  pub by : (env : List Tree) (s : SortId) → AreTerms cells (drop base old) (trees_of env)
      → IsReady p.spec f (trees_of env) s → FoundBy p cells f base new env found
