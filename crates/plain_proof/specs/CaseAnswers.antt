-- What the search for a variable of an equation answers, case by case.
use Rattle.std.specs.Prelude.{◌≡◌, ℕ, ◌<◌, ◌≤◌, ◌⊎◌, List, Option, Some, None, slice_get}
use Rattle.term_core.specs.declared.ids.SortId.{SortId}
use Rattle.term_core.specs.declared.ids.VarId.{VarId}
use Rattle.term_core.specs.Variables.{Occurs}
use Rattle.spec_core.specs.declared.records.Equation.{Equation}
use Rattle.spec_core.specs.declared.records.Spec.{Spec}
use Rattle.spec_core.specs.Order.{constructors_of}
use Rattle.spec_core.specs.Sorts.{Sorted}
use Rattle.plain_proof.specs.PlainProofs.{CaseCloses, CasesClose}

module _ (spec : Spec) (ctx : List SortId) (e : Equation) where
  -- both sides have one sort
  abbrev pub HasSort : Type 0
  HasSort = (s : SortId) × Sorted spec.sig ctx e.left s × Sorted spec.sig ctx e.right s

  -- the case closes by this length, or by none of at most `budget`
  abbrev pub IsCase : ℕ → ℕ × List SortId → ℕ → Option ℕ → Type 0
  IsCase x c budget (Some n) = CaseCloses spec ctx e x c n × (n ≤ budget)
  IsCase x c budget None = (n : ℕ) → CaseCloses spec ctx e x c n → n ≤ budget → ⊥

  -- the cases of a variable of this sort close by a length of at most `most`
  abbrev pub HasCases : ℕ → SortId → ℕ → Type 0
  HasCases most s x = (n : ℕ) × CasesClose spec ctx e x (constructors_of spec.sig s) n × (n ≤ most)

  -- so do those of the variable x, which occurs
  abbrev pub IsCovered : ℕ → ℕ → Type 0
  IsCovered most x =
      (s : SortId) × (slice_get ctx x ≡ Some s) × (Occurs x e.left ⊎ Occurs x e.right)
      × HasCases most s x

  -- the first such variable, or that there is none
  abbrev pub IsFirstCovered : ℕ → Option VarId → Type 0
  IsFirstCovered most (Some x) = IsCovered most x.0 × ((y : ℕ) → y < x.0 → IsCovered most y → ⊥)
  IsFirstCovered most None = (y : ℕ) → IsCovered most y → ⊥
