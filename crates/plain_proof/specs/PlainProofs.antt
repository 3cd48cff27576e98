-- Plain proofs.
use Rattle.std.specs.Prelude.{◌≡◌, ℕ, ◌+◌, ◌<◌, ◌⊎◌, List, [], ◌∷◌, Some, length, slice_get}
use Rattle.term_core.specs.Tree.{Tree, tree_size}
use Rattle.term_core.specs.declared.ids.SortId.{SortId}
use Rattle.spec_core.specs.declared.records.Equation.{Equation}
use Rattle.spec_core.specs.declared.records.Goal.{Goal}
use Rattle.spec_core.specs.declared.records.Spec.{Spec}
use Rattle.spec_core.specs.WellSorted.{sorts_of}
use Rattle.term_core.specs.Variables.{Occurs}
use Rattle.spec_core.specs.Order.{constructors_of}
use Rattle.normalization.specs.NormalForms.{IsNormal, RunsWithin}
use Rattle.plain_proof.specs.Limits.{AreWithin}
use Rattle.plain_proof.specs.Cases.{in_case, case_ctx}
use Rattle.plain_proof.specs.Closings.{Closes}

module _ (spec : Spec) (ctx : List SortId) (e : Equation) (x : ℕ) where
  -- the case of a constructor: the left side is brought to its normal form, then the right side,
  -- with every equation on the way within the limits; both normal forms close, and a pair
  -- that is closed by an instance asks for a use or a stripping. The length is that of both chains
  -- with the sizes of the normal forms
  pub record CaseCloses (c : ℕ × List SortId) (long : ℕ) : Type 0 where
    pub left : Tree
    pub right : Tree
    pub left_uses : List (List ℕ × ℕ)
    pub right_uses : List (List ℕ × ℕ)
    pub strippings : ℕ
    pub instances : ℕ
    pub within : AreWithin (in_case ctx x c e.left) (in_case ctx x c e.right)
    pub left_runs :
        RunsWithin spec (λ t. AreWithin t (in_case ctx x c e.right)) (in_case ctx x c e.left)
        left_uses left
    pub left_normal : IsNormal spec left
    pub right_runs :
        RunsWithin spec (λ t. AreWithin left t) (in_case ctx x c e.right) right_uses right
    pub right_normal : IsNormal spec right
    pub closes : Closes spec.sig ctx e (case_ctx ctx c) left right strippings instances
    pub progress : 0 < instances → 0 < length left_uses + length right_uses + strippings
    pub length_is :
        long ≡ length left_uses + length right_uses + tree_size left + tree_size right

  -- each of the cases closes, and their lengths are added
  abbrev pub CasesClose : List (ℕ × List SortId) → ℕ → Type 0
  CasesClose [] n = n ≡ 0
  CasesClose (c ∷ cs) n =
      (k : ℕ) × (m : ℕ) × CaseCloses c k × CasesClose cs m × (n ≡ k + m)

-- the goal, an equation without premises, has a plain proof of this length on its variable x
pub record IsPlain (spec : Spec) (goal : Goal) (x long : ℕ) : Type 0 where
  pub equation : Equation
  pub sort : SortId
  pub no_premises : goal.premises ≡ []
  pub conclusion : goal.conclusions ≡ equation ∷ []
  pub occurs : Occurs x equation.left ⊎ Occurs x equation.right
  pub sorted : slice_get (sorts_of goal.vars) x ≡ Some sort
  pub within : AreWithin equation.left equation.right
  pub cases :
      CasesClose spec (sorts_of goal.vars) equation x (constructors_of spec.sig sort) long
