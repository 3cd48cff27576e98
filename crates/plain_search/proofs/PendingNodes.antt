-- Nodes that a plain proof has yet to close.
use Rattle.std.proofs.Common.{◌≡◌, ℕ, ◌+◌, ◌<◌, ◌≤◌, Bool, true, List, length, arith}
use Rattle.term_core.specs.Tree.{Tree, Trees, app, some, tree_size}
use Rattle.term_core.specs.declared.ids.SortId.{SortId}
use Rattle.term_core.proofs.Trees.{size_positive}
use Rattle.spec_core.specs.declared.records.Equation.{Equation}
use Rattle.spec_core.specs.declared.records.Spec.{Spec}
use Rattle.clause_core.specs.declared.clauses.Clause.{Clause}
use Rattle.clause_core.specs.Limits.{IsWithin}
use Rattle.clause_core.specs.Tidied.{tidied}
use Rattle.clause_core.proofs.TidiedLimits.{tidied_within}
use Rattle.normalization.specs.Narrow.{IsNarrow}
use Rattle.normalization.specs.NormalForms.{IsNormal, RunsWithin}
use Rattle.plain_proof.specs.Closings.{Closes}
use Rattle.plain_proof.specs.Limits.{AreWithin, equation_clause}

module _ (spec : Spec) (gctx : List SortId) (e : Equation) where
  -- the node is a pair of terms, tidied, whose normal forms close; m is the number of the uses that are left and of the
  -- symbols and variables of both normal forms, and a marked node isn't closed by an instance at once
  pub record Pending (c : Clause) (m : ℕ) (mark : Bool) : Type 0 where
    pub over : List SortId
    pub a : Tree
    pub b : Tree
    pub left : Tree
    pub right : Tree
    pub left_uses : List (List ℕ × ℕ)
    pub right_uses : List (List ℕ × ℕ)
    pub strippings : ℕ
    pub instances : ℕ
    pub is : c ≡ tidied (equation_clause over a b)
    pub within : AreWithin a b
    pub left_runs : RunsWithin spec (λ t. AreWithin t b) a left_uses left
    pub left_normal : IsNormal spec left
    pub right_runs : RunsWithin spec (λ t. AreWithin left t) b right_uses right
    pub right_normal : IsNormal spec right
    pub closes : Closes spec.sig gctx e over left right strippings instances
    pub progress : mark ≡ true → 0 < instances → 0 < length left_uses + length right_uses + strippings
    pub number : m ≡ length left_uses + length right_uses + tree_size left + tree_size right
    pub left_narrow : IsNarrow a
    pub right_narrow : IsNarrow b

  pub pending_positive : (c : Clause) (m : ℕ) (mark : Bool) → Pending c m mark → 1 ≤ m
  pending_positive c m mark p = omega (arith, p.number, size_positive p.left)

pub within_node : (over : List SortId) (a b : Tree) → AreWithin a b → IsWithin (tidied (equation_clause over a b))
within_node over a b w = (tidied_within (equation_clause over a b)).1
    (record { equations = w.equations; depth = w.depth; size = w.size })

-- parts of a clause within the limits
pub pair_within : (f g : ℕ) (t u : Tree) (ts us : Trees) → AreWithin (app f (some t ts)) (app g (some u us)) →
    AreWithin t u × AreWithin (app f ts) (app g us)
pair_within f g t u ts us w =
    let d = w.depth in
    let s = w.size in (
      record { equations = omega arith; depth = omega arith; size = omega arith },
      record { equations = omega arith; depth = omega arith; size = omega arith },
    )
