-- The step of the leftmost-innermost use in a side of the conclusion.
use Rattle.std.proofs.Common.{◌≡◌, ℕ, List, Bool, true, false, Some, None, sym, ◌∙◌, subst}
use Rattle.std.specs.Prelude.{slice_get}
use Rattle.term_core.specs.Tree.{Tree}
use Rattle.spec_core.specs.declared.records.Equation.{Equation}
use Rattle.spec_core.specs.declared.records.Spec.{Spec}
use Rattle.spec_core.specs.WellSorted.{IsWellSorted}
use Rattle.clause_core.specs.declared.clauses.Clause.{Clause}
use Rattle.clause_core.specs.declared.steps.Step.{Step}
use Rattle.clause_core.specs.declared.steps.Step.TheVariants.{Rule}
use Rattle.clause_core.specs.Clauses.{ClauseIsSorted}
use Rattle.clause_core.specs.Places.{side}
use Rattle.normalization.specs.FirstUses.{IsFirstUse}
use Rattle.normalization.specs.Narrow.{IsNarrow}
use Rattle.normalization.specs.NormalForms.{IsNormal}
use Rattle.normalization.proofs.Fine.{sorted_narrow}
use Rattle.plain_search.specs.Choices.{place_in, IsUse}
use Rattle.plain_search.specs.Candidates.{IsOnly}
use Rattle.plain_search.proofs.OneCandidates.{use_one}

module _ (spec : Spec) (c : Clause) (left : Bool) where
  pub no_conclusion : slice_get c.conclusions 0 ≡ None → IsOnly (IsUse spec c left) None
  no_conclusion none_there = λ step u. let q : None ≡ Some u.0 = sym none_there ∙ u.4 in absurd (cc)

  module _ (e : Equation) (at : slice_get c.conclusions 0 ≡ Some e) where
    pub side_narrow : IsWellSorted spec → ClauseIsSorted spec.sig c → IsNarrow (side left e)
    side_narrow fine sorted = by left
      where
        by : (b : Bool) → IsNarrow (side b e)
        by true = let s = sorted.conclusions 0 e at in sorted_narrow spec.sig c.ctx e.left s.0 fine.arities s.1
        by false = let s = sorted.conclusions 0 e at in sorted_narrow spec.sig c.ctx e.right s.0 fine.arities s.2

    pub side_normal : IsNormal spec (side left e) → IsOnly (IsUse spec c left) None
    side_normal normal = λ step u.
        let q : Some e ≡ Some u.0 = sym at ∙ u.4 in
        let same : u.0 ≡ e = cc in
        let first : IsFirstUse spec (side left e) u.1 u.2 u.3 = subst
        (λ (d : Equation). IsFirstUse spec (side left d) u.1 u.2 u.3) same u.5 in
        normal u.1 first.old first.at u.2 first.new first.rule

    pub side_used : (path : List ℕ) (number : ℕ) (made : Tree) →
        IsFirstUse spec (side left e) path number made → (step : Step) →
        step ≡ Rule (place_in left path) number → IsOnly (IsUse spec c left) (Some step)
    side_used path number made first step is =
        let here : IsUse spec c left step = (e, path, number, made, at, first, is) in
        (here, λ other u. use_one spec c left other step u here)
