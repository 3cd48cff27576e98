-- In an admitted specification each call has exactly one left side that matches.
use Rattle.std.proofs.Common.{◌≡◌, ℕ, [], Some, refl, sym, ◌∙◌, subst}
use Rattle.term_core.specs.Tree.{Tree, Trees, app, instance}
use Rattle.spec_core.specs.declared.records.SymInfo.{SymInfo}
use Rattle.spec_core.specs.declared.records.Spec.{Spec}
use Rattle.spec_core.specs.Sig.{info_of}
use Rattle.spec_core.specs.Sorts.{SortedAll, AreBuilt}
use Rattle.spec_core.specs.Overlap.{NoOverlap}
use Rattle.spec_core.specs.Covering.{IsMatched}
use Rattle.spec_admit.specs.LeftSides.{IsLeftSideFor, HasOneLeftSide}

module _ (spec : Spec) (f : ℕ) (i : SymInfo) (vs : Trees) (info : info_of spec.sig f ≡ Some i)
    (sorted : SortedAll spec.sig [] vs i.args) (built : AreBuilt spec.sig vs) where
  only : NoOverlap spec → (left other : Tree) → IsLeftSideFor spec f vs left → IsLeftSideFor spec f vs other →
      other ≡ left
  only apart left other (k, rule, xs, at, is, makes) (j, q, ys, there, same, made) =
      sym same ∙ apart j k q rule f i vs ys xs there at info sorted built
      (subst (λ t. instance ys t ≡ app f vs) (sym same) made)
      (subst (λ t. instance xs t ≡ app f vs) (sym is) makes) ∙ is

  pub one_left_side : NoOverlap spec → IsMatched spec f vs → HasOneLeftSide spec f vs
  one_left_side apart (k, (rule, at, (xs, makes))) =
      let matches : IsLeftSideFor spec f vs rule.left = (k, rule, xs, at, refl, makes) in
      record { left = rule.left; matches = matches; only = λ other o. only apart rule.left other matches o }
