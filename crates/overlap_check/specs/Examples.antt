-- What the definitions say of rules for addition.
use Rattle.std.specs.Prelude.{[], ◌∷◌, codes}
use Rattle.term_core.specs.Tree.{Tree, var, none, some}
use Rattle.spec_core.specs.declared.records.Rule.{Rule}
use Rattle.spec_core.specs.declared.records.Spec.{Spec}
use Rattle.spec_core.specs.Naturals.{naturals_sig, naturals, variable, plus_zero_rule, zero_term, succ_term, plus_term}
use Rattle.unifier.specs.Unification.{HaveNoUnifier}
use Rattle.overlap_check.specs.declared.answers.Linear.TheVariants.{Fine, Repeated}
use Rattle.overlap_check.specs.declared.answers.Overlap.TheVariants.{Both}
use Rattle.overlap_check.specs.Repetition.{IsLinearity}
use Rattle.overlap_check.specs.Overlaps.{HaveOverlap}
use Rattle.overlap_check.specs.NamedValues.{NamesOverlap}
use Rattle.overlap_check.specs.Answers.{IsOverlap}

-- rule plus(x, zero) = x
abbrev pub right_zero_rule : Rule
right_zero_rule = record {
  vars = variable (codes "x") ∷ [];
  left = plus_term (var 0) zero_term;
  right = var 0;
  guards = [];
}

-- rule plus(x, x) = x
abbrev pub same_rule : Rule
same_rule = record {
  vars = variable (codes "x") ∷ [];
  left = plus_term (var 0) (var 0);
  right = var 0;
  guards = [];
}

-- rules plus(zero, y) = y, plus(x, zero) = x
abbrev pub two_zeros : Spec
two_zeros = record naturals { rules = plus_zero_rule ∷ right_zero_rule ∷ []; goals = [] }

-- rules plus(zero, y) = y, plus(x, x) = x
abbrev pub same_second : Spec
same_second = record naturals { rules = plus_zero_rule ∷ same_rule ∷ []; goals = [] }

pub record WorkedExamples : Type 0 where
  -- plus(zero, y) and plus(succ(x), y) are linear
  pub linear : IsLinearity naturals Fine
  -- after plus(zero, y), the second rule has x twice in plus(x, x), and the first has no variable
  -- twice
  pub repeated : IsLinearity same_second (Repeated 2 (record { 0 = 0 }))
  pub first_is_linear : IsLinearity same_second (Repeated 1 (record { 0 = 0 })) → ⊥
  pub not_linear : IsLinearity same_second Fine → ⊥
  -- plus(x, y) and plus(succ(x), y) overlap, although no substitution makes them the same as they
  -- are: each has its own x
  pub own_variables :
      HaveOverlap naturals_sig (plus_term (var 0) (var 1)) (plus_term (succ_term (var 0)) (var 1))
  pub as_they_stand :
      HaveNoUnifier (plus_term (var 0) (var 1)) (plus_term (succ_term (var 0)) (var 1))
  -- a left side does not overlap itself
  pub not_itself : (t : Tree) → HaveOverlap naturals_sig t t → ⊥
  -- (zero, zero) are the values named for plus(zero, y) and plus(x, zero), and (zero, succ(zero))
  -- aren't
  pub named :
      NamesOverlap naturals_sig plus_zero_rule right_zero_rule
      (some zero_term (some zero_term none))
  pub not_others :
      NamesOverlap naturals_sig plus_zero_rule right_zero_rule
      (some zero_term (some (succ_term zero_term) none)) → ⊥
  -- so (zero, zero) are in the answer if these are the rules
  pub both : IsOverlap two_zeros (Both 1 2 (zero_term ∷ zero_term ∷ []))
