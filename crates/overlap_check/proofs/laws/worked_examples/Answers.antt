use Rattle.std.proofs.Common.{inl, inr, refl}
use Rattle.spec_core.specs.Naturals.{plus_zero_rule}
use Rattle.overlap_check.specs.Examples.{right_zero_rule, same_rule}
use Rattle.overlap_check.proofs.LinearSums.{naturals_are_linear, second_repeats, first_repeats_not}
use Rattle.overlap_check.proofs.OverlappingSums.{overlap_of_own, not_as_they_stand, named, not_others, zeros_match}
use Rattle.overlap_check.proofs.OverlappingSums.{first_overlap}
use Rattle.overlap_check.proofs.laws.worked_examples.Goals as goal

pub returns : goal.returns
returns c = record {
  linear = naturals_are_linear;
  repeated = (1, refl, second_repeats);
  first_is_linear = λ h. first_repeats_not h.0 h.1 h.2;
  not_linear = λ h. h 1 same_rule refl 0 (inr (inl (refl, inl refl)));
  own_variables = overlap_of_own;
  as_they_stand = not_as_they_stand;
  not_itself = λ t h. h.0 refl;
  named = named;
  not_others = not_others;
  both = (
    0,
    1,
    refl,
    refl,
    first_overlap,
    record {
      first = plus_zero_rule;
      second = right_zero_rule;
      first_at = refl;
      second_at = refl;
      match_both = zeros_match;
      named = named;
    },
  );
}
