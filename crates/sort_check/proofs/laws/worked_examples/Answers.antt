use Rattle.std.proofs.Common.{refl}
use Rattle.sort_check.proofs.NaturalsStand.{naturals_stand, loose_first, free_first, repeated_first}
use Rattle.sort_check.proofs.FaultyLines.{no_symbol_first, constructor_first, same_line_first, other_line_first}
use Rattle.sort_check.proofs.FaultyLines.{unlike_first, second_status_first, no_order_first, few_numbers_first}
use Rattle.sort_check.proofs.FaultyLines.{weighed_clean, equal_before_order_first, no_ordering_first}
use Rattle.sort_check.proofs.FaultyLines.{status_with_weights_first, equal_with_weights_first, no_weighed_symbol_first}
use Rattle.sort_check.proofs.FaultyLines.{weighed_twice_first, no_weight_first, too_heavy_first}
use Rattle.sort_check.proofs.laws.worked_examples.Goals as goal

pub returns : goal.returns
returns c = record {
  stands = naturals_stand;
  loose = loose_first;
  free = free_first;
  repeated = repeated_first;
  levels = refl;
  statuses = refl;
  no_symbol = no_symbol_first;
  constructor = constructor_first;
  same_line = same_line_first;
  other_line = other_line_first;
  unlike = unlike_first;
  second_status = second_status_first;
  no_order = no_order_first;
  few_numbers = few_numbers_first;
  weighed = weighed_clean;
  weights_of_symbols = refl;
  equal_before_order = equal_before_order_first;
  no_ordering = no_ordering_first;
  status_with_weights = status_with_weights_first;
  equal_with_weights = equal_with_weights_first;
  no_weighed_symbol = no_weighed_symbol_first;
  weighed_twice = weighed_twice_first;
  no_weight = no_weight_first;
  too_heavy = too_heavy_first;
}
