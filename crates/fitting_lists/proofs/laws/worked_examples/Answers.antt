-- Each example, computed.
use Rattle.std.proofs.Common.{refl}
use Rattle.fitting_lists.proofs.SampleLists.{fitting_list, no_fitting_list, rewriting_list, other_symbol}
use Rattle.fitting_lists.proofs.SampleLists.{other_arguments, spine_fits, shorter_spine, none_missing, one_missing}
use Rattle.fitting_lists.proofs.laws.worked_examples.Goals as goal

pub returns : goal.returns
returns c = record {
  conclusion_leads = refl;
  before_premises = refl;
  premise_leads = refl;
  first_leads = refl;
  none_leads = refl;
  conclusions_asked = refl;
  premises_asked = refl;
  nothing_asked = refl;
  fitting_list = fitting_list;
  no_fitting_list = no_fitting_list;
  both_rewrite = refl;
  left_rewrites = refl;
  two_conclusions = refl;
  no_conclusion = refl;
  rewriting_list = rewriting_list;
  other_symbol = other_symbol;
  other_arguments = other_arguments;
  symbol_ends = refl;
  variable_ends = refl;
  no_arguments = refl;
  spine_fits = spine_fits;
  shorter_spine = shorter_spine;
  none_missing = none_missing;
  one_missing = one_missing;
}
