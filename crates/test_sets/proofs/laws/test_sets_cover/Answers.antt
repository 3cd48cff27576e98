use Rattle.test_sets.specs.TestSets.{contexts_of}
use Rattle.test_sets.proofs.SortConstructors.{test_set_covers, test_set_patterns}
use Rattle.test_sets.proofs.laws.test_sets_cover.Goals as goal

pub returns : goal.returns
returns c = record {
  patterns = test_set_patterns;
  covering = test_set_covers;
  fitting = λ sig s d n at. record { sort = s; is = at; contexts = contexts_of sig s; each = test_set_patterns sig s };
}
