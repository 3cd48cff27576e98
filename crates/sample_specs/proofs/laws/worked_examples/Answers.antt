use Rattle.std.proofs.Common.{refl, arith}
use Rattle.sample_specs.proofs.laws.worked_examples.Goals as goal

pub returns : goal.returns
returns c = record {
  value_of_sum = refl;
  zero_sum = λ env. omega arith;
  succ_sum = λ env. omega arith;
  itself = λ above. omega (arith, above (λ n. 0));
  growing = λ above. omega (arith, above (λ n. 0));
  variable = λ above. omega (arith, above (λ n. 0));
}
