use Rattle.std.proofs.Common.{◌≡◌, ℕ, [], ◌∷◌, inl, refl, arith}
use Rattle.std.proofs.lemmas.List.Sorted.{IsPermutation-append_comm}
use Rattle.term_core.specs.Tree.{Tree}
use Rattle.spec_core.specs.Sorts.{Sorted}
use Rattle.spec_core.specs.Naturals.{nat, naturals, naturals_sig, zero_term, succ_term, plus_term}
use Rattle.sample_specs.specs.SumOrder.{AboveInSums, RankInSums}
use Rattle.sample_specs.proofs.Sums.{sum_order_ranks}
use Rattle.descent.proofs.HasValues.{one_value}
use Rattle.descent.proofs.SmallWeights.{heavier, not_itself}
use Rattle.descent.proofs.laws.worked_examples.Goals as goal

abbrev sum : Tree
sum = plus_term (succ_term zero_term) zero_term

sum_is_sorted : Sorted naturals_sig [] sum nat
sum_is_sorted = (_, refl, refl, ((_, refl, refl, ((_, refl, refl, tt), tt)), ((_, refl, refl, tt), tt)))

pub returns : goal.returns
returns c =
    let numbers = c.worked_examples-2.ensures in
    let admitted = c.worked_examples.ensures.naturals_are_admitted in
    let one = one_value AboveInSums naturals numbers.well_sorted admitted RankInSums sum_order_ranks sum nat
    sum_is_sorted in
    let same = one.alone (succ_term zero_term) 2 numbers.one_plus_zero in
    record {
      sum = one;
      sum_is_one = same.0;
      two_uses = same.1;
      weight = (refl, (refl, tt));
      no_other_weight = λ p. let q : ◌≡◌ {A = ℕ} 2 3 = p.1.0 in omega (arith, q);
      heavier = heavier;
      not_itself = not_itself;
      the_same = inl (IsPermutation-append_comm (5 ∷ []) (3 ∷ []));
    }
