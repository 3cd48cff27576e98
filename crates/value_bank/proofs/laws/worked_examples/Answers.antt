use Rattle.std.proofs.Common.{◌≡◌, [], ◌∷◌, Some, None, refl, arith}
use Rattle.value_bank.specs.Cells.{cell}
use Rattle.value_bank.proofs.Terms.{same_cell}
use Rattle.value_bank.specs.Examples.{three_cells}
use Rattle.value_bank.proofs.laws.worked_examples.Goals as goal

pub returns : goal.returns
returns c = record {
  shared = (1 ∷ 1 ∷ [], refl, ((0 ∷ [], refl, (([], refl, tt), tt)), ((0 ∷ [], refl, (([], refl, tt), tt)), tt)));
  other = λ h. omega (arith, (same_cell three_cells 2 3 4 h.0 (1 ∷ 1 ∷ []) h.1 refl).0);
  outside = λ h. let q : None ≡ Some (cell 2 h.0) = h.1 in cc;
  twice = λ b. omega (arith, b.distinct 0 1 (cell 2 []) refl refl);
  itself = λ b. omega (arith, (b.earlier 0 3 (0 ∷ []) refl).0);
}
