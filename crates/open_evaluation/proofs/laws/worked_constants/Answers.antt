use Rattle.std.proofs.Common.{◌≡◌, ℕ, List, [], ◌∷◌, refl, ap, length, get_or, arith}
use Rattle.std.specs.Prelude.{codes}
use Rattle.spec_core.specs.declared.records.SymInfo.{SymInfo}
use Rattle.spec_core.specs.Naturals.{nat, declares, naturals}
use Rattle.open_evaluation.specs.Shifted.{shifted_number, IsExtended}
use Rattle.open_evaluation.specs.ConstantExamples.{naturals_with, naturals_before}
use Rattle.open_evaluation.proofs.laws.worked_constants.Goals as goal

extended : IsExtended naturals naturals_with (nat ∷ [])
unfolding shifted_number
extended = record {
  names = codes "u" ∷ [];
  each = refl;
  as_many_sorts = refl;
  constructors = refl;
  table = refl;
  rules = refl;
  goals = refl;
}

not_extended : IsExtended naturals naturals_before (nat ∷ []) → ⊥
not_extended more =
    let k : ◌≡◌ {A = ℕ} 1 4 = ap (λ (es : List (List ℕ × SymInfo)). length (get_or es 2 ([], declares [])).0)
    more.table in
    omega arith

pub returns : goal.returns
unfolding shifted_number
returns c = record { numbers = refl; closed_sum = refl; extended = extended; not_extended = not_extended }
