-- A specification with the order by which it is admitted.
use Rattle.std.specs.Prelude.{refl}
use Rattle.std.specs.Coded.{Coded, code_by, coded×}
use Rattle.spec_core.specs.declared.records.Spec.{Spec}

pub record Admission (O : Type 0) : Type 0 where
  pub spec : Spec
  pub order : O

-- it is stored as the pair of both
abbrev pub admission_code : {O : Type 0} → Coded Spec → Coded O → Coded (Admission O)
admission_code {O = O} spec order =
    code_by (Spec × O) (coded× spec order) (λ a. (a.spec, a.order))
    (λ p. record { spec = p.0; order = p.1 }) (λ _. refl)
