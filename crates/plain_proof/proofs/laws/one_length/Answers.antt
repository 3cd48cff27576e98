use Rattle.std.proofs.Common.{◌≡◌, ◌∷◌, [], Some, sym, ◌∙◌, subst}
use Rattle.spec_core.specs.declared.records.Equation.{Equation}
use Rattle.spec_core.specs.WellSorted.{sorts_of}
use Rattle.spec_core.specs.Order.{constructors_of}
use Rattle.plain_proof.specs.PlainProofs.{CasesClose}
use Rattle.plain_proof.proofs.OneSum.{one_sum}
use Rattle.plain_proof.proofs.laws.one_length.Goals as goal

pub returns : goal.returns
returns c spec g x m n fine a b =
    let one : (a.equation ∷ []) ≡ (b.equation ∷ []) = sym a.conclusion ∙ b.conclusion in
    let e : b.equation ≡ a.equation = cc in
    let s : Some a.sort ≡ Some b.sort = sym a.sorted ∙ b.sorted in
    let k : b.sort ≡ a.sort = cc in
    let other = subst (λ (z : Equation). CasesClose spec (sorts_of g.vars) z x (constructors_of spec.sig a.sort)
    n) e (subst (λ z. CasesClose spec (sorts_of g.vars) b.equation x (constructors_of spec.sig z) n) k b.cases) in
    one_sum spec (sorts_of g.vars) a.equation x (constructors_of spec.sig a.sort) m n fine a.cases other
