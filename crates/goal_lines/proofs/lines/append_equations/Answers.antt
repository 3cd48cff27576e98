use Rattle.std.proofs.Common.{arith, subst, sym}
use Rattle.std.proofs.lemmas.Option.{slice_get-get_or}
use Rattle.std.specs.Prelude.{◌≡◌, Some, slice_get}
use Rattle.spec_core.specs.declared.records.Equation.{Equation}
use Rattle.goal_lines.proofs.lines.append_equations.Goals as goal

pub append_equation-requires : goal.append_equation-requires
append_equation-requires c =
    let equations = c.args.equations.now in
    let number = c.loop-number.number in
    let one = c.index-equations-number.result in
    let test = c.loop-number-test.true in
    let at = slice_get-get_or equations number one (omega (arith, test)) in
    c.requires number one
    (subst (λ (e : Equation). slice_get equations number ≡ Some e) (sym c.index-equations-number.is) at)
