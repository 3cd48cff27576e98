use Rattle.std.proofs.Common.{rules, sym, subst, refl, map}
use Rattle.spec_core.specs.Declarations.{IsNewName}
use Rattle.spec_core.specs.Findings.{test}
use Rattle.spec_grammar.specs.declared.raw.RawGoal.{RawGoal}
use Rattle.sort_check.specs.Answers.{Tells}
use Rattle.sort_check.specs.declared.faults.SortFault.TheVariants.{Sort}
use Rattle.sort_check.specs.declared.faults.SortKind.TheVariants.{RepeatedName}
use Rattle.sort_check.proofs.Listed.{found_old, unfound_new}
use Rattle.sort_check.proofs.goals.check_name.Goals as goal

pub returns-in-Some : goal.returns-in-Some
returns-in-Some c =
    let name = c.args.name.now in
    let old = found_old name.name (λ (g : RawGoal). g.head.name) c.args.before.now c.in-Some.field-0 (search rules) in
    subst (λ e. Tells (test (Sort name.at RepeatedName)
    (¬ (IsNewName name.name (map (λ (g : RawGoal). g.head.name) c.args.before.now)))) e)
    (sym c.fault.ensures) (old, refl)

pub returns-in-None : goal.returns-in-None
returns-in-None c =
    let name = c.args.name.now in
    let new = unfound_new name.name (λ (g : RawGoal). g.head.name) c.args.before.now (search rules) in
    ((λ old. old new), tt)
