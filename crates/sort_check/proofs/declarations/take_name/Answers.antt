use Rattle.std.proofs.Common.{rules, ◌≡◌, Some, None, sym, subst, refl, position}
use Rattle.std.specs.Str.{bytes_eq}
use Rattle.spec_core.specs.Declarations.{IsNewName}
use Rattle.spec_core.specs.Findings.{test}
use Rattle.sort_check.specs.Answers.{Tells}
use Rattle.sort_check.specs.declared.faults.SortFault.TheVariants.{Sort}
use Rattle.sort_check.specs.declared.faults.SortKind.TheVariants.{RepeatedName}
use Rattle.sort_check.proofs.Names.{new_not, place_is, no_place}
use Rattle.sort_check.proofs.declarations.take_name.Goals as goal

pub returns-in-Some : goal.returns-in-Some
returns-in-Some c =
    let at : position (bytes_eq c.args.name.now) c.args.taken.now ≡ Some c.in-Some.field-0 = cc in
    subst (λ e. Tells (test (Sort c.args.at RepeatedName) (¬ (IsNewName c.args.name.now c.args.taken.now))) e)
    (sym c.fault.ensures) (
      λ new. new_not c.args.name.now c.args.taken.now c.in-Some.field-0 new
          (place_is c.args.name.now c.args.taken.now c.in-Some.field-0 at),
      refl,
    )

pub returns-in_ok-push-in-None : goal.returns-in_ok-push-in-None
returns-in_ok-push-in-None c =
    let at : position (bytes_eq c.args.name.now) c.args.taken.now ≡ None = cc in
    (λ old. old (no_place c.args.name.now c.args.taken.now at), search rules)
