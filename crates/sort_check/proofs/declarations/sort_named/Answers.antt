use Rattle.std.proofs.Common.{◌≡◌, Some, None, sym, subst, refl, position}
use Rattle.std.specs.Prelude.{unwrap_or}
use Rattle.std.specs.Str.{bytes_eq}
use Rattle.sort_check.specs.Answers.{Tells}
use Rattle.sort_check.specs.DeclarationTests.{sort_test}
use Rattle.sort_check.proofs.Names.{new_not, place_is, no_place}
use Rattle.sort_check.proofs.declarations.sort_named.Goals as goal

pub returns-in-Some : goal.returns-in-Some
returns-in-Some c =
    let at : position (bytes_eq c.args.raw.now.name) c.args.sorts.now ≡ Some c.in-Some.place = cc in (
      λ new. new_not c.args.raw.now.name c.args.sorts.now c.in-Some.place new
          (place_is c.args.raw.now.name c.args.sorts.now c.in-Some.place at),
      λ i. record { 0 = unwrap_or (sym at i) 0 },
    )

pub returns-in-None : goal.returns-in-None
returns-in-None c =
    let at : position (bytes_eq c.args.raw.now.name) c.args.sorts.now ≡ None = cc in
    subst (λ e. Tells (sort_test c.args.sorts.now c.args.raw.now) e) (sym c.fault.ensures)
    (no_place c.args.raw.now.name c.args.sorts.now at, refl)
