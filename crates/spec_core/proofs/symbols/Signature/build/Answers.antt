use Rattle.std.proofs.Common.{◌≡◌, sym, subst}
use Rattle.spec_core.specs.Sig.{SortsAreInRange}
use Rattle.spec_core.specs.Declarations.{declared_by, AreDistinct}
use Rattle.spec_core.proofs.Fresh.{some_of}
use Rattle.spec_core.proofs.Ranges.{declared_in_range}
use Rattle.spec_core.proofs.symbols.Signature.build.Goals as goal

pub first_without-requires : goal.first_without-requires
first_without-requires c =
    let made : (c.in-Some.tables ≡ declared_by c.args.sorts c.args.constructors c.args.functions)
    × AreDistinct c.args.sorts c.args.constructors c.args.functions = some_of c.in_ok-tables.field-0
    c.in-Some.tables _ _ c.in-Some.is c.in_ok-tables.ensures in
    subst SortsAreInRange (sym made.0) (declared_in_range c.args.sorts c.args.constructors c.args.functions
    c.requires.constructors_in_range c.requires.functions_in_range)
