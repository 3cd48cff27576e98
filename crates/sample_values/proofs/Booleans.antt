-- The Booleans are values.
use Rattle.std.proofs.Common.{◌≡◌, ◌<◌, Some, Bool, true, false, refl, ap, sym, subst, arith}
use Rattle.spec_core.specs.Declarations.{IsDeclared, bool_sort, bool_symbol}
use Rattle.spec_core.specs.Gives.{boolean}
use Rattle.spec_core.specs.Sig.{Sig, info_of}
use Rattle.spec_core.specs.Sorts.{IsValue}

pub boolean_value : (sig : Sig) → IsDeclared sig → (b : Bool) → IsValue sig bool_sort (boolean b)
boolean_value sig d true =
    let at : info_of sig 0 ≡ Some bool_symbol = ap (λ (z : Sig). info_of z 0) d.is in
    let within : 0 < sig.constructors = subst (λ (z : Sig). 0 < z.constructors) (sym d.is) (omega arith) in
    ((bool_symbol, at, refl, tt), (within, tt))
boolean_value sig d false =
    let at : info_of sig 1 ≡ Some bool_symbol = ap (λ (z : Sig). info_of z 1) d.is in
    let within : 1 < sig.constructors = subst (λ (z : Sig). 1 < z.constructors) (sym d.is) (omega arith) in
    ((bool_symbol, at, refl, tt), (within, tt))
