-- The measure falls from shared terms to each of them.
use Rattle.std.specs.Prelude.{ℕ, ◌≤◌, max, Option, Some, None, option_map}
use Rattle.std.proofs.Common.{arith}
use Rattle.std.specs.Global.{Global}
use Rattle.std.specs.declared.rc.Rc.{Rc}
use Rattle.term_core.specs.Measure.{list_weight}
use Rattle.term_core.specs.Shared.{terms_in}
use Rattle.term_core.specs.declared.tree.Measured.{Measured}
use Rattle.term_core.specs.declared.tree.Term.TheShapes.{weighed-Terms-shared}

pub falls_to_members :
    (deep : Measured → ℕ) → ((m : Measured) → deep m ≤ list_weight m.items.items) →
    (shared : Option (Rc Measured Global)) →
    max (weighed-Terms-shared.weight Measured deep shared) 0
    ≤ list_weight (terms_in (option_map (λ rc. rc.value) shared))
falls_to_members deep h None = omega arith
falls_to_members deep h (Some rc) = omega (arith, h rc.value)
