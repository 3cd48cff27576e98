-- What weighs less than the arguments weighs less than the pattern.
use Rattle.std.proofs.Common.{ℕ, ◌≤◌, ap, sym, ◌∙◌, arith}
use Rattle.term_core.specs.View.{tree_of}
use Rattle.term_core.specs.Measure.{weight, list_weight}
use Rattle.fitting_lists.specs.declared.along.Below.{Below}
use Rattle.fitting_lists.specs.declared.along.Below.TheVariants.{Differing, End, Last}
use Rattle.fitting_lists.specs.Along.{IsLighter}
use Rattle.fitting_lists.proofs.Weights.{lighter}
use Rattle.fitting_lists.proofs.along.last_arguments.Goals as goal

lighter_yet : (m n : ℕ) (b : Below) → m ≤ n → IsLighter m b → IsLighter n b
lighter_yet m n Differing le h = tt
lighter_yet m n End le h = tt
lighter_yet m n (Last p t) le h = omega (arith, h)

pub returns-else-ne-clause-lighter : goal.returns-else-ne-clause-lighter
returns-else-ne-clause-lighter c =
    let pattern = c.args.pattern.now in
    let patterns = c.as_slice.result.now in
    let less =
    lighter pattern c.in-App-App.sym.0 c.in-App-App.patterns patterns
    (ap tree_of (sym c.in-App-App.is-0) ∙ c.pattern.view_is) c.as_slice.ensures
    in
    lighter_yet (list_weight patterns) (weight pattern) c.last_ones.result (omega (arith, less))
    c.last_ones.ensures.lighter
