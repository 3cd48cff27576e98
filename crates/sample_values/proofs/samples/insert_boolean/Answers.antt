use Rattle.std.proofs.Common.{sym, subst}
use Rattle.spec_core.specs.Declarations.{bool_sort}
use Rattle.spec_core.specs.Sorts.{IsValue}
use Rattle.sample_values.proofs.Booleans.{boolean_value}
use Rattle.sample_values.proofs.samples.insert_boolean.Goals as goal

pub insert-requires : goal.insert-requires
insert-requires c = subst (λ t. IsValue c.args.pool.now.spec.sig bool_sort t) (sym c.boolean-term.ensures)
    (boolean_value c.args.pool.now.spec.sig c.spec-spec.ensures.fine.signature c.args.value)
