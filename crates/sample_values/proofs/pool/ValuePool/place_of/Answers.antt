use Rattle.std.proofs.Common.{sym, ◌∙◌, subst}
use Rattle.sample_values.specs.Evaluators.{Evaluated, HasValue}
use Rattle.sample_values.proofs.Keeping.{has_value_as}
use Rattle.sample_values.proofs.pool.ValuePool.place_of.Goals as goal

pub returns-then-known-sort : goal.returns-then-known-sort
returns-then-known-sort c =
    let known = c.in_ok-known.known in
    has_value_as c.args.self.now known.place known.sort c.args.sort c.if-known-sort.true
    (subst (λ (e : Evaluated). HasValue e known.place known.sort) c.self.view_is
    (c.self.invariant.known c.args.value.0 known (sym c.get.ensures ∙ c.in_ok-known.was)))
