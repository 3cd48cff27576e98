use Rattle.std.proofs.Common.{◌≡◌, true, false, inr, refl, sym, ◌∙◌}
use Rattle.std.proofs.lemmas.Result.{err_from_is_err_and}
use Rattle.inference_rules.proofs.BlockAnswers.{cover_made, cover_refused}
use Rattle.inference_rules.proofs.covering.cover_variable.Goals as goal

pub returns-then-not-fit : goal.returns-then-not-fit
returns-then-not-fit c = inr (
  λ are. let e : false ≡ true = sym c.if-not-fit.true ∙ c.in_ok-fit.ensures.1 are in
      cc,
  refl,
)

pub cover-requires-clause-patterns : goal.cover-requires-clause-patterns
cover-requires-clause-patterns c = c.in_ok-fit.ensures.0 c.if-not-fit.false

pub returns-in_err-made : goal.returns-in_err-made
returns-in_err-made c =
    let are = c.in_ok-fit.ensures.0 c.if-not-fit.false in
    let p = err_from_is_err_and c.from_residual-in_err-made.result c.from_residual-in_err-made.ensures.1 in
    rw p.1 (cover_refused c.args.spec.now c.args.here.now c.args.var.0 c.args.patterns.now are
    c.in_err-made.field-0.0 (c.in_err-made.ensures are) p.0 p.2)

pub returns : goal.returns
returns c =
    let are = c.in_ok-fit.ensures.0 c.if-not-fit.false in
    cover_made c.args.spec.now c.args.here.now c.args.var.0 c.args.patterns.now are c.in_ok-made.made.items
    (c.in_ok-made.ensures are) c.in_ok-children.children c.in_ok-children.ensures c.counted.result c.counted.ensures
