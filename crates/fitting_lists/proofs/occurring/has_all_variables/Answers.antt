-- Every variable was found, or this one isn't there.
use Rattle.std.proofs.Common.{[], ◌∷◌, ◌≡◌, false, true, sym, arith}
use Rattle.term_core.specs.Variables.{Occurs}
use Rattle.fitting_lists.proofs.VariableTests.{all_found, not_all, not_alone}
use Rattle.fitting_lists.proofs.occurring.has_all_variables.Goals as goal

pub returns-then-not-occurs : goal.returns-then-not-occurs
returns-then-not-occurs c =
    let absent : Occurs c.loop-number.number c.args.term.now → ⊥ =
    λ o. let q : false ≡ true = c.if-not-occurs.ensures.1 o in cc
    in
    sym (
    not_all c.args.clause.now (c.args.term.now ∷ []) c.loop-number.number (omega arith)
    (not_alone c.loop-number.number c.args.term.now absent))

pub returns : goal.returns
returns c =
    sym (
    all_found c.args.clause.now (c.args.term.now ∷ [])
    (λ n lt. c.loop-number.invariant n (omega arith)))
