use Rattle.std.proofs.Common.{◌≡◌, false, true, refl, arith}
use Rattle.script_trim.proofs.OwnTerms.{variables_so_far, all_variables, as_many, variable_there}
use Rattle.script_trim.proofs.closing.are_variables.Goals as goal

pub loop-number-preserved : goal.loop-number-preserved
loop-number-preserved c =
    variables_so_far c.args.terms.now c.loop-number.number c.index-terms-number.result c.loop-number-test.true
    c.index-terms-number.is c.loop-number.invariant
    (c.is_variable.ensures.0 c.if-not-is_variable.false)

pub returns-then-terms-count : goal.returns-then-terms-count
returns-then-terms-count c = (
  λ y. absurd (let q : false ≡ true = y in cc),
  λ e. absurd (omega (arith, as_many c.args.terms.now c.args.count e)),
)

pub returns-then-not-is_variable : goal.returns-then-not-is_variable
returns-then-not-is_variable c = (
  λ y. absurd (let q : false ≡ true = y in cc),
  λ e. absurd (
      let is : c.is_variable.result ≡ true =
      c.is_variable.ensures.1 (variable_there c.args.terms.now c.args.count c.loop-number.number
      c.index-terms-number.result c.loop-number-test.true c.index-terms-number.is e) in
      cc),
)

pub returns : goal.returns
returns c = (
  λ y. all_variables c.args.terms.now c.loop-number.number c.args.count (omega arith) (omega arith) (omega arith)
      c.loop-number.invariant,
  λ e. refl,
)
