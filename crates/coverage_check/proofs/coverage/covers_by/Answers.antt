use Rattle.std.proofs.Common.{sym, ◌∙◌, subst}
use Rattle.std.specs.List.{AllByRecursion}
use Rattle.coverage_check.specs.Named.{IsNamed}
use Rattle.coverage_check.specs.Decisions.{HasSorts, NoneMissing, IsDecision}
use Rattle.coverage_check.proofs.Admitted.{some_matches}
use Rattle.coverage_check.proofs.Deciding.{rows_have_sorts}
use Rattle.coverage_check.proofs.Namings.{named_missing}
use Rattle.coverage_check.proofs.coverage.covers_by.Goals as goal

pub is_missing-requires : goal.is_missing-requires
is_missing-requires c = record {
  declared = c.requires.declared;
  range = c.requires.sorts;
  patterns = subst (λ rs. AllByRecursion (HasSorts c.args.sig.now c.args.sorts.now) rs)
      (sym (c.deref.ensures.value ∙ c.in_ok-patterns.ensures))
      (rows_have_sorts c.args.sig.now c.args.sorts.now c.args.rows.now c.requires.rows);
  variable = c.requires.any;
}

pub name-requires-clause-matrix : goal.name-requires-clause-matrix
name-requires-clause-matrix c = record {
  declared = c.requires.declared;
  range = c.requires.sorts;
  patterns = subst (λ rs. AllByRecursion (HasSorts c.args.sig.now c.args.sorts.now) rs)
      (sym (c.deref-then-branch.ensures.value ∙ c.in_ok-patterns.ensures))
      (rows_have_sorts c.args.sig.now c.args.sorts.now c.args.rows.now c.requires.rows);
  variable = c.requires.any;
}

pub returns-then-branch : goal.returns-then-branch
returns-then-branch c =
    let named = subst (λ rs. IsNamed c.args.sig.now rs c.args.sorts.now c.in_ok-name.field-0)
    (c.deref-then-branch.ensures.value ∙ c.in_ok-patterns.ensures) c.in_ok-name.ensures in
    (named_missing c.args.sig.now named, named)

pub returns : goal.returns
returns c =
    let none : NoneMissing c.args.sig.now c.deref.result.now c.args.sorts.now = subst
    (λ b. IsDecision c.args.sig.now c.deref.result.now c.args.sorts.now b) c.if-branch.false
    c.in_ok-is_missing.ensures in
    let all : NoneMissing c.args.sig.now c.args.rows.now c.args.sorts.now = subst
    (λ rs. NoneMissing c.args.sig.now rs c.args.sorts.now) (c.deref.ensures.value
    ∙ c.in_ok-patterns.ensures) none in
    λ vs v. some_matches c.args.sig.now c.args.sorts.now c.args.rows.now vs c.requires.rows (all vs v)
