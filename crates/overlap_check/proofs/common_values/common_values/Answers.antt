use Rattle.std.specs.Prelude.{IfSome}
use Rattle.std.specs.Option.{IfNone}
use Rattle.std.proofs.Common.{◌≡◌, true, false, subst, Option, None, Some}
use Rattle.term_core.specs.Tree.{trees_of}
use Rattle.substitutions.specs.declared.subst.Subst.{Subst}
use Rattle.unifier.specs.Unification.{IsMostGeneral, KeepsSorts, HaveNoUnifier}
use Rattle.overlap_check.proofs.Variables.{not_too_large, have_sorts}
use Rattle.overlap_check.proofs.TwoRules.{not_unified, are_common}
use Rattle.overlap_check.proofs.common_values.common_values.Goals as goal

pub rename_apart-requires : goal.rename_apart-requires
rename_apart-requires c = not_too_large c.args.sig.now c.args.first.now c.args.second.now c.requires.first
    c.requires.second c.len.result c.len.ensures

pub returns-in_default : goal.returns-in_default
returns-in_default c =
    let never : IfNone {T = Subst} None (HaveNoUnifier c.args.first.now.left c.in_ok-apart.apart) = subst
    (λ (o : Option Subst). IfNone o (HaveNoUnifier c.args.first.now.left c.in_ok-apart.apart))
    c.in_default.is c.in_ok-unifier.ensures.none in
    not_unified c.args.sig.now c.args.first.now c.args.second.now c.requires.first c.requires.second
    c.len.result c.in_ok-apart.apart c.len.ensures c.in_ok-apart.ensures never

pub small_values-requires-clause-first : goal.small_values-requires-clause-first
small_values-requires-clause-first c = have_sorts c.args.sig.now c.args.first.now c.requires.declared c.requires.first

pub small_values-requires-clause-second : goal.small_values-requires-clause-second
small_values-requires-clause-second c = have_sorts c.args.sig.now c.args.second.now c.requires.declared
    c.requires.second

pub returns : goal.returns
returns c =
    let left = c.args.first.now.left in
    let apart = c.in_ok-apart.apart in
    let s = c.in-Some.unifier in
    let smalls = c.in_ok-smalls.ensures in
    let general : IfSome (Some s) (λ u. IsMostGeneral left apart u.terms) = subst
    (λ (o : Option Subst). IfSome o (λ u. IsMostGeneral left apart u.terms)) c.in-Some.is
    c.in_ok-unifier.ensures.general in
    let keeps : IfSome (Some s) (λ u. KeepsSorts left apart u.terms) = subst
    (λ (o : Option Subst). IfSome o (λ u. KeepsSorts left apart u.terms)) c.in-Some.is
    c.in_ok-unifier.ensures.sorted in
    are_common c.args.sig.now c.args.first.now c.args.second.now c.requires.first c.requires.second c.len.result
    apart c.len.ensures c.in_ok-apart.ensures s.terms c.in_ok-smalls.smalls.terms smalls.0
    c.in_ok-unified.unified c.in_ok-call.call smalls.1 c.in_ok-unified.ensures c.in_ok-call.ensures
    (λ e. let f : false ≡ true = c.if-same.ensures.1 e in cc) general keeps smalls.2
    c.in_ok-arguments.ensures.0 (trees_of c.in_ok-arguments.field-0) c.in_ok-arguments.ensures.1
