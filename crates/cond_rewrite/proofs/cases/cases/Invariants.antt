use Rattle.std.proofs.Common.{◌≡◌, map, take}
use Rattle.std.specs.List.{AllByRecursion}
use Rattle.clause_core.specs.Limits.{IsWithin}
use Rattle.clause_core.specs.Tidied.{tidied}
use Rattle.clause_core.specs.Places.{TermAt}
use Rattle.cond_rewrite.specs.Applied.{applied_cases}
use Rattle.cond_rewrite.proofs.cases.cases.Given as goal

abbrev pub invariant-loop-rule : goal.invariant-loop-rule
invariant-loop-rule l =
    (p : TermAt l.clause l.place) →
    (l.made.items ≡ map tidied (applied_cases p l.theta.terms (take l.rule-index l.rules) l.left))
    × AllByRecursion IsWithin l.made.items
