use Rattle.std.proofs.Common.{◌≡◌, ◌-◌, List, [], ◌∷◌, Option, Some, length, get_or, vec_len, ap, sym, ◌∙◌, subst}
use Rattle.std.proofs.Common.{arith}
use Rattle.std.specs.Prelude.{MatchOption}
use Rattle.std.specs.List.{AllByRecursion}
use Rattle.term_core.specs.Tree.{Tree}
use Rattle.coverage_check.specs.Rows.{IsRow}
use Rattle.coverage_check.specs.Named.{IsNamed}
use Rattle.coverage_check.specs.Values.{AreCovered, IsMissing}
use Rattle.coverage_check.specs.Coverage.{IsCoverage}
use Rattle.clause_core.specs.Patterns.{AreCovering}
use Rattle.test_sets.specs.Covers.{IsUncovered, rows_of}
use Rattle.test_sets.proofs.CoveredValues.{some_patterns, are_rows, covered, uncovered}
use Rattle.test_sets.proofs.patterns.uncovered.Goals as goal

pub covers-requires-clause-rows : goal.covers-requires-clause-rows
covers-requires-clause-rows c =
    let sig = c.args.sig.now in
    let ps = c.args.patterns.now in
    let made : c.deref.result.now ≡ rows_of ps = c.deref.ensures.value ∙ c.in_ok-rows.ensures in
    subst (λ rs. AllByRecursion (IsRow sig (c.args.sort ∷ [])) rs) (sym made)
    (are_rows sig c.args.sort ps (some_patterns sig c.args.sort c.requires.patterns.0 ps c.requires.patterns.1))

pub returns-in-Covered : goal.returns-in-Covered
returns-in-Covered c =
    let sig = c.args.sig.now in
    let ps = c.args.patterns.now in
    let made : c.deref.result.now ≡ rows_of ps = c.deref.ensures.value ∙ c.in_ok-rows.ensures in
    let all : AreCovered sig c.deref.result.now (c.args.sort ∷ []) = subst
    (λ a. IsCoverage sig c.deref.result.now (c.args.sort ∷ []) a) c.in-Covered.is c.in_ok-covers.ensures in
    covered sig c.args.sort ps (subst (λ rs. AreCovered sig rs (c.args.sort ∷ [])) made all)

pub returns : goal.returns
returns c =
    let sig = c.args.sig.now in
    let ps = c.args.patterns.now in
    let made : c.deref.result.now ≡ rows_of ps = c.deref.ensures.value ∙ c.in_ok-rows.ensures in
    let is = subst (λ a. IsCoverage sig c.deref.result.now (c.args.sort ∷ []) a) c.in-Missing.is
    c.in_ok-covers.ensures in
    let missing : IsMissing sig (rows_of ps) (c.args.sort ∷ []) c.in-Missing.values = subst
    (λ rs. IsMissing sig rs (c.args.sort ∷ []) c.in-Missing.values) made is.0 in
    let found = uncovered sig c.args.sort ps c.in-Missing.values missing
    (subst (λ rs. IsNamed sig rs (c.args.sort ∷ []) c.in-Missing.values) made is.1) in
    let v = found.0 in
    let items : c.in_ok-into_vec-in-Missing.field-0.items ≡ v ∷ [] = c.in_ok-into_vec-in-Missing.ensures ∙ found.1 in
    let count = ap (λ (ts : List Tree). length ts) items in
    let last : vec_len c.in_ok-into_vec-in-Missing.field-0 - 1 ≡ 0 = omega (arith, count) in
    let there : get_or c.in_ok-into_vec-in-Missing.field-0.items
    (vec_len c.in_ok-into_vec-in-Missing.field-0 - 1) v ≡ v = λ i. get_or (items i) (last i) v in
    let popped : c.pop.result ≡ Some v = c.pop.ensures.value v (omega (arith, count))
    ∙ ap (λ (t : Tree). Some t) there in
    subst (λ (o : Option Tree). MatchOption o (AreCovering sig c.args.sort ps) (IsUncovered sig c.args.sort ps))
    (sym popped) found.2
