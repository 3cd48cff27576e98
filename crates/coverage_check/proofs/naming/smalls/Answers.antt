use Rattle.std.proofs.Common.{◌+◌, ◌∷◌, ◌++◌, [], take, get_or, sym, subst}
use Rattle.std.proofs.lemmas.List.{take_more}
use Rattle.term_core.specs.Tree.{trees_of}
use Rattle.spec_core.specs.Small.{AreSmall}
use Rattle.spec_core.proofs.SmallValues.{smalls_more}
use Rattle.coverage_check.proofs.naming.smalls.Goals as goal

pub loop-sort-preserved : goal.loop-sort-preserved
loop-sort-preserved c =
    let sig = c.args.sig.now in
    let sorts = c.args.sorts.now in
    let i = c.loop-sort.sort-index in
    let s = get_or sorts i (record { 0 = 0 }) in
    let made = c.loop-sort.made in
    let value = c.in_ok-small.field-0 in
    let more = smalls_more sig (take i sorts) made s value c.loop-sort.invariant c.in_ok-small.ensures in
    let here : AreSmall sig (take (i + 1) sorts) (trees_of (made ++ value ∷ [])) = subst
    (λ ss. AreSmall sig ss (trees_of (made ++ value ∷ [])))
    (sym (take_more sorts i (record { 0 = 0 }) c.loop-sort-test.true)) more in
    subst (λ ts. AreSmall sig (take (i + 1) sorts) (trees_of ts)) (sym c.in_ok-push.ensures.pushed) here
