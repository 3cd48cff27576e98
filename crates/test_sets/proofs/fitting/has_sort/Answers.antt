use Rattle.std.proofs.Common.{◌≡◌, ap, subst}
use Rattle.std.proofs.lemmas.Bool.{eqb-true, eq-eqb}
use Rattle.term_core.specs.declared.ids.SortId.{SortId}
use Rattle.spec_core.specs.Sorts.{Sorted}
use Rattle.spec_core.proofs.OneSort.{sort_unique}
use Rattle.test_sets.proofs.fitting.has_sort.Goals as goal

pub returns-in-Some : goal.returns-in-Some
returns-in-Some c =
    let sig = c.args.sig.now in
    let ctx = c.args.ctx.now in
    let t = c.args.term.now in
    let found = c.in-Some.found in
    let s = c.args.sort in (
      λ same. (let e : found.0 ≡ s.0 = eqb-true found.0 s.0 same in
          let r : found ≡ s = λ i. record { 0 = e i } in subst (λ x. Sorted sig ctx t x) r c.in-Some.ensures),
      λ is. eq-eqb found.0 s.0 (ap (λ (x : SortId). x.0) (sort_unique sig ctx t found s c.in-Some.ensures is)),
    )
