use Rattle.std.proofs.Common.{◌≡◌, List, true, false, sym, ◌∙◌, ap, subst, arith}
use Rattle.std.specs.List.{AllByRecursion}
use Rattle.term_core.specs.declared.ids.SortId.{SortId}
use Rattle.spec_core.specs.Sig.{Sig, IsSort}
use Rattle.spec_core.specs.WellSorted.{sorts_of}
use Rattle.spec_core.specs.declared.records.Equation.{Equation}
use Rattle.spec_core.specs.declared.records.VarInfo.{VarInfo}
use Rattle.growing_specs.specs.Growing.{AreSorted}
use Rattle.descent.proofs.SortedEquations.{each_sorted, sorted_each}
use Rattle.growing_specs.proofs.sorting.goal_is_sorted.Goals as goal

-- lists of sorts and of equations that are equal are sorted alike
alike : (sig : Sig) (one other : List SortId) (es fs : List Equation) → one ≡ other → es ≡ fs →
    AreSorted sig one es → AreSorted sig other fs
alike sig one other es fs e f are =
    subst (λ ctx. AreSorted sig ctx fs) e (subst (λ gs. AreSorted sig one gs) f are)

pub returns-then-not-are_sorted : goal.returns-then-not-are_sorted
returns-then-not-are_sorted c = (
  λ none. absurd (let q : false ≡ true = none in cc),
  λ sorted.
      let sorts : c.deref.result.now ≡ sorts_of c.args.goal.now.vars =
      c.deref.ensures.value ∙ c.in_ok-sorts.ensures ∙ ap (λ vs. sorts_of vs) c.as_slice.ensures in
      let no : c.are_sorted.result ≡ false = c.if-not-are_sorted.true in
      sym no ∙ c.are_sorted.ensures.1
      (alike c.args.sig.now (sorts_of c.args.goal.now.vars) c.deref.result.now c.args.goal.now.premises
      c.as_slice-3.result.now (sym sorts) (sym c.as_slice-3.ensures)
      (each_sorted c.args.sig.now (sorts_of c.args.goal.now.vars) c.args.goal.now.premises sorted.premises)),
)

pub returns : goal.returns
returns c =
    let sig = c.args.sig.now in
    let ctx = sorts_of c.args.goal.now.vars in
    let premises = c.args.goal.now.premises in
    let conclusions = c.args.goal.now.conclusions in
    let found : c.in_ok-sorts.sorts.items ≡ ctx = c.in_ok-sorts.ensures ∙ ap (λ vs. sorts_of vs) c.as_slice.ensures in
    let first : c.deref.result.now ≡ ctx = c.deref.ensures.value ∙ found in
    let second : c.deref-2.result.now ≡ ctx = c.deref-2.ensures.value ∙ found in
    let few = c.if-len-gt-MOST_VARIABLES.false in
    let count = c.len.ensures in (
      λ yes. record {
        premises = sorted_each sig ctx premises (alike sig c.deref.result.now ctx c.as_slice-3.result.now premises first
            c.as_slice-3.ensures (c.are_sorted.ensures.0 c.if-not-are_sorted.false));
        conclusions = sorted_each sig ctx conclusions (alike sig c.deref-2.result.now ctx c.as_slice-4.result.now
            conclusions second c.as_slice-4.ensures (c.are_sorted-2.ensures.0 yes));
        variables = subst (λ vs. AllByRecursion (λ (v : VarInfo). IsSort sig v.sort) vs) c.as_slice-2.ensures
            (c.have_sorts.ensures.0 c.if-not-have_sorts.false);
        few_variables = omega (arith, few, count);
      },
      λ sorted. c.are_sorted-2.ensures.1 (alike sig ctx c.deref-2.result.now conclusions c.as_slice-4.result.now
          (sym second) (sym c.as_slice-4.ensures) (each_sorted sig ctx conclusions sorted.conclusions)),
    )
