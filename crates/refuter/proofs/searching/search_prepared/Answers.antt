use Rattle.std.proofs.Common.{◌≡◌, ◌*◌, ◌≤◌, ◌∙◌, List, ap, arith, sym, subst, length}
use Rattle.std.specs.Prelude.{IfOk}
use Rattle.std.specs.List.{AllByRecursion}
use Rattle.term_core.specs.declared.ids.SortId.{SortId}
use Rattle.spec_core.specs.declared.records.VarInfo.{VarInfo}
use Rattle.spec_core.specs.Sig.{IsSort}
use Rattle.spec_core.specs.WellSorted.{sorts_of}
use Rattle.spec_core.specs.Overlap.{NoOverlap}
use Rattle.spec_core.specs.Groups.{GroupsAreWhole}
use Rattle.spec_core.specs.Order.{substitutions}
use Rattle.spec_core.proofs.Ranges.{sorts_in_range}
use Rattle.spec_core.specs.declared.records.Goal.{Goal}
use Rattle.spec_core.specs.declared.records.Spec.{Spec}
use Rattle.refuter.specs.Blocks.{AreBlockSizes}
use Rattle.refuter.specs.Finds.{Finds, IsFalse}
use Rattle.refuter.specs.Walk.{IsReady}
use Rattle.refuter.proofs.Progress.{variables_are}
use Rattle.refuter.proofs.Walks.{sorts_long}
use Rattle.refuter.proofs.searching.search_prepared.Goals as goal

pub new-requires-clause-in_range : goal.new-requires-clause-in_range
new-requires-clause-in_range c = sorts_in_range c.args.spec.now.sig c.requires.fine.signature

pub block_sizes-requires-clause-in_range : goal.block_sizes-requires-clause-in_range
block_sizes-requires-clause-in_range c = sorts_in_range c.args.spec.now.sig c.requires.fine.signature

pub block_sizes-requires-clause-sorts : goal.block_sizes-requires-clause-sorts
block_sizes-requires-clause-sorts c =
    let are : c.as_slice-2.result.now ≡ sorts_of c.args.goal.now.vars = c.as_slice-2.ensures
    ∙ c.in_ok-sorts.ensures ∙ ap (λ vars. sorts_of vars) c.as_slice.ensures in
    subst (λ ss. AllByRecursion (IsSort c.args.spec.now.sig) ss) (sym are)
    (variables_are c.args.spec.now.sig c.args.goal.now.vars
    (c.requires.fine.goals c.requires.listed.0 c.args.goal.now c.requires.listed.1).variables)

few_sorts : (vars : List VarInfo) (sorts : List SortId) → sorts ≡ sorts_of vars → length vars ≤ 16 → length sorts ≤ 16
few_sorts vars sorts e few =
    let l = sorts_long vars in
    let k : length sorts ≡ length (sorts_of vars) = ap (λ ss. length ss) e in
    omega arith

pub overflow_cast-walk : goal.overflow_cast-walk
overflow_cast-walk c =
    let are : c.in_ok-sorts.sorts ≡ sorts_of c.args.goal.now.vars = c.in_ok-sorts.ensures
    ∙ ap (λ vars. sorts_of vars) c.as_slice.ensures in
    let few = few_sorts c.args.goal.now.vars c.in_ok-sorts.sorts are
    (c.requires.fine.goals c.requires.listed.0 c.args.goal.now c.requires.listed.1).few_variables in
    omega (arith, few, c.len.ensures)

pub overflow_mul-walk : goal.overflow_mul-walk
overflow_mul-walk c =
    let are : c.in_ok-sorts.sorts ≡ sorts_of c.args.goal.now.vars = c.in_ok-sorts.ensures
    ∙ ap (λ vars. sorts_of vars) c.as_slice.ensures in
    let few = few_sorts c.args.goal.now.vars c.in_ok-sorts.sorts are
    (c.requires.fine.goals c.requires.listed.0 c.args.goal.now c.requires.listed.1).few_variables in
    omega (arith, few, c.len.ensures)

pub search-requires-clause-walk : goal.search-requires-clause-walk
search-requires-clause-walk c =
    let are : c.in_ok-sorts.sorts ≡ sorts_of c.args.goal.now.vars = c.in_ok-sorts.ensures
    ∙ ap (λ vars. sorts_of vars) c.as_slice.ensures in
    let sizes = subst (λ ss. AreBlockSizes c.args.spec.now.sig c.args.depth ss c.in_ok-sizes.sizes.items)
    (c.as_slice-2.ensures ∙ are) c.in_ok-sizes.ensures in
    let walk : IsReady c.args.spec.now c.args.goal.now c.args.depth c.in_ok-odometer.odometer
    (255 * c.len.result) c.deref.result.now = record {
      fine = c.requires.fine;
      listed = c.requires.listed;
      walks = c.in_ok-odometer.ensures;
      room = ap (λ n. 255 * n) (c.len.ensures ∙ ap (λ ss. length ss) are);
      counted = subst (λ ns. AreBlockSizes c.args.spec.now.sig c.args.depth (sorts_of c.args.goal.now.vars) ns)
          (sym c.deref.ensures.value) sizes;
    } in
    subst (λ (p : Spec × Goal). IsReady p.0 p.1 c.args.depth c.in_ok-odometer.odometer (255 * c.len.result)
    c.deref.result.now) (λ i. (sym c.requires.spec i, sym c.requires.goal i)) walk

pub search-requires-clause-sorts : goal.search-requires-clause-sorts
search-requires-clause-sorts c = c.as_slice-3.ensures ∙ c.in_ok-sorts.ensures
    ∙ ap (λ vars. sorts_of vars) c.as_slice.ensures ∙ ap (λ (g : Goal). sorts_of g.vars) (sym c.requires.goal)

pub returns-clause-finds : goal.returns-clause-finds
returns-clause-finds c =
    subst (λ (p : Spec × Goal). IfOk c.search.result (λ r. NoOverlap p.0 → GroupsAreWhole p.0 →
    Finds p.0 p.1 c.args.budget c.args.tries (substitutions p.0 p.1 c.args.depth) r))
    (λ i. (c.requires.spec i, c.requires.goal i)) c.search.ensures.finds

pub returns-clause-found : goal.returns-clause-found
returns-clause-found c =
    subst (λ (p : Spec × Goal). IfOk c.search.result
    (IsFalse p.0 p.1 c.args.tries (substitutions p.0 p.1 c.args.depth)))
    (λ i. (c.requires.spec i, c.requires.goal i)) c.search.ensures.found
