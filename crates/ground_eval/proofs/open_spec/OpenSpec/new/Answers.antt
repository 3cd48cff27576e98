use Rattle.std.proofs.Common.{◌≡◌, ℕ, List, ap, sym, ◌∙◌, subst, length}
use Rattle.std.specs.List.{AllByRecursion}
use Rattle.term_core.specs.declared.ids.SortId.{SortId}
use Rattle.spec_core.specs.declared.records.VarInfo.{VarInfo}
use Rattle.spec_core.specs.Sig.{IsSort}
use Rattle.spec_core.specs.WellSorted.{sorts_of}
use Rattle.open_evaluation.specs.Shifted.{IsExtended, shifted_goal}
use Rattle.ground_eval.specs.Opened.{HaveConstants}
use Rattle.ground_eval.proofs.open_spec.OpenSpec.new.Goals as goal

pub with_constants-requires-clause-in_range : goal.with_constants-requires-clause-in_range
with_constants-requires-clause-in_range c =
    let q = c.requires.fine.goals c.requires.listed.0 c.args.goal.now c.requires.listed.1 in
    let all = subst (λ (vs : List VarInfo). AllByRecursion (λ (v : VarInfo). IsSort c.args.spec.now.sig v.sort)
    vs) (sym c.as_slice.ensures) q.variables in
    subst (λ (ss : List SortId). AllByRecursion (IsSort c.args.spec.now.sig) ss) (sym c.deref.ensures.value)
    (c.in_ok-sorts.ensures.in_range c.args.spec.now.sig all)

pub returns : goal.returns
returns c =
    let q = c.requires.fine.goals c.requires.listed.0 c.args.goal.now c.requires.listed.1 in
    let all = subst (λ (vs : List VarInfo). AllByRecursion (λ (v : VarInfo). IsSort c.args.spec.now.sig v.sort)
    vs) (sym c.as_slice.ensures) q.variables in
    let sorts = c.in_ok-sorts.sorts.items in
    let count : c.len-count.result ≡ length sorts = cc in
    record {
      sorts = sorts;
      constants = subst (λ (vs : List VarInfo). HaveConstants (sorts_of vs) sorts) c.as_slice.ensures
          c.in_ok-sorts.ensures.constants;
      extends = record {
        in_range = c.in_ok-sorts.ensures.in_range c.args.spec.now.sig all;
        more = subst (λ (ss : List SortId). IsExtended c.args.spec.now c.in_ok-extended.extended ss)
            c.deref.ensures.value c.in_ok-extended.ensures.extended;
        fine = c.in_ok-extended.ensures.fine;
      };
      same = c.in_ok-shifted.ensures ∙ ap (λ (k : ℕ). shifted_goal k c.len-count.result c.args.goal.now)
          c.constructors.ensures.count
          ∙ ap (λ (m : ℕ). shifted_goal c.args.spec.now.sig.constructors m c.args.goal.now) count;
    }
