use Rattle.std.proofs.Common.{◌≡◌, ◌<◌, ℕ, List, Some, false, true, length, get_or, refl, sym, ap, ◌∙◌, subst}
use Rattle.std.specs.Prelude.{slice_get}
use Rattle.std.specs.List.{AllByRecursion}
use Rattle.std.proofs.lemmas.List.{take_all}
use Rattle.std.proofs.lemmas.Option.{slice_get_read}
use Rattle.term_core.specs.declared.ids.SortId.{SortId}
use Rattle.test_sets.specs.Children.{IsSomePattern}
use Rattle.test_sets.proofs.ChildrenOfPatterns.{all_at}
use Rattle.test_sets.proofs.FittingPatterns.{patterns_fit, fits_each}
use Rattle.test_sets.proofs.fitting.are_patterns_for.Goals as goal

-- the sort that is read is the one of the variable
sort_there : (ctx read : List SortId) (n : ℕ) (s : SortId) → read ≡ ctx → n < length read →
    s ≡ get_or read n s → slice_get ctx n ≡ Some s
sort_there ctx read n s e lt is = ap (λ (ss : List SortId). slice_get ss n) (sym e)
    ∙ slice_get_read read (length read) n s refl lt is

pub returns-then-not-branch : goal.returns-then-not-branch
returns-then-not-branch c =
    let sig = c.args.sig.now in
    let s = c.in-Some.sort.now in
    let ps = c.args.patterns.now in
    let p = c.pattern-item.result in
    let at = sort_there c.args.clause.now.ctx c.as_slice-ctx.result.now c.args.var.0 s c.as_slice-ctx.ensures
    c.in-Some.ensures.lookup.3.0 c.in-Some.ensures.lookup.1 in (
      λ t. absurd (let q : false ≡ true = t in cc),
      λ are. absurd (
          let each = fits_each sig c.args.clause.now c.args.var.0 s ps at are in
          let yes = c.in_ok-is_pattern_of.ensures.1
          (all_at (IsSomePattern sig s) ps c.loop-pattern.pattern-index p c.loop-pattern-test.true
          c.pattern-item.is each) in
          let off = c.if-not-branch.true in
          cc),
    )

pub returns : goal.returns
returns c =
    let sig = c.args.sig.now in
    let s = c.in-Some.sort.now in
    let ps = c.args.patterns.now in
    let at = sort_there c.args.clause.now.ctx c.as_slice-ctx.result.now c.args.var.0 s c.as_slice-ctx.ensures
    c.in-Some.ensures.lookup.3.0 c.in-Some.ensures.lookup.1 in
    let each = subst (λ xs. AllByRecursion (IsSomePattern sig s) xs)
    (take_all c.loop-pattern.pattern-index ps c.loop-pattern-test.false) c.loop-pattern.invariant in
    (λ t. patterns_fit sig c.args.clause.now c.args.var.0 s ps at each, λ are. refl)
