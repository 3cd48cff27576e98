use Rattle.std.proofs.Common.{◌≡◌, List, ap, ◌∙◌}
use Rattle.std.specs.Prelude.{◌++◌}
use Rattle.term_core.specs.declared.ids.SortId.{SortId}
use Rattle.test_sets.specs.Children.{sorts_in}
use Rattle.test_sets.proofs.FittingPatterns.{decided, refused}
use Rattle.test_sets.proofs.fitting.is_pattern_of.Goals as goal
use Rattle.test_sets.proofs.fitting.is_pattern_of.Goals.{then-has_sort, else-has_sort}

pub returns : goal.returns
returns c =
    let sig = c.args.sig.now in
    let s = c.args.sort in
    let p = c.args.pattern.now in
    let ctx : c.deref.result.now ≡ sorts_in sig s p = c.deref.ensures.value ∙ c.in_ok-push_sorts.ensures
    ∙ ap (λ (ss : List SortId). ss ++ sorts_in sig s p) c.new-sorts.ensures.items in
    elim c.if-has_sort.branch [
      | then-has_sort w ↦ decided sig s p c.deref.result.now ctx (c.has_sort.ensures.0 w.if-has_sort.true)
          w.numbered.result w.numbered.ensures c.if-has_sort.result (w.result-is ∙ w.is_some.ensures)
      | else-has_sort w ↦ refused sig s p c.deref.result.now ctx
          (λ sorted. (let yes = c.has_sort.ensures.1 sorted in let off = w.if-has_sort.false in cc))
          c.if-has_sort.result (w.result-is ∙ w.if-has_sort.false)
    ]
