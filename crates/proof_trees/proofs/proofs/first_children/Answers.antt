use Rattle.std.proofs.Common.{◌∙◌, [], ◌∷◌, ◌++◌, ap, arith, length, map, refl, sym}
use Rattle.std.specs.List.{range_with_len}
use Rattle.std.proofs.lemmas.List.FromFn.{map-range_with_len_more}
use Rattle.std.proofs.lemmas.Option.{slice_get_read}
use Rattle.acceptance.specs.Strict.{first_child}
use Rattle.proof_trees.proofs.ShownProofs.{next_first}
use Rattle.proof_trees.proofs.proofs.first_children.Goals as goal

pub loop-link-preserved : goal.loop-link-preserved
loop-link-preserved c =
    let links = c.args.links.now in
    let i = c.loop-link.link-index in (
      c.in_ok-push.ensures.items
          ∙ ap (λ xs. xs ++ c.loop-link.next ∷ []) c.loop-link.invariant.0
          ∙ ap (λ n. map (first_child links) (range_with_len 0 i) ++ n ∷ []) c.loop-link.invariant.1
          ∙ sym (map-range_with_len_more (first_child links) 0 i i (omega arith)),
      omega (
        arith,
        c.loop-link.invariant.1,
        c.len.ensures,
        next_first links i c.link-item.result
            (slice_get_read links (length links) i c.link-item.result refl c.loop-link-test.true c.link-item.is),
      ),
    )
