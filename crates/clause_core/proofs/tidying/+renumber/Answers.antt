use Rattle.std.proofs.Common.{◌≡◌, ℕ, ◌+◌, ◌<◌, ◌≤◌, List, [], ◌∷◌, ◌++◌, ap, sym, ◌∙◌, map, take, drop, set, length}
use Rattle.std.proofs.Common.{get_or, arith, length-set}
use Rattle.std.proofs.lemmas.List.{take-set, take_more_set, take_all, drop-set-lt}
use Rattle.term_core.specs.Tree.{Tree, app, trees_of}
use Rattle.term_core.specs.Measure.{weight, list_weight, list_weight_is}
use Rattle.term_core.specs.View.{tree_of}
use Rattle.term_core.proofs.Bounds.{no_occurrence}
use Rattle.term_core.proofs.Trees.{weight-member}
use Rattle.term_core.specs.Variables.{occurrences, occurrences_all}
use Rattle.term_core.specs.Gathered.{gathered}
use Rattle.clause_core.specs.Tidied.{renumbered}
use Rattle.clause_core.proofs.Renumbering.{closed_kept, renumbered_all-trees_of, renumbered_next, gathered_next}
use Rattle.clause_core.proofs.Renumbering.{next_left, others_left}
use Rattle.clause_core.proofs.tidying.+renumber.Goals as goal

pub renumber-returns-in_ok-put_items-in-App-clause-made : goal.renumber-returns-in_ok-put_items-in-App-clause-made
renumber-returns-in_ok-put_items-in-App-clause-made t c =
    let olds = c.renumber_all.new.olds.items in
    let f = c.in-App.sym in
    let ts = c.in-App.args in
    let view : app f.0 (trees_of ts) ≡ c.args.term = ap tree_of (sym c.in-App.is) ∙ c.term.view_is in
    let taken : c.in_ok-take_items-in-App.field-0.items ≡ ts = rw c.in-App.is
    at c.in_ok-take_items-in-App.ensures.taken in
    let made : c.put_items.new.self ≡ map (renumbered olds) ts =
    c.in_ok-put_items-in-App.ensures.put ∙ c.in_ok-made-in-App.ensures.made
    ∙ ap (λ us. map (renumbered olds) us) taken in
    c.app.ensures ∙ ap (λ us. app f.0 us) (ap trees_of made ∙ sym (renumbered_all-trees_of olds ts))
    ∙ ap (renumbered olds) view

pub renumber-returns-then-bound-eq0-clause-olds : goal.renumber-returns-then-bound-eq0-clause-olds
renumber-returns-then-bound-eq0-clause-olds t c =
    let closed = no_occurrence c.args.term (sym c.bound.ensures ∙ c.if-bound-eq0.true) in
    sym (ap (gathered c.args.olds.now.items) closed)

pub renumber-returns-then-bound-eq0-clause-made : goal.renumber-returns-then-bound-eq0-clause-made
renumber-returns-then-bound-eq0-clause-made t c =
    sym (closed_kept _ c.args.term (sym c.bound.ensures ∙ c.if-bound-eq0.true))

pub renumber-renumber_all-requires : goal.renumber-renumber_all-requires
renumber-renumber_all-requires t c =
    let ts = c.in-App.args in
    let view : app c.in-App.sym.0 (trees_of ts) ≡ c.args.term = ap tree_of (sym c.in-App.is) ∙ c.term.view_is in
    let taken : c.in_ok-take_items-in-App.field-0.items ≡ ts = rw c.in-App.is
    at c.in_ok-take_items-in-App.ensures.taken in
    (omega (arith, ap weight view, list_weight_is ts, ap list_weight taken), tt)

-- the term that is taken out is the one that was there at first
taken_out :
    (now before : List Tree) (i : ℕ) (t there : Tree) → i < length now → length now ≡ length before →
    drop i now ≡ drop i before → t ≡ there → there ≡ get_or now i there → t ≡ get_or before i t
taken_out now before i t there lt same left is at =
    is ∙ at ∙ ap (λ d. get_or now i d) (sym is) ∙ next_left now before i t lt (omega (arith, lt, same)) left

pub renumber_all-renumber-requires : goal.renumber_all-renumber-requires
renumber_all-renumber-requires t c =
    let items = c.loop-index.terms.items in
    let lt : c.loop-index.index < length items = omega (
      arith,
      c.loop-index-test.true,
      c.len-index-end.ensures,
      c.loop-index.invariant.count,
    ) in
    let ts = c.args.terms.items in
    let h = c.loop-index.invariant in
    let at =
    taken_out items ts c.loop-index.index c.replace-term.result c.index_mut.result.now lt h.count h.others
    c.replace-term.ensures.value c.index_mut.ensures.value in
    let within : c.loop-index.index < length ts = omega (arith, lt, h.count) in
    (omega (arith, weight-member ts c.loop-index.index c.replace-term.result within at), tt)

pub renumber_all-loop-index-preserved : goal.renumber_all-loop-index-preserved
renumber_all-loop-index-preserved t c =
    let ts = c.args.terms.items in
    let i = c.loop-index.index in
    let items = c.loop-index.terms.items in
    let out = set items i c.replace-term.new.dest in
    let new = c.in_ok-terms.field-0 in
    let old = c.replace-term.result in
    let h = c.loop-index.invariant in
    let lt : i < length items = omega (arith, c.loop-index-test.true, c.len-index-end.ensures, h.count) in
    let within : i < length ts = omega (arith, lt, h.count) in
    let at =
    taken_out items ts i old c.index_mut.result.now lt h.count h.others c.replace-term.ensures.value
    c.index_mut.ensures.value in
    let start = c.args.olds.now.items in
    let news = c.renumber.new.olds.items in
    let met : news ≡ gathered (gathered start (occurrences_all (trees_of (take i ts)))) (occurrences old) =
    c.in_ok-terms.ensures.olds ∙ ap (λ (os : List ℕ). gathered os (occurrences old)) h.met in
    let inside : i < length out = omega (arith, lt, length-set items i c.replace-term.new.dest) in
    let put : take (i + 1) (set out i new) ≡ take i items ++ new ∷ [] =
    take_more_set out i new inside ∙ ap (λ us. us ++ new ∷ []) (take-set items i c.replace-term.new.dest) in
    record {
      met = met ∙ sym (gathered_next start ts i old within at);
      renumbered =
          renumbered_next start ts i old within at c.loop-index.olds.items news (take i items)
          (take (i + 1) (set out i new)) new h.met met h.renumbered c.in_ok-terms.ensures.made put;
      others =
          drop-set-lt (i + 1) out i new (omega arith)
          ∙ drop-set-lt (i + 1) items i c.replace-term.new.dest (omega arith)
          ∙ others_left items ts i old lt within h.others;
      count = length-set out i new ∙ length-set items i c.replace-term.new.dest ∙ h.count;
    }

pub renumber_all-returns-clause-olds : goal.renumber_all-returns-clause-olds
renumber_all-returns-clause-olds t c =
    let h = c.loop-index.invariant in
    let end : length c.args.terms.items ≤ c.loop-index.index = omega (
      arith,
      c.loop-index-test.false,
      c.len-index-end.ensures,
    ) in
    let all : take c.loop-index.index c.args.terms.items ≡ c.args.terms.items = take_all c.loop-index.index
    c.args.terms.items end in
    h.met ∙ ap (λ us. gathered c.args.olds.now.items (occurrences_all (trees_of us))) all

pub renumber_all-returns-clause-made : goal.renumber_all-returns-clause-made
renumber_all-returns-clause-made t c =
    let h = c.loop-index.invariant in
    let items = c.loop-index.terms.items in
    let end : length c.args.terms.items ≤ c.loop-index.index = omega (
      arith,
      c.loop-index-test.false,
      c.len-index-end.ensures,
    ) in
    let all : take c.loop-index.index c.args.terms.items ≡ c.args.terms.items = take_all c.loop-index.index
    c.args.terms.items end in
    let whole : take c.loop-index.index items ≡ items = take_all c.loop-index.index items
    (omega (arith, end, h.count)) in
    sym whole ∙ h.renumbered ∙ ap (λ us. map (renumbered c.loop-index.olds.items) us) all
