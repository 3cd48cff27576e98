use Rattle.std.proofs.Common.{◌≡◌, ◌+◌, ◌<◌, ◌∷◌, ◌++◌, ◌∙◌, [], arith, sym, ap, subst, length, length-append}
use Rattle.std.specs.List.{AllByRecursion}
use Rattle.spec_core.specs.Sig.{IsSort}
use Rattle.spec_core.specs.Order.{values}
use Rattle.refuter.specs.Blocks.{AreBlockSizes, IsRowCount, rows_of}
use Rattle.refuter.proofs.BlockSizes.{sizes_none, sizes_more, count_more, below_cap}
use Rattle.refuter.proofs.searching.+push_sizes.Goals as goal

pub returns-in_default-clause-sizes : goal.returns-in_default-clause-sizes
returns-in_default-clause-sizes t c = subst (λ ss. AreBlockSizes c.args.counts.now.sig c.args.counts.now.depth
    ss c.push.new.self.items) (sym c.in_default.ensures)
    (sizes_none c.args.counts.now.sig c.args.counts.now.depth c.push.new.self.items (c.in_ok-push.ensures.items
    ∙ ap (λ xs. xs ++ 1 ∷ []) c.requires.none))

pub returns-in_default-clause-long : goal.returns-in_default-clause-long
returns-in_default-clause-long t c =
    let e : length c.push.new.self.items ≡ 1 = ap (λ xs. length xs) (c.in_ok-push.ensures.items
    ∙ ap (λ xs. xs ++ 1 ∷ []) c.requires.none) in
    let z : length c.args.sorts.now ≡ 0 = ap (λ xs. length xs) c.in_default.ensures in
    omega arith

pub returns-in_default-clause-last : goal.returns-in_default-clause-last
returns-in_default-clause-last t c lt = sym
    (ap (λ ss. length (rows_of c.args.counts.now.sig c.args.counts.now.depth ss)) c.in_default.ensures)

pub push_sizes-requires : goal.push_sizes-requires
push_sizes-requires t c =
    let long : length c.args.sorts.now ≡ length c.in-Some.others.now + 1 = ap (λ xs. length xs)
    c.in-Some.ensures ∙ omega arith in
    let sorts = subst (λ ss. AllByRecursion (IsSort c.args.counts.now.sig) ss) c.in-Some.ensures c.requires.sorts in
    (omega arith, (sorts.1, (c.requires.cap, c.requires.none)))

pub of-requires : goal.of-requires
of-requires t c =
    let sorts = subst (λ ss. AllByRecursion (IsSort c.args.counts.now.sig) ss) c.in-Some.ensures c.requires.sorts in
    sorts.0

pub returns-clause-sizes : goal.returns-clause-sizes
returns-clause-sizes t c =
    let counted : c.of.result < 4294967295 →
    c.of.result ≡ length (values c.args.counts.now.sig c.args.counts.now.depth c.in-Some.sort.now) = λ lt.
    below_cap _ _ _ c.of.ensures c.requires.cap lt in
    let more = count_more c.args.counts.now.sig c.args.counts.now.depth c.in-Some.sort.now c.in-Some.others.now
    c.in_ok-size.size c.of.result c.saturating_mul-more.result c.in_ok-size.ensures.last counted
    c.saturating_mul-more.ensures in
    subst (λ ss. AreBlockSizes c.args.counts.now.sig c.args.counts.now.depth ss c.push-2.new.self.items)
    (sym c.in-Some.ensures) (sizes_more c.args.counts.now.sig c.args.counts.now.depth c.in-Some.sort.now
    c.in-Some.others.now c.push_sizes.new.sizes.items c.push-2.new.self.items c.saturating_mul-more.result
    c.in_ok-size.ensures.sizes c.in_ok-size.ensures.long c.in_ok-push-2.ensures.items more)

pub returns-clause-long : goal.returns-clause-long
returns-clause-long t c =
    let long : length c.args.sorts.now ≡ length c.in-Some.others.now + 1 = ap (λ xs. length xs)
    c.in-Some.ensures ∙ omega arith in
    let new = ap (λ xs. length xs) c.in_ok-push-2.ensures.items
    ∙ length-append c.push_sizes.new.sizes.items (c.saturating_mul-more.result ∷ []) in
    omega (arith, new, c.in_ok-size.ensures.long)

pub returns-clause-last : goal.returns-clause-last
returns-clause-last t c =
    let counted : c.of.result < 4294967295 →
    c.of.result ≡ length (values c.args.counts.now.sig c.args.counts.now.depth c.in-Some.sort.now) = λ lt.
    below_cap _ _ _ c.of.ensures c.requires.cap lt in
    let more = count_more c.args.counts.now.sig c.args.counts.now.depth c.in-Some.sort.now c.in-Some.others.now
    c.in_ok-size.size c.of.result c.saturating_mul-more.result c.in_ok-size.ensures.last counted
    c.saturating_mul-more.ensures in
    subst (λ ss. IsRowCount c.args.counts.now.sig c.args.counts.now.depth ss c.saturating_mul-more.result)
    (sym c.in-Some.ensures) more
