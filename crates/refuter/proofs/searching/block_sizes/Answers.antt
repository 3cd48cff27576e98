use Rattle.std.proofs.Common.{ap, sym, subst}
use Rattle.std.specs.List.{AllByRecursion}
use Rattle.spec_core.specs.Sig.{IsSort}
use Rattle.refuter.specs.Blocks.{AreBlockSizes}
use Rattle.refuter.specs.Counts.{Counted}
use Rattle.refuter.proofs.BlockSizes.{sizes_unknown}
use Rattle.refuter.proofs.searching.block_sizes.Goals as goal

pub returns-then-depth-gt-MOST_COUNTED : goal.returns-then-depth-gt-MOST_COUNTED
returns-then-depth-gt-MOST_COUNTED c = sizes_unknown c.args.sig.now c.args.depth c.args.sorts.now
    c.new-sizes.result.items c.new-sizes.ensures.items

pub push_sizes-requires-clause-sorts : goal.push_sizes-requires-clause-sorts
push_sizes-requires-clause-sorts c = subst (λ (k : Counted). AllByRecursion (IsSort k.sig) c.args.sorts.now)
    (sym c.in_ok-counts.ensures) c.requires.sorts

pub push_sizes-requires-clause-cap : goal.push_sizes-requires-clause-cap
push_sizes-requires-clause-cap c = ap (λ (k : Counted). k.cap) c.in_ok-counts.ensures

pub returns : goal.returns
returns c = subst (λ (k : Counted). AreBlockSizes k.sig k.depth c.args.sorts.now c.push_sizes.new.sizes.items)
    c.in_ok-counts.ensures c.in_ok-push_sizes.ensures.sizes
