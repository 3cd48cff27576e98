use Rattle.std.proofs.Common.{get_or}
use Rattle.std.proofs.lemmas.List.{get_or_default}
use Rattle.coverage_check.proofs.Fronts.{front_made}
use Rattle.coverage_check.proofs.columns.fronted_sorts.Goals as goal

pub returns : goal.returns
returns c =
    let sorts = c.args.sorts.now in
    let k = c.args.column in
    front_made k sorts (get_or sorts k (record { 0 = 0 })) c.in_ok-made.made.items c.push.new.self.items
    c.extend_from_slice.new.self.items c.extend_from_slice-2.new.self.items c.requires
    (get_or_default sorts k _ _ c.requires) c.in_ok-made.ensures.items c.in_ok-push.ensures.items
    c.in_ok-extend_from_slice.ensures.items c.in_ok-extend_from_slice-2.ensures.items
