-- No reference in any place is no entry.
use Rattle.std.proofs.Common.{rules, ◌≡◌, None, ap, ◌∙◌}
use Rattle.std.specs.Prelude.{replicate}
use Rattle.matching.specs.Bindings.{entries_of}
use Rattle.matching.proofs.BoundEntries.{none_yet}
use Rattle.matching.proofs.bindings.Bindings.reset.Goals as goal

pub returns : goal.returns
returns c =
    let empty : c.resize.new.self.items ≡ replicate c.args.count None = search rules in
    ap entries_of empty ∙ none_yet c.args.count
