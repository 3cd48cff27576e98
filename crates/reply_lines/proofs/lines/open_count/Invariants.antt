use Rattle.std.proofs.Common.{◌≡◌, take}
use Rattle.reply_lines.specs.Lines.{claim_count, is_open}
use Rattle.reply_lines.proofs.lines.open_count.Given as goal

abbrev pub invariant-loop-claim : goal.invariant-loop-claim
invariant-loop-claim l = l.count ≡ claim_count is_open (take l.claim-index l.claims)
