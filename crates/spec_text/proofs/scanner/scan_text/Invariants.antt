use Rattle.std.proofs.Common.{◌≡◌, ◌≤◌, length, List, ℕ, false}
use denote.Text.{Utf8}
use denote.Shadow.{shadow}
use Rattle.std.specs.Str.{chars}
use Rattle.spec_text.specs.Names.{size}
use Rattle.spec_text.specs.Tokens.{Scans}
use Rattle.spec_text.specs.Scanner.{skip_gaps}
use Rattle.spec_text.proofs.scanner.scan_text.Given as goal

abbrev pub invariant-loop-rest : goal.invariant-loop-rest
invariant-loop-rest l = shadow (Utf8 l.rest)
    × ((r : List ℕ) × Scans (size (chars l.text)) (chars l.text) l.tokens.items r
    × (chars l.rest ≡ skip_gaps false r)) × (length l.rest ≤ length l.text)

abbrev pub decreases-loop-rest : goal.decreases-loop-rest
decreases-loop-rest l = length l.rest
