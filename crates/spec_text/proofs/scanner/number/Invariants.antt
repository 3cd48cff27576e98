use denote.Text.{Utf8}
use denote.Shadow.{shadow}
use Rattle.std.proofs.Common.{◌≡◌, ◌<◌, ◌^◌, ◌≤◌, length}
use Rattle.std.specs.Str.{chars}
use Rattle.spec_text.specs.Scanner.{digits}
use Rattle.spec_text.proofs.scanner.number.Given as goal

abbrev pub invariant-loop-c : goal.invariant-loop-c
invariant-loop-c l = shadow (Utf8 l.rest) × (digits l.count l.value (chars l.rest) ≡ digits 0 0 (chars l.text))
    × (l.value < 10 ^ l.count) × (l.count ≤ 6)

abbrev pub decreases-loop-c : goal.decreases-loop-c
decreases-loop-c l = length l.rest
