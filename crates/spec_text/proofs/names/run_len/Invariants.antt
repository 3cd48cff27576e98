use denote.Text.{Utf8}
use denote.Shadow.{shadow}
use Rattle.std.proofs.Common.{◌≡◌, ◌+◌, length}
use Rattle.std.specs.Str.{chars}
use Rattle.spec_text.specs.Scanner.{run_of}
use Rattle.spec_text.proofs.names.run_len.Given as goal

abbrev pub invariant-loop-c : goal.invariant-loop-c
invariant-loop-c l =
    shadow (Utf8 l.rest) × (l.len + run_of (chars l.rest) ≡ run_of (chars l.text))
    × (l.len + length l.rest ≡ length l.text)

abbrev pub decreases-loop-c : goal.decreases-loop-c
decreases-loop-c l = length l.rest
