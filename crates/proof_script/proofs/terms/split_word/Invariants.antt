use Rattle.std.proofs.Common.{take}
use Rattle.proof_script.specs.Delimiters.{AllRun}
use Rattle.proof_script.proofs.terms.split_word.Given as goal

-- no byte before this place ends a word
abbrev pub invariant-loop-end : goal.invariant-loop-end
invariant-loop-end l = AllRun (take l.end l.bytes)
