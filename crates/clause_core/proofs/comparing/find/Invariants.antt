use Rattle.std.proofs.Common.{take}
use Rattle.std.specs.Prelude.{Contains}
use Rattle.term_core.specs.References.{terms_of}
use Rattle.clause_core.proofs.comparing.find.Given as goal

abbrev pub invariant-loop-place : goal.invariant-loop-place
invariant-loop-place l = Contains (terms_of (take l.place l.terms)) l.term → ⊥
