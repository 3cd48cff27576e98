use Rattle.std.proofs.Common.{◌≡◌, ◌++◌, drop}
use Rattle.spec_core.specs.TermText.{variable_names}
use Rattle.proof_words.proofs.naming.own_names.Given as goal

-- with the names that are left all have been copied
abbrev pub invariant-loop-var : goal.invariant-loop-var
invariant-loop-var l =
    l.names.items ++ variable_names (drop l.var-index l.vars) ≡ variable_names l.vars
