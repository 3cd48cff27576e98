use Rattle.std.proofs.Common.{◌≡◌, ◌++◌}
use Rattle.std.specs.Slice.Iter.{iter_rest}
use Rattle.std.specs.Iterator.Adapters.{zip_first, zip_second}
use Rattle.search_claims.specs.Claims.{named}
use Rattle.search_claims.proofs.claims.named_values.Given as goal

abbrev pub invariant-loop-var : goal.invariant-loop-var
invariant-loop-var l = l.pairs ++ named (iter_rest (zip_first l.var-iterator))
    (iter_rest (zip_second l.var-iterator)) ≡ named l.vars l.values
