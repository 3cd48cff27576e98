use Rattle.std.proofs.Common.{◌++◌, ap, sym, ◌∙◌}
use Rattle.std.proofs.lemmas.List.{append-nil}
use Rattle.std.proofs.lemmas.Slice.Zip.{either_empty_from_Zip}
use Rattle.search_claims.proofs.NamedValues.{named_end}
use Rattle.search_claims.proofs.claims.named_values.Goals as goal

pub returns : goal.returns
returns c =
    let e = named_end _ _ (either_empty_from_Zip c.loop-var.var-iterator c.next.new.self c.next.result
    c.in-None.is c.next.ensures.steps) in
    sym (ap (λ xs. c.loop-var.pairs ++ xs) e ∙ append-nil c.loop-var.pairs) ∙ c.loop-var.invariant
