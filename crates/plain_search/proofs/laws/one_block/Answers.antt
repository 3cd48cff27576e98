use Rattle.std.proofs.Common.{map, ap}
use Rattle.clause_core.specs.Tidied.{renumbered_equation, variables_of, written_clause}
use Rattle.clause_core.proofs.OneStep.{one_answer}
use Rattle.plain_search.proofs.OneBlocks.{blocks_one}
use Rattle.plain_search.proofs.OneCandidates.{one_choice}
use Rattle.plain_search.proofs.laws.one_block.Goals as goal

pub returns : goal.returns
returns g c = λ o spec aim x a b fine premises p q.
    let above = g.O.TermOrder.above o in
    let tidy = c.tidying_laws.ensures.is_tidied (written_clause aim) in
    let none = ap (λ es. map (renumbered_equation (variables_of (written_clause aim))) es) premises in
    blocks_one above (one_choice above) (one_answer above) spec fine aim tidy none x a b p q
