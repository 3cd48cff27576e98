use Rattle.std.proofs.Common.{◌≡◌, drop, option_copied}
use Rattle.page_core.specs.Pages.{after}
use Rattle.proof_words.specs.ClauseEvents.{equations_events, equations_from}
use Rattle.proof_words.proofs.clauses.draw_equations.Given as goal

-- with the equations that are left all have been drawn
abbrev pub invariant-loop-index : goal.invariant-loop-index
invariant-loop-index l =
    let sig = l.naming.sig.now in
    let names = l.naming.names.now in
    let mark = option_copied l.mark in
    after l.page (equations_from sig names mark l.conclusion l.index (drop l.index l.equations))
    ≡ after l.fn.page (equations_events sig names mark l.conclusion l.equations)
