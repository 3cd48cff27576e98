use Rattle.std.proofs.Common.{◌≡◌, codes, drop}
use Rattle.page_core.specs.Pages.{after}
use Rattle.proof_words.specs.InstanceEvents.{assignment_events}
use Rattle.proof_words.specs.ListEvents.{separated, separated_from}
use Rattle.proof_words.proofs.instances.draw_assignments.Given as goal

-- with the terms that are left all have been drawn
abbrev pub invariant-loop-number : goal.invariant-loop-number
invariant-loop-number l =
    let one = assignment_events l.naming.sig.now l.naming.names.now l.referred in
    after l.page (separated_from (codes ", ") one l.number (drop l.number l.terms))
    ≡ after l.fn.page (separated (codes ", ") one l.terms)
