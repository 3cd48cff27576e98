use Rattle.std.proofs.Common.{◌≡◌, drop, flat_map}
use Rattle.page_core.specs.Pages.{after}
use Rattle.proof_words.specs.RuleEvents.{guard_events}
use Rattle.proof_words.proofs.rules.draw_guards.Given as goal

-- with the guards that are left all have been drawn
abbrev pub invariant-loop-guard : goal.invariant-loop-guard
invariant-loop-guard l =
    let one = guard_events l.naming.sig.now l.naming.names.now in
    after l.page (flat_map one (drop l.guard-index l.guards)) ≡ after l.fn.page (flat_map one l.guards)
