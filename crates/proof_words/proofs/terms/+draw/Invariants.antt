use Rattle.std.proofs.Common.{◌≡◌, ◌*◌, suc, drop, option_copied}
use Rattle.term_core.specs.Measure.{weight, list_weight}
use Rattle.term_core.specs.Tree.{trees_of}
use Rattle.page_core.specs.Pages.{after}
use Rattle.proof_words.specs.TermEvents.{others_events}
use Rattle.proof_words.proofs.Arguments.{others_from}
use Rattle.proof_words.proofs.terms.+draw.Given as goal

abbrev pub decreases-draw_term : goal.decreases-draw_term
decreases-draw_term l = suc (2 * weight l.term.now)

abbrev pub decreases-draw_shown : goal.decreases-draw_shown
decreases-draw_shown l = 2 * weight l.term.now

abbrev pub decreases-draw_others : goal.decreases-draw_others
decreases-draw_others l = 2 * list_weight l.others.now

-- with the arguments that are left all have been drawn
abbrev pub invariant-draw_others-loop-index : goal.invariant-draw_others-loop-index
invariant-draw_others-loop-index l =
    let sig = l.naming.sig.now in
    let names = l.naming.names.now in
    let mark = option_copied l.mark in
    after l.page (others_from sig names mark l.depth l.index (drop l.index l.others))
    ≡ after l.fn.page (others_events sig names mark 2 l.depth (trees_of l.others))
