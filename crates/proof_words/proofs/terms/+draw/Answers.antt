use Rattle.std.proofs.Common.{◌≡◌, ℕ, List, [], ◌∷◌, Option, ap, sym, ◌∙◌, option_copied, codes, drop, arith}
use Rattle.std.proofs.Math.ListN.{drop_of_length-le}
use Rattle.std.proofs.lemmas.Result.{IfOk-equal}
use Rattle.term_core.specs.View.{tree_of}
use Rattle.term_core.proofs.Trees.{weight-member}
use Rattle.page_core.specs.Events.{text}
use Rattle.page_core.specs.Pages.{after}
use Rattle.proof_words.specs.TermEvents.{term_events}
use Rattle.proof_words.proofs.Arguments.{all_drawn, others_from, others_left}
use Rattle.proof_words.proofs.Joined.{finished}
use Rattle.proof_words.proofs.terms.+draw.Goals as goal

pub draw_others-draw_term-requires : goal.draw_others-draw_term-requires
draw_others-draw_term-requires t c =
    let loop = c.loop-index in
    let item = c.index-others-index in
    (omega (arith, weight-member c.args.others.now loop.index item.result c.loop-index-test.true item.is), tt)

pub draw_others-loop-index-preserved : goal.draw_others-loop-index-preserved
draw_others-loop-index-preserved t c =
    let sig = c.args.naming.now.sig.now in
    let names = c.args.naming.now.names.now in
    let loop = c.loop-index in
    let item = c.index-others-index in
    let commas = ap (λ style. after loop.page (text style (codes ", ") ∷ [])) c.style_of-style.ensures in
    let p = c.text.new.self in
    let first = λ (mark : Option (List ℕ)). after p (term_events sig names mark c.args.depth item.result) in
    others_left sig names (option_copied c.args.mark) c.args.depth c.args.others.now
    loop.index item.result c.loop-index-test.true item.is loop.page p c.draw_term.new.page
    (c.in_ok-text.ensures ∙ commas) (c.in_ok-draw_term.ensures ∙ ap first c.mark_in.ensures)
    ∙ loop.invariant

pub draw_others-returns : goal.draw_others-returns
draw_others-returns t c =
    let sig = c.args.naming.now.sig.now in
    let names = c.args.naming.now.names.now in
    let others = c.args.others.now in
    let i = c.loop-index.index in
    let none : drop i others ≡ [] = drop_of_length-le others (omega arith) in
    finished c.loop-index.page c.args.page.now _ _
    (ap (others_from sig names (option_copied c.args.mark) c.args.depth i) none) c.loop-index.invariant

pub draw_shown-returns-in_ok-draw_others-in-App : goal.draw_shown-returns-in_ok-draw_others-in-App
draw_shown-returns-in_ok-draw_others-in-App t c =
    let sig = c.args.naming.now.sig.now in
    let names = c.args.naming.now.names.now in
    let w = c.in-App in
    let view = ap tree_of (sym w.is) ∙ c.term.view_is in
    let some_arguments : w.arguments ≡ c.in-Some.first.now ∷ c.in-Some.others.now =
    sym c.as_slice.ensures ∙ c.in-Some.ensures in
    IfOk-equal c.text-in-App-2.result _ _ _ c.text-in-App-2.ensures
    (all_drawn sig names (option_copied c.args.mark) c.args.depth w.symbol.0 w.arguments
    c.in-Some.others.now c.in-Some.first.now c.args.term.now
    c.style_of-style.result c.symbol_name.result.now (option_copied c.mark_in.result)
    c.style_of-style.ensures c.symbol_name.ensures c.mark_in.ensures some_arguments view _ _ _ _ _
    c.in_ok-text-in-App.ensures c.in_ok-text-in-App-2.ensures
    c.in_ok-draw_term-in-App.ensures c.in_ok-draw_others-in-App.ensures)
