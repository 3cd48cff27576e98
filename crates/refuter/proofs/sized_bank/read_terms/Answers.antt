use Rattle.std.proofs.Common.{◌∙◌, Err, ap, subst, length, get_or, ℕ, ◌<◌}
use Rattle.std.proofs.lemmas.Option.{slice_get-get_or}
use Rattle.term_core.proofs.Items.{all_at_or}
use Rattle.term_core.specs.Tree.{trees_of}
use Rattle.value_bank.specs.Answers.{IsAnswer}
use Rattle.value_bank.proofs.Placed.{terms_within}
use Rattle.refuter.proofs.Sizing.{not_large, next_term}
use Rattle.refuter.proofs.sized_bank.read_terms.Goals as goal

pub term-requires : goal.term-requires
term-requires c = all_at_or (λ (p : ℕ). p < length c.args.bank.now) c.args.places.now c.loop-place.place-index 0
    (terms_within c.args.bank.now c.args.places.now (trees_of c.requires.0) c.requires.1) c.loop-place-test.true

pub unreachable-requires : goal.unreachable-requires
unreachable-requires c =
    let i = c.loop-place.place-index in
    let large = subst (λ r. IsAnswer c.args.bank.now (get_or c.args.places.now i 0) r) (c.in-Err-Large.is
    ∙ ap (λ e. Err e) c.in-Err-Large.field-0-is) c.term.ensures in
    not_large c.args.bank.now c.args.places.now i c.requires c.loop-place-test.true large.0 large.1 large.2

pub loop-place-preserved : goal.loop-place-preserved
loop-place-preserved c =
    let i = c.loop-place.place-index in
    let read = subst (λ r. IsAnswer c.args.bank.now (get_or c.args.places.now i 0) r) c.in-Ok.is c.term.ensures in
    next_term c.args.bank.now c.args.places.now i (get_or c.args.places.now i 0) c.loop-place.made.items
    c.push.new.self.items c.in-Ok.term (slice_get-get_or c.args.places.now i 0 c.loop-place-test.true)
    c.loop-place.invariant read.0 c.in_ok-push-in-Ok.ensures.items
