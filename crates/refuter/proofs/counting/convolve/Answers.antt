use Rattle.std.proofs.Common.{arith, rules, ◌≡◌, ℕ, ◌<◌, ◌≤◌, ◌+◌, ◌-◌, ◌*◌, ◌++◌, refl, ap, sym, subst, ◌∙◌, min}
use Rattle.std.proofs.Common.{length, replicate, take, drop}
use Rattle.std.specs.Prelude.{slice_index}
use Rattle.std.proofs.lemmas.Grind.{common_steps}
use Rattle.refuter.specs.Counts.{IsCapped}
use Rattle.refuter.specs.Sequences.{convolution}
use Rattle.refuter.proofs.Convolved.{IsConvolvedTo, convolved_start, convolved_skip, convolved_more, convolved_end}
use Rattle.refuter.proofs.counting.convolve.Goals as goal

pub loop-place-init : goal.loop-place-init
loop-place-init c =
    let zeros : c.in_ok-numbers.numbers.items ≡ replicate 256 0 = search rules in
    convolved_start c.args.cap (slice_index c.args.first.now) (slice_index c.args.rest.now) 256
    c.in_ok-numbers.numbers.items refl zeros

pub loop-place-preserved-then-factor-eq0 : goal.loop-place-preserved-then-factor-eq0
loop-place-preserved-then-factor-eq0 c =
    convolved_skip c.args.cap (slice_index c.args.first.now) (slice_index c.args.rest.now) c.loop-place.place
    c.loop-place.numbers.items c.loop-place.invariant c.if-factor-eq0.true

pub loop-place-preserved : goal.loop-place-preserved
loop-place-preserved c =
    let f = slice_index c.args.first.now in
    let g = slice_index c.args.rest.now in
    let place = c.loop-place.place in
    let numbers = c.loop-place.numbers.items in
    let new = c.add_multiple.new.numbers in
    let is : take c.loop-place.numbers.len (new ++ drop (length new) numbers) ≡ new = grind (arith, common_steps) in
    let old : c.deref_mut.result.now ≡ numbers = search rules in
    let same : length new ≡ length numbers = grind (arith, common_steps) in
    let before : (n : ℕ) → n < place →
    slice_index new n ≡ slice_index numbers n = λ n l. c.add_multiple.ensures.before n l
    ∙ ap (λ xs. slice_index xs n) old in
    let from : (n : ℕ) → place ≤ n → n < 256 →
    slice_index new n ≡ min (slice_index numbers n + f place * g (n - place)) c.args.cap = λ n b l.
    c.add_multiple.ensures.from n b l
    ∙ ap (λ xs. min (slice_index xs n + f place * g (n - place)) c.args.cap) old in
    subst (λ xs. IsConvolvedTo c.args.cap f g (place + 1) xs) (sym is)
    (convolved_more c.args.cap f g place numbers new c.loop-place.invariant same before from)

pub returns : goal.returns
returns c =
    let f = slice_index c.args.first.now in
    let g = slice_index c.args.rest.now in
    let e : c.loop-place.place ≡ 256 = omega arith in
    let all = subst (λ n. IsConvolvedTo c.args.cap f g n c.loop-place.numbers.items) e c.loop-place.invariant in
    subst (λ xs. IsCapped c.args.cap (convolution f g) xs) (sym c.from_vec.ensures)
    (convolved_end c.args.cap f g c.loop-place.numbers.items all)
