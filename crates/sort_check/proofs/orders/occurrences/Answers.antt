use Rattle.std.proofs.Common.{◌≡◌, ◌≤◌, ◌<◌, ◌+◌, ◌-◌, ◌∙◌, ℕ, suc, refl, ap, arith, length, length-set, take, get_or}
use Rattle.std.proofs.lemmas.List.{take_all, length-take-le, get_or_read}
use Rattle.term_core.specs.Precedence.{times}
use Rattle.sort_check.proofs.Counting.{count-hit, count-miss, counts-made, times-few}
use Rattle.sort_check.proofs.orders.occurrences.Goals as goal
use Rattle.sort_check.proofs.orders.occurrences.Goals.{then-place-ge1+then-place-len, else-place-ge1}
use Rattle.sort_check.proofs.orders.occurrences.Goals.{else-place-ge1-via-then-place-ge1+else-place-len}
use Rattle.sort_check.proofs.orders.occurrences.Goals.{else-place-ge1-via-else-place-ge1}

pub overflow_add-index_mut : goal.overflow_add-index_mut
overflow_add-index_mut c =
    let numbers = c.args.numbers.now in
    let i = c.loop-number.number-index in
    let p : ℕ = get_or numbers i 0 in
    let counts = c.loop-number.counts.items in
    let inside : p - 1 < length counts = omega arith in
    let within : p - 1 < length numbers = omega (arith, inside, c.loop-number.invariant.long) in
    let read : c.index_mut.result.now ≡ get_or counts (p - 1) 0 =
    get_or_read counts (p - 1) c.index_mut.result.now inside c.index_mut.ensures.value 0 in
    let count : c.index_mut.result.now ≡ times (suc (p - 1)) (take i numbers) =
    read ∙ c.loop-number.invariant.each (p - 1) within in
    let few : times (suc (p - 1)) (take i numbers) ≤ length (take i numbers) =
    times-few (suc (p - 1)) (take i numbers) in
    omega (arith, count, few, length-take-le i numbers)

pub loop-number-preserved : goal.loop-number-preserved
loop-number-preserved c =
    let numbers = c.args.numbers.now in
    let i = c.loop-number.number-index in
    let p : ℕ = get_or numbers i 0 in
    let counts = c.loop-number.counts.items in
    let lt = c.loop-number-test.true in
    let long = c.loop-number.invariant.long in
    let each = c.loop-number.invariant.each in
    elim c.if-place-ge1.branch [
      | then-place-ge1+then-place-len w ↦
          let inside : p - 1 < length counts = omega arith in
          let read = get_or_read counts (p - 1) w.index_mut.result.now inside w.index_mut.ensures.value 0 in
          rw w.counts-is (record {
            long = length-set counts (p - 1) (w.index_mut.result.now + 1) ∙ long;
            each = λ k within.
                count-hit numbers counts i p lt refl each k within w.index_mut.result.now (omega arith)
                (omega arith) read;
          })
      | else-place-ge1 w ↦
          rw w.counts-is (record {
            long = long;
            each = λ k within.
                count-miss numbers counts i p lt refl each k within
                (elim w.else-place-ge1.branch [
                  | else-place-ge1-via-then-place-ge1+else-place-len v ↦ λ same. omega arith
                  | else-place-ge1-via-else-place-ge1 v ↦ λ same. omega arith
                ]);
          })
    ]

pub returns : goal.returns
returns c =
    let numbers = c.args.numbers.now in
    let i = c.loop-number.number-index in
    let ends : length numbers ≤ i = omega arith in
    counts-made numbers c.loop-number.counts.items i c.loop-number.invariant.long
    (λ k within. c.loop-number.invariant.each k within ∙ ap (λ ps. times (suc k) ps) (take_all i numbers ends))
