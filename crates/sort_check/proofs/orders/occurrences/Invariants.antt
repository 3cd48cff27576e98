use Rattle.std.proofs.Common.{◌≡◌, ◌<◌, ℕ, suc, length, take, get_or}
use Rattle.term_core.specs.Precedence.{times}
use Rattle.sort_check.proofs.orders.occurrences.Given as goal

abbrev pub invariant-loop-number : goal.invariant-loop-number
invariant-loop-number l =
    record {
      long : length l.counts.items ≡ length l.numbers;
      each :
          (k : ℕ) → k < length l.numbers →
          get_or l.counts.items k 0 ≡ times (suc k) (take l.number-index l.numbers);
    }
