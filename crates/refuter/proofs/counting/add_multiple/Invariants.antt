use Rattle.std.proofs.Common.{◌≡◌, ◌<◌, ◌≤◌, ◌+◌, ◌-◌, ◌*◌, ℕ, min}
use Rattle.std.specs.Prelude.{slice_index}
use Rattle.refuter.proofs.counting.add_multiple.Given as goal

abbrev pub invariant-loop-symbols : goal.invariant-loop-symbols
invariant-loop-symbols l = record {
  before : (n : ℕ) → n < l.place → slice_index l.numbers n ≡ slice_index l.fn.numbers n;
  from : (n : ℕ) → l.place ≤ n → n < l.symbols →
      slice_index l.numbers n ≡ min (slice_index l.fn.numbers n + l.factor * slice_index l.others (n - l.place)) l.cap;
  after : (n : ℕ) → l.symbols ≤ n → slice_index l.numbers n ≡ slice_index l.fn.numbers n;
}
