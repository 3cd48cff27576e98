use Rattle.std.proofs.Common.{◌≡◌, ◌<◌, ℕ, length}
use Rattle.std.specs.Prelude.{slice_index}
use Rattle.script_trim.specs.Cut.{new_number}
use Rattle.script_trim.specs.Flags.{flag_of}
use Rattle.script_trim.proofs.flags.new_numbers.Given as goal

abbrev pub invariant-loop-stay : goal.invariant-loop-stay
invariant-loop-stay l = record {
  long : length l.numbers.items ≡ l.stay-index;
  next : l.before ≡ new_number (flag_of l.stays) l.stay-index;
  tells : (k : ℕ) → k < l.stay-index → slice_index l.numbers.items k ≡ new_number (flag_of l.stays) k;
}
