use Rattle.std.proofs.Common.{◌≤◌, ◌<◌, ◌^◌, ℕ, List, length, take}
use Rattle.std.specs.List.{AllByRecursion}
use Rattle.spec_core.specs.Sig.{names_of}
use Rattle.node_names.proofs.fresh.longest_symbol.Given as goal

abbrev pub invariant-loop-number : goal.invariant-loop-number
invariant-loop-number l = record {
  within : AllByRecursion (λ (name : List ℕ). length name ≤ l.most) (take l.number (names_of l.sig));
  small : l.most < 2 ^ 63;
}
