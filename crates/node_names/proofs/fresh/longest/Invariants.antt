use Rattle.std.proofs.Common.{◌≤◌, ◌<◌, ◌^◌, ℕ, List, length, take}
use Rattle.std.specs.List.{AllByRecursion}
use Rattle.node_names.proofs.fresh.longest.Given as goal

abbrev pub invariant-loop-name : goal.invariant-loop-name
invariant-loop-name l = record {
  within : AllByRecursion (λ (name : List ℕ). length name ≤ l.most) (take l.name-index l.names);
  small : l.most < 2 ^ 63;
}
