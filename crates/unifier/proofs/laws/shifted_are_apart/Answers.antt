use Rattle.std.proofs.Common.{◌≡◌, ℕ, ◌+◌, ◌<◌, arith}
use Rattle.term_core.specs.Tree.{Tree}
use Rattle.term_core.specs.Variables.{Occurs}
use Rattle.unifier.specs.Shifting.{shifted}
use Rattle.unifier.proofs.Apart.{occurs_shifted}
use Rattle.unifier.proofs.laws.shifted_are_apart.Goals as goal

apart : (by : ℕ) (a b : Tree) → ((n : ℕ) → Occurs n a → n < by) → (n : ℕ) → Occurs n a → Occurs n (shifted by b) → ⊥
apart by a b below n here there =
    let w = occurs_shifted by b n there in
    let p : n < by = below n here in
    let q : n ≡ w.0 + by = w.1 in
    omega arith

pub returns : goal.returns
returns c = apart
