use Rattle.std.proofs.Common.{◌≡◌, sym, ◌∙◌, arith}
use Rattle.proof_script.proofs.Runs.{decimal_same}
use Rattle.proof_script.proofs.places.read_index.Goals as goal
use Rattle.proof_script.proofs.places.read_index.Goals.{then-number-eq0-via-then-number-eq0}
use Rattle.proof_script.proofs.places.read_index.Goals.{then-number-eq0-via-else-number-eq0+then-number-gt-MAX_INDEX}

pub returns-then-number-eq0 : goal.returns-then-number-eq0
returns-then-number-eq0 c =
    λ n is.
    let found = c.in_ok-number.ensures in
    let same : n ≡ c.in_ok-number.number = decimal_same n c.in_ok-number.number (omega (arith, is.between.1))
    found.short (is.is ∙ sym found.is) in
    elim c.then-number-eq0.branch [
      | then-number-eq0-via-then-number-eq0 w ↦ omega (arith, same, is.between.0)
      | then-number-eq0-via-else-number-eq0+then-number-gt-MAX_INDEX w ↦ omega (arith, same, is.between.1)
    ]
