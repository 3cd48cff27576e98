use Rattle.std.proofs.Common.{rules, ℕ, List, ◌≡◌, ◌++◌, ◌∷◌, [], ◌%◌, ◌/◌, ◌+◌, refl}
use Rattle.std.specs.Fmt.{decimal}
use Rattle.std.proofs.lemmas.List.{append_assoc}
use Rattle.spec_core.proofs.Decimals.{decimal_ones, decimal_step}
use Rattle.spec_core.proofs.printing.+append_decimal.Goals as goal
use Rattle.spec_core.proofs.printing.+append_decimal.Goals.{then-number-ge10+in_ok-append_decimal, else-number-ge10}

-- the last digit comes after those of the tenth, if there are any
pub returns : goal.returns
returns t c =
    let last : List ℕ = (48 + c.args.number % 10) ∷ [] in
    let pushed : c.push.new.self.items ≡ c.if-number-ge10.text.items ++ last = search rules in
    elim c.if-number-ge10.branch [
      | then-number-ge10+in_ok-append_decimal w ↦
          let tenth : List ℕ = decimal (c.args.number / 10) in
          let front : c.if-number-ge10.text.items ≡ c.args.text.now.items ++ tenth = search rules in
          let all : decimal c.args.number ≡ tenth ++ last =
          decimal_step c.args.number w.if-number-ge10.true c.ranges.number.fits in
          rw (pushed, front, all) (append_assoc c.args.text.now.items tenth last)
      | else-number-ge10 w ↦
          rw (pushed, w.text-is, decimal_ones c.args.number w.if-number-ge10.false) refl
    ]
