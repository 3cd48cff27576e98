use Rattle.std.proofs.Common.{Option, ◌≡◌, ◌≢◌, ◌≤◌, ℕ, sym, subst, arith, length, get_or}
use Rattle.std.specs.Prelude.{MatchOption}
use Rattle.proof_script.specs.Reading.{IsNumber}
use Rattle.proof_script.proofs.Decimals.{number_form, number_utf8, parsed_number, no_sign}
use Rattle.proof_script.proofs.numbers.read_number.Goals as goal

pub returns-then-bytes-gt9 : goal.returns-then-bytes-gt9
returns-then-bytes-gt9 c =
    λ n is.
    let f = number_form c.args.bytes.now n is in
    let few : length c.args.bytes.now ≤ 9 = f.few in
    let lone : get_or c.args.bytes.now 0 0 ≡ 48 → length c.args.bytes.now ≤ 1 = f.lone in
    let unsigned = no_sign c.args.bytes.now n is in
    grind arith

pub returns-in-Ok : goal.returns-in-Ok
returns-in-Ok c =
    let bytes = c.args.bytes.now in
    let unsigned : get_or bytes 0 0 ≢ 43 = grind arith in
    let lone : get_or bytes 0 0 ≡ 48 → length bytes ≤ 1 = grind arith in
    let P = λ (r : Option ℕ). MatchOption r ((n : ℕ) → IsNumber bytes n → ⊥) (λ n. IsNumber bytes n) in
    subst P (sym c.ok.ensures.value) (parsed_number bytes c.parse.result c.if-bytes-gt9.false unsigned lone
    (rw (c.in-Ok.ensures.cases.0) at c.parse.ensures.value.0))

pub returns-in-Err : goal.returns-in-Err
returns-in-Err c = λ n is. c.in-Err.ensures.cases.0 (number_utf8 c.args.bytes.now n is)
