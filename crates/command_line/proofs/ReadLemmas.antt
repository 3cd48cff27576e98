-- What the reads of one text of the matches give.
use Rattle.std.proofs.Common.{◌∙◌, ◌≡◌, ◌<◌, ◌≤◌, ◌^◌, ℕ, Bool, true, false, List, Option, Some, None, ap, sym}
use Rattle.std.proofs.Common.{is_some, arith, subst}
use Rattle.std.specs.Prelude.{◌↔◌, IsTrue, option_map, unwrap_or, Ok, Err, Result}
use Rattle.std.specs.Borrow.{Bor}
use Rattle.std.specs.Str.{bytes_eq}
use Rattle.std.proofs.lemmas.Slice.Eq.{bytes_eq-Decides}
use Rattle.std.specs.Str.Parse.{ParsesUnsigned, digits_value, without_leading_plus}
use Rattle.clap.specs.Walk.{Row}
use Rattle.clap.specs.Matches.{ReadsOne}
use Rattle.command_line.specs.declared.ranges.NumberRange.{NumberRange}
use Rattle.command_line.specs.Matches.{HasNumber}
use Rattle.command_line.specs.Readings.{HasSomeNumber}

-- a text that is there is the one that is read
pub text_is : (o : Option (Bor (List ℕ))) (usual r : Bor (List ℕ)) (first : Option (List ℕ)) →
    option_map (λ s. s.now) o ≡ first → is_some first ≡ true → r ≡ unwrap_or o usual → first ≡ Some r.now
text_is None usual r first is there read =
    let bad : false ≡ true = ap is_some is ∙ there in
    cc
text_is (Some s) usual r first is there read = sym is ∙ ap (λ (b : Bor (List ℕ)). Some b.now) (sym read)

-- a text that writes a number of 32 bits is read as that number
pub number_is : {E : Type 0} (G : List ℕ → Result ℕ E → Type 0) (rows : List Row) (name : List ℕ)
    (range : NumberRange) (o : Option ℕ) (r : ℕ) (there : HasSomeNumber rows name range) → range.most < 2 ^ 32
    → ReadsOne G there.text o → ((x : Result ℕ E) → G there.text x → ParsesUnsigned 32 10 there.text x) →
    r ≡ unwrap_or o 0 → HasNumber rows name range r
number_is G rows name range (Some v) r there small read parses is =
    let parsed = parses (Ok v) read in
    let same : digits_value 10 (without_leading_plus there.text) ≡ r = sym parsed.1 ∙ sym is in
    record {
      text = there.text;
      found = there.found;
      writes = record { digits = there.digits; value = same };
      least = subst (λ (n : ℕ). range.least ≤ n) same there.least;
      most = subst (λ (n : ℕ). n ≤ range.most) same there.most;
    }
number_is G rows name range None r there small read parses is =
    let most = there.most in
    absurd (parses (Err read.0) read.1 (there.digits, omega (arith, most, small)))

-- a text that is there is the wanted one if it compares so, and none is never
pub text_compared : (o : Option (List ℕ)) (v want : List ℕ) (b : Bool) → Some v ≡ o → b ≡ bytes_eq v want →
    IsTrue b ↔ (o ≡ Some want)
text_compared o v want b there same = (
  (λ t. sym there ∙ ap (λ (x : List ℕ). Some x) ((bytes_eq-Decides v want).0 (sym same ∙ t))),
  (λ e. same ∙ (bytes_eq-Decides v want).1 (ap (λ (x : Option (List ℕ)). unwrap_or x v) (there ∙ e))),
)

pub none_compared : (o : Option (List ℕ)) (want : List ℕ) → None ≡ o → IsTrue false ↔ (o ≡ Some want)
none_compared None want there = ((λ t. cc), (λ e. cc))
none_compared (Some v) want there = cc
