-- A number after a sign is read in one way.
use Rattle.std.proofs.Common.{◌≡◌, ℕ, List, [], ◌∷◌, ◌++◌, Option, Some, None, ap, sym, ◌∙◌}
use Rattle.std.specs.Prelude.{MatchOption}
use Rattle.std.specs.Fmt.{decimal}
use Rattle.std.proofs.lemmas.List.{append_cancel_left}
use denote.Ref.{Bor}
use Rattle.spec_core.specs.Sig.{Sig}
use Rattle.proof_script.specs.Delimiters.{Run}
use Rattle.proof_script.specs.LineWords.{IsWordAt}
use Rattle.proof_script.specs.Words.{number}
use Rattle.proof_script.proofs.Lists.{same_tail, run_one}
use Rattle.proof_script.proofs.Runs.{decimal_run, decimal_same, ends_stop}
use Rattle.report_reader.specs.Numbers.{IsNumberBehind}

pub one_number : (sign bytes : List ℕ) (n : ℕ) (rest : List ℕ) (m : ℕ) (last : List ℕ) →
    IsNumberBehind sign bytes n rest → IsNumberBehind sign bytes m last → (n ≡ m) × (rest ≡ last)
one_number sign bytes n rest m last h k =
    let same = same_tail (append_cancel_left sign (32 ∷ (decimal n ++ rest)) (32 ∷ (decimal m ++ last))
    (sym h.is ∙ k.is)) in
    let one = run_one Run (decimal n) (decimal m) rest last (decimal_run n h.short) (decimal_run m k.short)
    (ends_stop rest h.ends) (ends_stop last k.ends) same in
    (decimal_same n m h.short k.short one.text, one.rest)

abbrev no_sig : Sig
no_sig = record { sorts = []; table = []; constructors = 0 }

-- what the next word says of the number after the sign
pub number_found : (sign bytes behind : List ℕ) → bytes ≡ sign ++ behind → (r : Option (ℕ × Bor (List ℕ)))
    → MatchOption r ((sig : Sig) (n : ℕ) (rest : List ℕ) → IsWordAt sig behind (number n) rest →
    ⊥) (λ p. (sig : Sig) → IsWordAt sig behind (number p.0) p.1.now)
    → MatchOption r ((n : ℕ) (rest : List ℕ) → IsNumberBehind sign bytes n rest →
    ⊥) (λ p. IsNumberBehind sign bytes p.0 p.1.now)
number_found sign bytes behind e None h = λ n rest k. h no_sig n rest
    (record {
      stands = k.short;
      is = append_cancel_left sign behind (32 ∷ (decimal n ++ rest)) (sym e ∙ k.is);
      ends = k.ends;
    })
number_found sign bytes behind e (Some p) h = let w = h no_sig in
    record { short = w.stands; is = e ∙ ap (λ z. sign ++ z) w.is; ends = w.ends }
