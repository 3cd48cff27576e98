-- The bytes that end a word or a term, and names, numbers and marks of variables, which have none of them.
use Rattle.std.proofs.Common.{◌≡◌, ◌≢◌, ◌⊎◌, inl, inr, ℕ, ◌<◌, ◌^◌, List, [], ◌∷◌, ◌++◌, true, false, refl, sym, ◌∙◌}
use Rattle.std.proofs.Common.{subst, codes, arith}
use Rattle.std.specs.Fmt.{decimal}
use Rattle.std.specs.Str.Parse.{AllDigits, IsNumeral}
use Rattle.std.specs.Char.{digit_value}
use Rattle.std.proofs.lemmas.Fmt.{decimal_is_IsNumeral, decimal_injective}
use Rattle.std.proofs.lemmas.Str.Parse.{digit_from_value}
use Rattle.proof_script.specs.Delimiters.{Stops, is_end, is_delimiter, Run, AllRun, Ends}
use Rattle.proof_script.specs.Standing.{IsShort}

pub true_false : true ≡ false → ⊥
true_false e = cc

end_delimits : (c : ℕ) → is_end c ≡ true → is_delimiter c ≡ true
end_delimits c e = rw e refl

pub ends_stop : (r : List ℕ) → Ends r → Stops Run r
ends_stop [] e = tt
ends_stop (c ∷ r) e = λ h. true_false (sym (end_delimits c e) ∙ h)

digit_run : (c : ℕ) → digit_value c < 10 → Run c
digit_run c h = let range = digit_from_value c h in grind arith

digits_run : (ds : List ℕ) → AllDigits 10 ds → AllRun ds
digits_run [] h = tt
digits_run (c ∷ ds) h = (digit_run c h.0, digits_run ds h.1)

wide : (n : ℕ) → IsShort n → n < 2 ^ 64
wide n h = omega arith

numeral_digits : (ds : List ℕ) → IsNumeral 10 ds → AllDigits 10 ds
numeral_digits [] h = tt
numeral_digits (c ∷ ds) h = h.1

pub decimal_digits : (n : ℕ) → IsShort n → AllDigits 10 (decimal n)
decimal_digits n h = (decimal_is_IsNumeral n (wide n h)).0.1

pub decimal_run : (n : ℕ) → IsShort n → AllRun (decimal n)
decimal_run n h = digits_run (decimal n) (decimal_digits n h)

pub decimal_same : (m n : ℕ) → IsShort m → IsShort n → decimal m ≡ decimal n → m ≡ n
decimal_same m n h k e = decimal_injective m n (wide m h) (wide n k) e

-- a name as it has to be for terms to be read in one way
pub record Plain (name : List ℕ) : Type 0 where
  pub first : ℕ
  pub others : List ℕ
  pub is : name ≡ first ∷ others
  pub run : AllRun name
  pub no_mark : first ≢ 63
  pub no_blank : name ≢ codes "_"

-- how a variable is written
abbrev pub IsMark : List ℕ → Type 0
IsMark x = (x ≡ codes "_") ⊎ ((n : ℕ) × IsShort n × (x ≡ codes "?" ++ decimal n))

pub mark_run : (x : List ℕ) → IsMark x → AllRun x
mark_run x (inl e) = subst AllRun (sym e) (refl, tt)
mark_run x (inr (n, h, e)) = subst AllRun (sym e) (refl, decimal_run n h)

pub mark_some : (x : List ℕ) → IsMark x → (x ≢ [])
mark_some x (inl e) = λ z. let q : codes "_" ≡ [] = sym e ∙ z in cc
mark_some x (inr (n, h, e)) = λ z. let q : 63 ∷ decimal n ≡ [] = sym e ∙ z in cc

first_same : {c d : ℕ} {cs ds : List ℕ} → c ∷ cs ≡ d ∷ ds → c ≡ d
first_same e = cc

-- no name is a variable's mark
pub mark_name : (x name : List ℕ) → IsMark x → Plain name → x ≡ name → ⊥
mark_name x name (inl e) p q = p.no_blank (sym q ∙ e)
mark_name x name (inr (n, h, e)) p q = p.no_mark (first_same (sym p.is ∙ sym q ∙ e))
