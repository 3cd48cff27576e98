-- The place that a word is.
use Rattle.std.proofs.Common.{◌≡◌, ◌≢◌, ℕ, List, [], ◌∷◌, ◌++◌, Bool, true, false, refl, ap, sym, ◌∙◌}
use Rattle.std.proofs.Common.{codes, arith}
use Rattle.std.specs.List.{AllByRecursion}
use Rattle.std.specs.Fmt.{decimal}
use Rattle.std.specs.Str.Parse.{AllDigits}
use Rattle.std.proofs.lemmas.Str.Parse.{digit_from_value}
use Rattle.clause_core.specs.declared.steps.Place.{Place}
use Rattle.proof_script.specs.Words.{equation_text, side_text}
use Rattle.proof_script.specs.Standing.{Between}
use Rattle.proof_script.specs.Reading.{IsEquation}
use Rattle.proof_script.specs.PathText.{IsPath, IsPlace, StandsBeforeDot}
use Rattle.proof_script.proofs.Lists.{Same, run_one, same_tail}
use Rattle.proof_script.proofs.Runs.{decimal_digits}
use Rattle.proof_script.proofs.PlaceReads.{side_reads}
use Rattle.proof_script.proofs.PathsAt.{path_text}

abbrev NoDot : ℕ → Type 0
NoDot b = b ≢ 46

no_dots : (ds : List ℕ) → AllDigits 10 ds → AllByRecursion NoDot ds
no_dots [] h = tt
no_dots (c ∷ ds) h = (λ e. let range = digit_from_value c h.0 in omega (arith, range, e), no_dots ds h.1)

number_plain : (n : ℕ) → Between 1 9999 n → AllByRecursion NoDot (decimal n)
number_plain n h = no_dots (decimal n) (decimal_digits n (omega (arith, h.1)))

equation_plain : (b : Bool) (n : ℕ) → Between 1 9999 n → AllByRecursion NoDot (equation_text b n)
equation_plain true n h = (λ e. omega (arith, e), number_plain n h)
equation_plain false n h = (λ e. omega (arith, e), number_plain n h)

pub head_same : (word head behind : List ℕ) (p : Place) → StandsBeforeDot word head behind → IsPlace word p →
    Same head (equation_text p.conclusion p.number) behind (46 ∷ (side_text p.left ++ path_text p.path))
head_same word head behind p h k = run_one NoDot head (equation_text p.conclusion p.number) behind
    (46 ∷ (side_text p.left ++ path_text p.path)) h.run (equation_plain p.conclusion p.number k.stands.number)
    h.stops (λ n. n refl) (sym h.is ∙ k.is)

pub no_equation : (word head behind : List ℕ) → StandsBeforeDot word head behind →
    ((b : Bool) (n : ℕ) → IsEquation head b n → ⊥) → (p : Place) → IsPlace word p → ⊥
no_equation word head behind h never p k = never p.conclusion p.number
    (record { between = k.stands.number; is = (head_same word head behind p h k).text })

pub no_side : (word head behind : List ℕ) → StandsBeforeDot word head behind →
    ((left : Bool) (rest : List ℕ) → behind ≡ codes "." ++ (side_text left ++ rest) → ⊥) → (p : Place) →
    IsPlace word p → ⊥
no_side word head behind h never p k = never p.left (path_text p.path) (head_same word head behind p h k).rest

pub no_way : (word head behind : List ℕ) (left : Bool) (text : List ℕ) → StandsBeforeDot word head behind →
    behind ≡ codes "." ++ (side_text left ++ text) → ((path : List ℕ) → IsPath text path → ⊥) → (p : Place) →
    IsPlace word p → ⊥
no_way word head behind left text h e never p k =
    let one = side_reads left p.left text (path_text p.path)
    (same_tail (sym e ∙ (head_same word head behind p h k).rest)) in
    never p.path (record { between = k.stands.path; is = one.rest })

pub place_found : (word head behind : List ℕ) (b : Bool) (n : ℕ) (left : Bool) (text path : List ℕ) →
    StandsBeforeDot word head behind → IsEquation head b n → behind ≡ codes "." ++ (side_text left ++ text) →
    IsPath text path → IsPlace word (record { conclusion = b; number = n; left = left; path = path })
place_found word head behind b n left text path h q e w = record {
  stands = record { number = q.between; path = w.between };
  is = h.is ∙ ap (λ z. z ++ behind) q.is
      ∙ ap (λ z. equation_text b n ++ z) (e ∙ ap (λ z. codes "." ++ (side_text left ++ z)) w.is);
}
