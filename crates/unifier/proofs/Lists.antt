-- Lists that loops write.
use Rattle.std.proofs.Common.{◌≡◌, ℕ, zero, suc, ◌+◌, ◌<◌, ◌≤◌, List, [], ◌∷◌, ◌++◌, refl, ap, sym, ◌∙◌, arith}
use Rattle.std.proofs.Common.{append_assoc, length, take, drop, get_or, set}
use Rattle.std.specs.List.{zip}
use Rattle.std.specs.Prelude.{if◌then◌else◌, ◌==◌}
use Rattle.std.proofs.lemmas.List.{take_more, get_or_default}
use Rattle.std.proofs.lemmas.List.Edits.{map_over_more}
use Rattle.std.proofs.lemmas.Slice.Zip.{get_or-zip, length-zip}
use Rattle.std.proofs.lemmas.Bool.Decides.{nat_tests}
use Rattle.std.proofs.lemmas.Grind.{common_steps}
use Rattle.unifier.specs.Roots.{relabelled}

take-zip_more : (xs ys : List ℕ) (i : ℕ) → i < length xs → i < length ys →
    take (i + 1) (zip xs ys) ≡ take i (zip xs ys) ++ (get_or xs i 0, get_or ys i 0) ∷ []
take-zip_more xs ys i a b =
    take_more (zip xs ys) i (0, 0) (omega (arith, length-zip xs ys))
    ∙ ap (λ p. take i (zip xs ys) ++ p ∷ []) (get_or-zip xs ys i (0, 0) a b)

take-zip_whole : (xs ys : List ℕ) (i : ℕ) → length xs ≡ length ys → length xs ≤ i → take i (zip xs ys) ≡ zip xs ys
take-zip_whole [] ys zero e h = refl
take-zip_whole [] ys (suc i) e h = refl
take-zip_whole (x ∷ xs) [] i e h = absurd (omega arith)
take-zip_whole (x ∷ xs) (y ∷ ys) zero e h = absurd (omega arith)
take-zip_whole (x ∷ xs) (y ∷ ys) (suc i) e h = ap (λ ps. (x, y) ∷ ps)
    (take-zip_whole xs ys i (omega arith) (omega arith))

pub zip_pushed : (old now after : List (ℕ × ℕ)) (xs ys : List ℕ) (i : ℕ) → i < length xs →
    length xs ≡ length ys → now ≡ old ++ take i (zip xs ys) →
    after ≡ now ++ (get_or xs i 0, get_or ys i 0) ∷ [] → after ≡ old ++ take (i + 1) (zip xs ys)
zip_pushed old now after xs ys i h e at is =
    is ∙ ap (λ ps. ps ++ (get_or xs i 0, get_or ys i 0) ∷ []) at ∙ append_assoc old (take i (zip xs ys))
    ((get_or xs i 0, get_or ys i 0) ∷ []) ∙ ap (λ ps. old ++ ps) (sym (take-zip_more xs ys i h (omega arith)))

pub zip_whole : (old now : List (ℕ × ℕ)) (xs ys : List ℕ) (i : ℕ) → length xs ≡ length ys → length xs ≤ i →
    now ≡ old ++ take i (zip xs ys) → now ≡ old ++ zip xs ys
zip_whole old now xs ys i e h at = at ∙ ap (λ ps. old ++ ps) (take-zip_whole xs ys i e h)

-- one more root is another if it is the one that goes
module _ (from to : ℕ) (old now : List ℕ) (i : ℕ) (h : i < length old) (k : length now ≡ length old)
    (at : now ≡ relabelled from to (take i old) ++ drop i old) where
  read : get_or now i 0 ≡ get_or now i (get_or now i 0)
  read = get_or_default now i 0 (get_or now i 0) (omega arith)

  pub relabelled_here : (after : List ℕ) → get_or now i 0 ≡ from → after ≡ set now i to →
      after ≡ relabelled from to (take (i + 1) old) ++ drop (i + 1) old
  relabelled_here after e is =
      let f : (if get_or now i 0 == from then to else get_or now i 0) ≡ to = grind (arith, nat_tests) in
      is ∙ ap (λ r. set now i r) (sym f) ∙ map_over_more (λ r. if r == from then to else r) old now i
      (get_or now i 0) h at read

  pub relabelled_other : (after : List ℕ) → (get_or now i 0 ≡ from → ⊥) → after ≡ set now i (get_or now i 0) →
      after ≡ relabelled from to (take (i + 1) old) ++ drop (i + 1) old
  relabelled_other after n is =
      let f : (if get_or now i 0 == from then to else get_or now i 0) ≡ get_or now i 0 = grind (arith, nat_tests) in
      is ∙ ap (λ r. set now i r) (sym f) ∙ map_over_more (λ r. if r == from then to else r) old now i
      (get_or now i 0) h at read

-- what a call writes into a borrowed list is the list
pub written_back : {A : Type 0} (old made : List A) (n : ℕ) → n ≡ length old → length made ≡ length old →
    take n (made ++ drop (length made) old) ≡ made
written_back {A} old made n e h = grind (arith, common_steps)
