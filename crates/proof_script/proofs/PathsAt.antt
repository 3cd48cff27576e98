-- The path at the front of some bytes.
use Rattle.std.proofs.Common.{◌≡◌, ◌≢◌, ℕ, ◌+◌, List, [], ◌∷◌, ◌++◌, refl, ap, sym, ◌∙◌, codes, flat_map}
use Rattle.std.proofs.Common.{append_assoc, append-nil, arith}
use Rattle.std.specs.List.{AllByRecursion}
use Rattle.std.specs.Fmt.{decimal}
use Rattle.std.proofs.lemmas.Fmt.{decimal_digit}
use Rattle.proof_script.specs.Standing.{Between}
use Rattle.proof_script.specs.PathText.{IsArgumentAt, IsPath}
use Rattle.proof_script.proofs.Lists.{same_tail, cons_nil}

abbrev pub path_text : List ℕ → List ℕ
path_text path = flat_map (λ i. codes "." ++ decimal i) path

pub path_more : (path others : List ℕ) → path_text (path ++ others) ≡ path_text path ++ path_text others
path_more [] others = refl
path_more (i ∷ path) others = ap (λ z. (codes "." ++ decimal i) ++ z) (path_more path others)
    ∙ sym (append_assoc (codes "." ++ decimal i) (path_text path) (path_text others))

digit_is : (j : ℕ) → Between 1 9 j → decimal j ≡ (48 + j) ∷ []
digit_is j h = decimal_digit j (omega (arith, h.1))

argument_at : (rest : List ℕ) (j : ℕ) (path : List ℕ) → Between 1 9 j → rest ≡ path_text (j ∷ path) →
    IsArgumentAt rest j (path_text path)
argument_at rest j path h e = record {
  between = h;
  is = e ∙ ap (λ z. codes "." ++ (z ++ path_text path))
      (digit_is j h);
}

-- each path that the bytes are goes on with these bytes
abbrev pub GoesOn : List ℕ → List ℕ → Type 0
GoesOn bytes rest = (path : List ℕ) → IsPath bytes path → (others : List ℕ) × IsPath rest others

pub goes_on : (bytes rest : List ℕ) (number : ℕ) (behind : List ℕ) → GoesOn bytes rest →
    IsArgumentAt rest number behind → GoesOn bytes behind
goes_on bytes rest number behind all h path is = by (all path is).0 (all path is).1
  where
    by : (others : List ℕ) → IsPath rest others → (more : List ℕ) × IsPath behind more
    by [] k = absurd (cons_nil (sym h.is ∙ k.is))
    by (j ∷ others) k = (
      others,
      record {
        between = k.between.1;
        is = same_tail
            (same_tail (sym h.is ∙ (argument_at rest j others k.between.0 k.is).is));
      },
    )

pub path_grows : (bytes path rest : List ℕ) (number : ℕ) (behind : List ℕ) → bytes ≡ path_text path ++ rest →
    IsArgumentAt rest number behind → bytes ≡ path_text (path ++ (number ∷ [])) ++ behind
path_grows bytes path rest number behind e h =
    e ∙ ap (λ z. path_text path ++ z) (h.is ∙ sym (ap (λ z. codes "." ++ (z ++ behind)) (digit_is number h.between)))
    ∙ sym (append_assoc (path_text path) (codes "." ++ decimal number) behind)
    ∙ ap (λ z. (path_text path ++ z) ++ behind) (sym (append-nil (codes "." ++ decimal number)))
    ∙ ap (λ z. z ++ behind) (sym (path_more path (number ∷ [])))

pub no_path : (bytes rest : List ℕ) → GoesOn bytes rest → (rest ≢ []) →
    ((number : ℕ) (behind : List ℕ) → IsArgumentAt rest number behind → ⊥) → (path : List ℕ) → IsPath bytes path → ⊥
no_path bytes rest all some never path is = by (all path is).0 (all path is).1
  where
    by : (others : List ℕ) → IsPath rest others → ⊥
    by [] k = some k.is
    by (j ∷ others) k = never j (path_text others) (argument_at rest j others k.between.0 k.is)

pub path_found : (bytes path rest : List ℕ) → bytes ≡ path_text path ++ rest →
    AllByRecursion (Between 1 9) path → rest ≡ [] → IsPath bytes path
path_found bytes path rest e h n = record {
  between = h;
  is = e ∙ ap (λ z. path_text path ++ z) n
      ∙ append-nil (path_text path);
}
