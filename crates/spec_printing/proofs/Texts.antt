-- Texts of a list's elements in a row, as loops write them.
use Rattle.std.proofs.Common.{◌≡◌, ℕ, ◌≤◌, List, ◌∷◌, ◌++◌, ap, sym, ◌∙◌, length, take, append_assoc}
use Rattle.std.specs.Prelude.{codes, map}
use Rattle.std.specs.List.{flat_map}
use Rattle.std.proofs.lemmas.List.{take_all}
use Rattle.std.proofs.lemmas.List.Folds.{flat_map-map}
use Rattle.spec_printing.specs.Printed.{listed, spaced}

joined : (a b c d e : List ℕ) → (((a ++ b) ++ c) ++ d) ++ e ≡ a ++ (((b ++ c) ++ d) ++ e)
joined a b c d e = simp append_assoc

joined_open : (a b c d : List ℕ) → ((a ++ b) ++ c) ++ d ≡ a ++ ((b ++ c) ++ d)
joined_open a b c d = simp append_assoc

module _ {X : Type 0} (v : X → List ℕ) (all : List X) (x : X) (xs : List X) (n : ℕ) where
  others : (between : List ℕ) → length xs ≤ n →
      flat_map (λ y. between ++ v y) (take n xs) ≡ flat_map (λ u. between ++ u) (map v xs)
  others between enough = ap (λ ys. flat_map (λ y. between ++ v y) ys) (take_all n xs enough)
      ∙ sym (flat_map-map (λ u. between ++ u) v xs)

  -- what a loop writes of a list in parentheses
  pub listed_text : (old first text next : List ℕ) → all ≡ x ∷ xs → length xs ≤ n → first ≡ (old ++ codes "(")
      ++ v x → text ≡ first ++ flat_map (λ y. codes ", " ++ v y) (take n xs) → next ≡ text ++ codes ")" →
      next ≡ old ++ listed (map v all)
  listed_text old first text next is enough a b c =
      let written : List ℕ = flat_map (λ y. codes ", " ++ v y) (take n xs) in
      c ∙ ap (λ t. t ++ codes ")") b ∙ ap (λ t. (t ++ written) ++ codes ")") a
      ∙ joined old (codes "(") (v x) written (codes ")")
      ∙ ap (λ o. old ++ (codes "(" ++ v x ++ o ++ codes ")")) (others (codes ", ") enough)
      ∙ ap (λ ys. old ++ listed (map v ys)) (sym is)

  -- what a loop writes of a list after a blank
  pub spaced_text : (between old first text : List ℕ) → all ≡ x ∷ xs → length xs ≤ n →
      first ≡ (old ++ codes " ") ++ v x → text ≡ first ++ flat_map (λ y. between ++ v y) (take n xs) →
      text ≡ old ++ spaced between (map v all)
  spaced_text between old first text is enough a b =
      let written : List ℕ = flat_map (λ y. between ++ v y) (take n xs) in
      b ∙ ap (λ t. t ++ written) a ∙ joined_open old (codes " ") (v x) written
      ∙ ap (λ o. old ++ (codes " " ++ v x ++ o)) (others between enough)
      ∙ ap (λ ys. old ++ spaced between (map v ys)) (sym is)
