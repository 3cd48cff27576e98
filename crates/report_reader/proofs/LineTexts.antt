-- The text of lines, and of one line more.
use Rattle.std.proofs.Common.{◌≡◌, ℕ, List, [], ◌∷◌, ◌++◌, ap, sym, ◌∙◌, codes, map, append_assoc, append-nil}
use Rattle.std.proofs.lemmas.Grind.{flat_map-append}
use Rattle.std.proofs.lemmas.List.{append_cancel_right, map-append}
use Rattle.spec_core.specs.Sig.{Sig}
use Rattle.proof_script.specs.Faults.{whole_lines}
use Rattle.proof_script.specs.Words.{Line, line_text, lines_text}
use Rattle.proof_script.proofs.SingleLines.{bare}
use Rattle.proof_script.proofs.WordReads.{words_text}
use Rattle.report_reader.specs.Lines.{IsLine}

pub whole_lines-push : (lines : List (List ℕ)) (line : List ℕ) →
    whole_lines (lines ++ line ∷ []) ≡ whole_lines lines ++ (line ++ codes "\n")
whole_lines-push lines line =
    flat_map-append (λ (l : List ℕ). l ++ codes "\n") lines (line ∷ [])
    ∙ ap (λ z. whole_lines lines ++ z) (append-nil (line ++ codes "\n"))

module _ (sig : Sig) where
  module _ {X : Type 0} (f : X → Line) where
    pub mapped_lines-append : (xs ys : List X) → lines_text sig (map f (xs ++ ys)) ≡ lines_text sig (map f xs)
        ++ lines_text sig (map f ys)
    mapped_lines-append xs ys = ap (λ ls. lines_text sig ls) (map-append f xs ys)
        ∙ flat_map-append (line_text sig) (map f xs) (map f ys)

    pub mapped_lines-push : (xs : List X) (x : X) →
        lines_text sig (map f (xs ++ x ∷ [])) ≡ lines_text sig (map f xs) ++ line_text sig (f x)
    mapped_lines-push xs x = mapped_lines-append xs (x ∷ [])
        ∙ ap (λ z. lines_text sig (map f xs) ++ z) (append-nil (line_text sig (f x)))

  -- a line is its text without the newline
  pub bare_is : (bytes : List ℕ) (line : Line) → IsLine sig bytes line → bytes ≡ bare sig line
  bare_is bytes line e = append_cancel_right bytes (bare sig line) (codes "\n")
      (e ∙ sym (append_assoc line.head (words_text sig line.words) (codes "\n")))

  pub line_is : (bytes : List ℕ) (line : Line) → bytes ≡ bare sig line → IsLine sig bytes line
  line_is bytes line e = ap (λ z. z ++ codes "\n") e ∙ append_assoc line.head (words_text sig line.words) (codes "\n")
