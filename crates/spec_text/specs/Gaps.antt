-- What may come between two tokens, as lists of characters.
use Rattle.std.specs.Prelude.{◌≡◌, ◌≢◌, ◌⊎◌, ℕ, List, [], ◌∷◌, ◌++◌, ◌==◌, ◌||◌, Bool, IsTrue}
use Rattle.std.specs.List.{AllByRecursion}

-- a space, a tab, a carriage return or a newline
abbrev pub is_blank : ℕ → Bool
is_blank c = (c == 32) || (c == 9) || (c == 13) || (c == 10)

-- the characters of a comment after its #
abbrev pub IsComment : List ℕ → Type 0
IsComment cs = AllByRecursion (λ c. c ≢ 10) cs

-- Blanks, and comments up to a newline, in any order.
pub data IsGap : List ℕ → Type 0 where
  nothing : IsGap []
  blank : {cs : List ℕ} (c : ℕ) → IsTrue (is_blank c) → IsGap cs → IsGap (c ∷ cs)
  comment : {cs : List ℕ} (text : List ℕ) → IsComment text → IsGap cs
      → IsGap (35 ∷ (text ++ (10 ∷ cs)))

-- What may come after the last token: a gap, and a comment up to the end of the text.
abbrev pub IsLastGap : List ℕ → Type 0
IsLastGap cs = IsGap cs ⊎ ((gap : List ℕ) × (text : List ℕ)
    × (cs ≡ gap ++ (35 ∷ text)) × IsGap gap × IsComment text)
