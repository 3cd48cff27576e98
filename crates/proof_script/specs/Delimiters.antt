-- The bytes that end a word or a term.
use Rattle.std.specs.Prelude.{◌≡◌, ◌==◌, ◌||◌, ℕ, List, [], ◌∷◌, Bool, true, false}
use Rattle.std.specs.List.{AllByRecursion}

-- a newline, a blank, `)`, `,` or `]`
abbrev pub is_end : ℕ → Bool
is_end c = (c == 10) || ((c == 32) || ((c == 41) || ((c == 44) || (c == 93))))

-- one of these, `(` or `[`
abbrev pub is_delimiter : ℕ → Bool
is_delimiter c = is_end c || ((c == 40) || (c == 91))

abbrev pub Run : ℕ → Type 0
Run c = is_delimiter c ≡ false

abbrev pub AllRun : List ℕ → Type 0
AllRun bs = AllByRecursion Run bs

-- no byte follows, or one that ends a term
abbrev pub Ends : List ℕ → Type 0
Ends [] = Unit {0}
Ends (c ∷ cs) = is_end c ≡ true

-- the class holds not of the next item, if there is one
abbrev pub Stops : (ℕ → Type 0) → List ℕ → Type 0
Stops P [] = Unit {0}
Stops P (c ∷ cs) = P c → ⊥
