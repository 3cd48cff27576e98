-- What a text derives, and where its fault is.
use Rattle.std.specs.Prelude.{◌≡◌, ℕ, List, [], ◌∷◌, ◌++◌, Option, Some, None, length}
use Rattle.spec_text.specs.declared.tokens.Token.{Token}
use Rattle.spec_text.specs.Tokens.{AreTokens}
use Rattle.spec_grammar.specs.declared.limits.LimitKind.{LimitKind}
use Rattle.spec_grammar.specs.Items.{Item, items_of}
use Rattle.spec_grammar.specs.Grammar.{Marked}

-- the tokens, none of which passes a limit
abbrev pub clean : List Item → List Marked
clean [] = []
clean (x ∷ xs) = (x, None) ∷ clean xs

-- the tokens, their limits left aside
abbrev pub bare : List Marked → List Item
bare [] = []
bare (m ∷ ms) = m.0 ∷ bare ms

-- the place of the first token, or the end of the text if there is none
abbrev pub place_of : List Token → ℕ → ℕ
place_of [] end = end
place_of (token ∷ tokens) end = token.at

-- For the texts of any kind of thing, as IsSpecText tells those of raw specifications.
module _ {R : Type 0} (IsText : R → List Marked → Type 0) where
  -- the tokens are a text of it within the limits
  abbrev pub Derives : List Item → R → Type 0
  Derives items r = IsText r (clean items)

  -- some text begins like this, with these limits passed
  abbrev pub Begins : List Marked → Type 0
  Begins ms = (r : R) × (rest : List Marked) × IsText r (ms ++ rest)

  -- some text begins with these tokens, its limits left aside
  abbrev pub Continues : List Item → Type 0
  Continues items = (r : R) × (text : List Marked) × (rest : List Item)
      × IsText r text × (bare text ≡ items ++ rest)

  -- The first fault lies after the tokens `done`, at the first token of `left`, or at the end if
  -- none is left. What is done begins a text within the limits.
  abbrev pub IsFault : List Item → List Item → Option LimitKind → Type 0
  -- the tokens end, and are no text
  IsFault done [] None = Begins (clean done)
      × ((r : R) (text : List Marked) → IsText r text → bare text ≡ done → ⊥)
  -- no text goes on with this token
  IsFault done (x ∷ left) None = Begins (clean done) × (Continues (done ++ x ∷ []) → ⊥)
  -- a text goes on with this token, which passes a limit
  IsFault done (x ∷ left) (Some why) = Begins (clean done ++ (x, Some why) ∷ [])
  IsFault done [] (Some why) = ⊥

  -- the bytes have tokens, and these derive it
  abbrev pub TextDerives : List ℕ → R → Type 0
  TextDerives bytes r =
      (tokens : List Token) × AreTokens bytes tokens × Derives (items_of bytes tokens) r

  -- the bytes have tokens, and the first fault of these is at this place
  abbrev pub TextHasFault : List ℕ → ℕ → Option LimitKind → Type 0
  TextHasFault bytes at why =
      (done : List Token) × (left : List Token) × AreTokens bytes (done ++ left)
      × (at ≡ place_of left (length bytes))
      × IsFault (items_of bytes done) (items_of bytes left) why
