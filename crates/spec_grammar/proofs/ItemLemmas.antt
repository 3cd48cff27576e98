-- The grammar's tokens of lists of tokens.
use Rattle.std.proofs.Common.{◌≡◌, ℕ, List, [], ◌∷◌, ◌++◌, length, refl, ap}
use Rattle.spec_text.specs.declared.tokens.Token.{Token}
use Rattle.spec_grammar.specs.Items.{Item, item_of, items_of}

pub length-items_of : (bytes : List ℕ) (tokens : List Token) → length (items_of bytes tokens) ≡ length tokens
length-items_of bytes [] = refl
length-items_of bytes (token ∷ tokens) = cc (length-items_of bytes tokens)

pub items_of-append : (bytes : List ℕ) (xs ys : List Token) → items_of bytes (xs ++ ys) ≡ items_of bytes xs
    ++ items_of bytes ys
items_of-append bytes [] ys = refl
items_of-append bytes (x ∷ xs) ys = ap (λ (items : List Item). item_of bytes x ∷ items) (items_of-append bytes xs ys)
