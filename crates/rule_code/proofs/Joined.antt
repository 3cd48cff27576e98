-- Lists put together, parted again, and the terms at the places of both.
use Rattle.std.proofs.Common.{◌≡◌, ℕ, List, [], ◌∷◌, ◌++◌, refl, ap, length, take, drop}
use Rattle.term_core.specs.Tree.{Tree, trees_of}
use Rattle.value_bank.specs.Cells.{Cell, AreTerms}

pub joined : (cells : List Cell) (ps qs : List ℕ) (us vs : List Tree) → AreTerms cells ps (trees_of us) →
    AreTerms cells qs (trees_of vs) → AreTerms cells (ps ++ qs) (trees_of (us ++ vs))
joined cells [] qs [] vs h k = k
joined cells [] qs (u ∷ us) vs h k = absurd h
joined cells (p ∷ ps) qs [] vs h k = absurd h
joined cells (p ∷ ps) qs (u ∷ us) vs h k = (h.0, joined cells ps qs us vs h.1 k)

pub take_whole : (xs ys : List ℕ) → take (length xs) (xs ++ ys) ≡ xs
take_whole [] ys = refl
take_whole (x ∷ xs) ys = ap (λ z. x ∷ z) (take_whole xs ys)

pub drop_whole : (xs ys : List ℕ) → drop (length xs) (xs ++ ys) ≡ ys
drop_whole [] ys = refl
drop_whole (x ∷ xs) ys = drop_whole xs ys
