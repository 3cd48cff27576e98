-- A text is escaped up to its first special character, and then from there.
use Rattle.std.proofs.Common.{◌≡◌, ℕ, suc, List, [], ◌∷◌, ◌++◌, ◌+◌, Bool, true, false, cond, Some, None}
use Rattle.std.proofs.Common.{take, drop, get_or, refl, ap, ◌∙◌, arith}
use Rattle.std.specs.Prelude.{not, position}
use Rattle.std.specs.List.{position_or_len}
use Rattle.std.proofs.Math.Numerals.{one-add}
use Rattle.std.proofs.Math.Seq.{drop-cons}
use Rattle.std.proofs.lemmas.Grind.{common_steps}
use Rattle.std.proofs.lemmas.List.Quantifiers.{position-Some}
use Rattle.page_core.specs.Html.{is_special, entity, escaped}

SplitsAt : List ℕ → ℕ → Type 0
SplitsAt text n = escaped text ≡ take n text ++ escaped (drop n text)

further : (b : Bool) (c : ℕ) (text : List ℕ) (n : ℕ) → is_special c ≡ b → SplitsAt text n
    → SplitsAt (c ∷ text) (cond (not b) (1 + n) 0)
unfolding SplitsAt
further true c text n special splits = refl
further false c text n special splits = rw one-add (rw special (ap (λ rest. c ∷ rest) splits))

-- up to the first special character a text is written as it is
splits_at_first : (text : List ℕ) → SplitsAt text (position_or_len is_special text)
unfolding SplitsAt
splits_at_first [] = refl
splits_at_first (c ∷ text) =
    further (is_special c) c text (position_or_len is_special text) refl (splits_at_first text)

-- what is escaped where no character is special, and otherwise
pub escaped_whole : (text : List ℕ) → position is_special text ≡ None → escaped text ≡ text
unfolding SplitsAt
escaped_whole text none = grind (arith, common_steps, splits_at_first text)

pub escaped_at : (text : List ℕ) (i : ℕ) → position is_special text ≡ Some i
    → escaped text ≡ take i text ++ (entity (get_or text i 0) ++ escaped (drop (i + 1) text))
unfolding SplitsAt
escaped_at text i at =
    let first = position-Some is_special text i 0 at in
    let c = get_or text i 0 in
    let rest = drop (suc i) text in
    let special : escaped (c ∷ rest) ≡ entity c ++ escaped rest = rw first.1 refl in
    let there : escaped (drop i text) ≡ entity c ++ escaped rest = ap escaped (drop-cons text i 0 first.0) ∙ special in
    grind (arith, common_steps, splits_at_first text, there)
