-- Items of a list that are drawn one after the other.
use Rattle.std.proofs.Common.{◌≡◌, ℕ, suc, ◌+◌, ◌<◌, ◌≤◌, List, ◌∷◌, ◌++◌, ap, sym, ◌∙◌, length, drop, get_or}
use Rattle.std.proofs.Common.{add-one, flat_map}
use Rattle.std.proofs.Math.ListN.{drop_of_length-le}
use Rattle.std.proofs.Math.Seq.{drop-cons}
use Rattle.page_core.specs.Events.{Event}
use Rattle.page_core.specs.Pages.{PageValue, after}
use Rattle.proof_words.specs.ListEvents.{separated_from, separation}
use Rattle.proof_words.proofs.Joined.{left, joined, finished}

-- an item and those after it are the items from its place on
pub split_at :
    {X : Type 0} (xs : List X) (i : ℕ) (x : X) → i < length xs → x ≡ get_or xs i x →
    drop i xs ≡ x ∷ drop (i + 1) xs
split_at xs i x lt is =
    drop-cons xs i x lt
    ∙ ap (λ y. y ∷ drop (suc i) xs) (sym is)
    ∙ ap (λ n. x ∷ drop n xs) (sym (add-one i))

-- once the item at a place is drawn, those after it are left
pub separated_left :
    {X : Type 0} (separator : List ℕ) (item : ℕ → X → List Event) (xs : List X) (i : ℕ) (x : X) →
    i < length xs → x ≡ get_or xs i x → (p q r : PageValue) →
    q ≡ after p (separation separator i) → r ≡ after q (item i x) →
    after r (separated_from separator item (i + 1) (drop (i + 1) xs))
    ≡ after p (separated_from separator item i (drop i xs))
separated_left separator item xs i x lt is p q r h k =
    left p r (separation separator i ++ item i x)
    (separated_from separator item (i + 1) (drop (i + 1) xs)) (joined p q r _ _ h k)
    ∙ ap (λ ys. after p (separated_from separator item i ys)) (sym (split_at xs i x lt is))

-- after the last item none is left
pub separated_drawn :
    {X : Type 0} (separator : List ℕ) (item : ℕ → X → List Event) (xs : List X) (i : ℕ) →
    length xs ≤ i → (p first : PageValue) (all : List Event) →
    after p (separated_from separator item i (drop i xs)) ≡ after first all → p ≡ after first all
separated_drawn separator item xs i end p first all h =
    finished p first all (separated_from separator item i (drop i xs))
    (ap (λ ys. separated_from separator item i ys) (drop_of_length-le xs end)) h

-- the same of items with nothing between them
pub each_left :
    {X : Type 0} (item : X → List Event) (xs : List X) (i : ℕ) (x : X) →
    i < length xs → x ≡ get_or xs i x → (p q : PageValue) → q ≡ after p (item x) →
    after q (flat_map item (drop (i + 1) xs)) ≡ after p (flat_map item (drop i xs))
each_left item xs i x lt is p q h =
    left p q (item x) (flat_map item (drop (i + 1) xs)) h
    ∙ ap (λ ys. after p (flat_map item ys)) (sym (split_at xs i x lt is))

pub each_drawn :
    {X : Type 0} (item : X → List Event) (xs : List X) (i : ℕ) → length xs ≤ i →
    (p first : PageValue) (all : List Event) →
    after p (flat_map item (drop i xs)) ≡ after first all → p ≡ after first all
each_drawn item xs i end p first all h =
    finished p first all (flat_map item (drop i xs))
    (ap (λ ys. flat_map item ys) (drop_of_length-le xs end)) h
