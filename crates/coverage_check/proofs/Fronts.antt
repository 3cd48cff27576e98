-- Lists with the item at a place before the others: what pairs two lists pairs them with both moved.
use Rattle.std.proofs.Common.{◌≡◌, ℕ, zero, suc, ◌+◌, ◌-◌, ◌<◌, List, [], ◌∷◌, ◌++◌, map, length, get_or, take, drop}
use Rattle.std.proofs.Common.{refl, ap, sym, ◌∙◌, arith}
use Rattle.std.specs.Borrow.{Bor}
use Rattle.std.specs.List.{AllZip}
use Rattle.std.proofs.lemmas.List.{take_all, length-drop, map-append}
use Rattle.term_core.specs.Tree.{Tree}
use Rattle.term_core.specs.References.{terms_of}
use Rattle.coverage_check.specs.Columns.{behind_first, fronted}

module _ {X Y : Type 0} (R : X → Y → Type 0) where
  behind : (x : X) (y : Y) (xs : List X) (ys : List Y) → R x y × AllZip R xs ys →
      AllZip R (behind_first x xs) (behind_first y ys)
  behind x y [] [] h = h
  behind x y (a ∷ xs) (b ∷ ys) h = (h.1.0, (h.0, h.1.1))
  behind x y [] (b ∷ ys) h = absurd h.1
  behind x y (a ∷ xs) [] h = absurd h.1

  ahead : (x : X) (y : Y) (xs : List X) (ys : List Y) → AllZip R (behind_first x xs) (behind_first y ys) →
      R x y × AllZip R xs ys
  ahead x y [] [] h = h
  ahead x y (a ∷ xs) (b ∷ ys) h = (h.1.0, (h.0, h.1.1))
  ahead x y [] (b ∷ ys) h = absurd h.1
  ahead x y (a ∷ xs) [] h = absurd h.1

  unpaired : (y : Y) (ys : List Y) → AllZip R [] (behind_first y ys) → ⊥
  unpaired y [] h = h
  unpaired y (b ∷ ys) h = h

  unpaired_too : (x : X) (xs : List X) → AllZip R (behind_first x xs) [] → ⊥
  unpaired_too x [] h = h
  unpaired_too x (a ∷ xs) h = h

  pub front_pairs : (k : ℕ) (xs : List X) (ys : List Y) → AllZip R xs ys → AllZip R (fronted k xs) (fronted k ys)
  front_pairs zero xs ys h = h
  front_pairs (suc k) [] [] h = h
  front_pairs (suc k) (x ∷ xs) (y ∷ ys) h = behind x y (fronted k xs) (fronted k ys) (h.0, front_pairs k xs ys h.1)
  front_pairs (suc k) [] (y ∷ ys) h = absurd h
  front_pairs (suc k) (x ∷ xs) [] h = absurd h

  pub pairs_back : (k : ℕ) (xs : List X) (ys : List Y) → AllZip R (fronted k xs) (fronted k ys) → AllZip R xs ys
  pairs_back zero xs ys h = h
  pairs_back (suc k) [] [] h = h
  pairs_back (suc k) (x ∷ xs) (y ∷ ys) h =
      let r = ahead x y (fronted k xs) (fronted k ys) h in
      (r.0, pairs_back k xs ys r.1)
  pairs_back (suc k) [] (y ∷ ys) h = absurd (unpaired y (fronted k ys) h)
  pairs_back (suc k) (x ∷ xs) [] h = absurd (unpaired_too x (fronted k xs) h)

  -- what is paired with a moved list is itself a moved list
  before_move : (k : ℕ) (y : Y) (ys bs : List Y) →
      ((us : List X) → AllZip R us bs → (xs : List X) × (us ≡ fronted k xs) × AllZip R xs ys) → (ws : List X) →
      AllZip R ws (behind_first y bs) → (xs : List X) × (ws ≡ fronted (suc k) xs) × AllZip R xs (y ∷ ys)
  before_move k y ys [] back [] h = absurd h
  before_move k y ys [] back (w ∷ []) h =
      let r = back [] tt in
      (w ∷ r.0, ap (λ us. behind_first w us) r.1, (h.0, r.2))
  before_move k y ys [] back (w ∷ (v ∷ ws)) h = absurd h.1
  before_move k y ys (b ∷ bs) back [] h = absurd h
  before_move k y ys (b ∷ bs) back (w ∷ []) h = absurd h.1
  before_move k y ys (b ∷ bs) back (w ∷ (v ∷ ws)) h =
      let r = back (w ∷ ws) (h.0, h.1.1) in
      (v ∷ r.0, ap (λ us. behind_first v us) r.1, (h.1.0, r.2))

  pub moved_back : (k : ℕ) (ys : List Y) (ws : List X) → AllZip R ws (fronted k ys) →
      (xs : List X) × (ws ≡ fronted k xs) × AllZip R xs ys
  moved_back zero ys ws h = (ws, refl, h)
  moved_back (suc k) [] [] h = ([], refl, h)
  moved_back (suc k) [] (w ∷ ws) h = absurd h
  moved_back (suc k) (y ∷ ys) ws h = before_move k y ys (fronted k ys) (λ us p. moved_back k ys us p) ws h

-- the item at the place, those before it and those after it
pub fronted_is : {X : Type 0} (k : ℕ) (xs : List X) (d : X) → k < length xs →
    get_or xs k d ∷ (take k xs ++ drop (k + 1) xs) ≡ fronted k xs
fronted_is zero [] d h = absurd (omega arith)
fronted_is zero (x ∷ xs) d h = refl
fronted_is (suc k) [] d h = absurd (omega arith)
fronted_is (suc k) (x ∷ xs) d h =
    let r : get_or xs k d ∷ (take k xs ++ drop (k + 1) xs) ≡ fronted k xs = fronted_is k xs d (omega arith) in
    let e : suc k + 1 ≡ suc (k + 1) = omega arith in
    rw e (ap (λ ys. behind_first x ys) r)

pub map_fronted : {X Y : Type 0} (f : X → Y) (k : ℕ) (xs : List X) → map f (fronted k xs) ≡ fronted k (map f xs)
map_fronted f zero xs = refl
map_fronted f (suc k) [] = refl
map_fronted {X = X} f (suc k) (x ∷ xs) = by (fronted k xs) ∙ ap (λ ys. behind_first (f x) ys) (map_fronted f k xs)
  where
    by : (ys : List X) → map f (behind_first x ys) ≡ behind_first (f x) (map f ys)
    by [] = refl
    by (y ∷ ys) = refl

pub fronted_length : {X : Type 0} (k : ℕ) (xs : List X) → length (fronted k xs) ≡ length xs
fronted_length zero xs = refl
fronted_length (suc k) [] = refl
fronted_length {X = X} (suc k) (x ∷ xs) = by (fronted k xs) ∙ ap suc (fronted_length k xs)
  where
    by : (ys : List X) → length (behind_first x ys) ≡ suc (length ys)
    by [] = refl
    by (y ∷ ys) = refl

all_behind : {X : Type 0} (n : ℕ) (xs : List X) → take (length xs - n) (drop n xs) ≡ drop n xs
all_behind n xs = take_all (length xs - n) (drop n xs) (omega (arith, length-drop n xs))

-- the items that are pushed one part after the other
pub front_made : {X : Type 0} (k : ℕ) (xs : List X) (x : X) (none made more all : List X) → k < length xs →
    x ≡ get_or xs k x → none ≡ [] → made ≡ none ++ x ∷ [] → more ≡ made ++ take k xs →
    all ≡ more ++ take (length xs - (k + 1)) (drop (k + 1) xs) → all ≡ fronted k xs
front_made k xs x none made more all h is z a b c =
    let e : x ∷ (take k xs ++ drop (k + 1) xs) ≡ fronted k xs = ap (λ y. y ∷ (take k xs ++ drop (k + 1) xs)) is
    ∙ fronted_is k xs x h in
    c ∙ ap (λ ys. more ++ ys) (all_behind (k + 1) xs)
    ∙ ap (λ ys. ys ++ drop (k + 1) xs) (b ∙ ap (λ ys. ys ++ take k xs) (a ∙ ap (λ ys. ys ++ x ∷ []) z)) ∙ e

pub row_made : (k : ℕ) (refs : List (Bor Tree)) (x : Bor Tree) (none made more all : List Tree) →
    k < length refs → x ≡ get_or refs k x → none ≡ [] → made ≡ none ++ x.now ∷ [] →
    more ≡ made ++ terms_of (take k refs) →
    all ≡ more ++ terms_of (take (length refs - (k + 1)) (drop (k + 1) refs)) → all ≡ fronted k (terms_of refs)
row_made k refs x none made more all h is z a b c =
    let now : Bor Tree → Tree = λ (t : Bor Tree). t.now in
    let e : x ∷ (take k refs ++ drop (k + 1) refs) ≡ fronted k refs = ap
    (λ y. y ∷ (take k refs ++ drop (k + 1) refs)) is ∙ fronted_is k refs x h in
    c ∙ ap (λ ys. more ++ terms_of ys) (all_behind (k + 1) refs) ∙ ap (λ ys. ys ++ terms_of (drop (k + 1) refs))
    (b ∙ ap (λ ys. ys ++ terms_of (take k refs)) (a ∙ ap (λ ys. ys ++ x.now ∷ []) z))
    ∙ ap (λ ts. x.now ∷ ts) (sym (map-append now (take k refs) (drop (k + 1) refs)))
    ∙ ap (λ rs. terms_of rs) e ∙ map_fronted now k refs
