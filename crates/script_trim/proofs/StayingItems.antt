-- What stays of a list, item by item.
use Rattle.std.proofs.Common.{◌≡◌, ℕ, suc, ◌+◌, ◌<◌, List, [], ◌∷◌, ◌++◌, Bool, true, false}
use Rattle.std.proofs.Common.{Some, take, refl, sym, ◌∙◌, ap, subst, arith, length, map}
use Rattle.std.proofs.Common.{add-one}
use Rattle.std.specs.Prelude.{cond, slice_get}
use Rattle.std.specs.Borrow.{Bor}
use Rattle.std.specs.List.{AllByRecursion, zip}
use Rattle.std.proofs.lemmas.List.{append-nil, map-append}
use Rattle.std.proofs.lemmas.Option.{slice_get_within}
use Rattle.term_core.proofs.Items.{all_append, all_at}
use Rattle.script_trim.specs.Cut.{new_number, staying}
use Rattle.script_trim.specs.Flags.{flag_of}
use Rattle.script_trim.proofs.Places.{taken_length, taken_more}
use Rattle.script_trim.proofs.Staying.{staying_append, staying_at, staying_yes, staying_no}
use Rattle.script_trim.proofs.StayingChildren.{there}

module _ (stays : ℕ → Bool) where
  module _ {A : Type 0} (xs : List A) (k : ℕ) (x : A) (at : slice_get xs k ≡ Some x) where
    next : staying stays 0 (take (k + 1) xs) ≡ staying stays 0 (take k xs) ++ staying stays k (x ∷ [])
    next =
        let long : 0 + length (take k xs) ≡ k = omega (
          arith,
          taken_length xs k (omega (arith, slice_get_within xs k x at)),
        ) in
        ap (λ n. staying stays 0 (take n xs)) (add-one k)
        ∙ ap (λ ys. staying stays 0 ys) (taken_more xs k x at)
        ∙ staying_append stays 0 (take k xs) (x ∷ [])
        ∙ ap (λ j. staying stays 0 (take k xs) ++ staying stays j (x ∷ [])) long

    -- one item more, which stays
    pub kept_next : stays k ≡ true → staying stays 0 (take (k + 1) xs) ≡ staying stays 0 (take k xs) ++ x ∷ []
    kept_next e = next ∙ ap (λ ys. staying stays 0 (take k xs) ++ ys) (staying_yes stays k x [] e)

    -- or doesn't
    pub left_next : stays k ≡ false → staying stays 0 (take (k + 1) xs) ≡ staying stays 0 (take k xs)
    left_next e =
        next ∙ ap (λ ys. staying stays 0 (take k xs) ++ ys) (staying_no stays k x [] e) ∙ append-nil
        (staying stays 0 (take k xs))

    pub all_kept_next :
        (P : A → Type 0) → stays k ≡ true → P x → AllByRecursion P (staying stays 0 (take k xs)) →
        AllByRecursion P (staying stays 0 (take (k + 1) xs))
    all_kept_next P e p all =
        subst (AllByRecursion P) (sym (kept_next e)) (all_append P (staying stays 0 (take k xs)) (x ∷ []) all (p, tt))

    pub all_left_next :
        (P : A → Type 0) → stays k ≡ false → AllByRecursion P (staying stays 0 (take k xs)) →
        AllByRecursion P (staying stays 0 (take (k + 1) xs))
    all_left_next P e all = subst (AllByRecursion P) (sym (left_next e)) all

    -- if it holds of all that stay, it holds of this one
    pub all_kept_at : (P : A → Type 0) → stays k ≡ true → AllByRecursion P (staying stays 0 xs) → P x
    all_kept_at P e all = all_at P (staying stays 0 xs) all (new_number stays k) x (staying_at stays k xs x at e)

    -- images of those that stay
    pub image_kept_next :
        {B : Type 0} (f : A → B) (ys news : List B) → stays k ≡ true → ys ≡ map f (staying stays 0 (take k xs)) →
        news ≡ ys ++ f x ∷ [] → news ≡ map f (staying stays 0 (take (k + 1) xs))
    image_kept_next f ys news e is more =
        more ∙ ap (λ zs. zs ++ f x ∷ []) is ∙ sym (map-append f (staying stays 0 (take k xs)) (x ∷ [])) ∙ ap
        (λ zs. map f zs) (sym (kept_next e))

    pub image_left_next :
        {B : Type 0} (f : A → B) (ys : List B) → stays k ≡ false → ys ≡ map f (staying stays 0 (take k xs)) →
        ys ≡ map f (staying stays 0 (take (k + 1) xs))
    image_left_next f ys e is = is ∙ ap (λ zs. map f zs) (sym (left_next e))

  module _ {A : Type 0} (xs : List A) (k : ℕ) (within : k < length xs) (e : stays k ≡ false) where
    -- the same of a place alone
    pub all_left_past :
        (P : A → Type 0) → AllByRecursion P (staying stays 0 (take k xs)) →
        AllByRecursion P (staying stays 0 (take (k + 1) xs))
    all_left_past P all = let x = there xs k within in all_left_next xs k x.0 x.1 P e all

    pub image_left_past :
        {B : Type 0} (f : A → B) (ys : List B) → ys ≡ map f (staying stays 0 (take k xs)) →
        ys ≡ map f (staying stays 0 (take (k + 1) xs))
    image_left_past f ys is = let x = there xs k within in image_left_next xs k x.0 x.1 f ys e is

  -- what stays of images are the images of what stays
  pub staying_map :
      {A B : Type 0} (f : A → B) (k : ℕ) (xs : List A) → staying stays k (map f xs) ≡ map f (staying stays k xs)
  staying_map f k [] = refl
  staying_map f k (x ∷ xs) = by_case (stays k) (staying_map f (suc k) xs)
    where
      by_case :
          (b : Bool) → staying stays (suc k) (map f xs) ≡ map f (staying stays (suc k) xs) →
          cond b (f x ∷ staying stays (suc k) (map f xs)) (staying stays (suc k) (map f xs)) ≡ map f
          (cond b (x ∷ staying stays (suc k) xs) (staying stays (suc k) xs))
      by_case true r = ap (λ ys. f x ∷ ys) r
      by_case false r = r

  module _ (n : ℕ) where
    pub number_kept : stays n ≡ true → new_number stays (n + 1) ≡ new_number stays n + 1
    number_kept e =
        ap (λ k. new_number stays k) (add-one n) ∙ ap (λ b. cond b (suc (new_number stays n)) (new_number stays n)) e
        ∙ sym (add-one (new_number stays n))

    pub number_left : stays n ≡ false → new_number stays (n + 1) ≡ new_number stays n
    number_left e =
        ap (λ k. new_number stays k) (add-one n) ∙ ap (λ b. cond b (suc (new_number stays n)) (new_number stays n)) e

-- the items whose flags are set
abbrev pub kept_of : {A : Type 0} → List (A × Bool) → List A
kept_of [] = []
kept_of (p ∷ ps) = cond p.1 (p.0 ∷ kept_of ps) (kept_of ps)

-- the pair as the code reads it
abbrev pub read_pair : {A : Type 0} → A × Bor Bool → A × Bool
read_pair p = (p.0, p.1.now)

module _ {A : Type 0} where
  kept_append : (ps qs : List (A × Bool)) → kept_of (ps ++ qs) ≡ kept_of ps ++ kept_of qs
  kept_append [] qs = refl
  kept_append (p ∷ ps) qs = by_case p.1 (kept_append ps qs)
    where
      by_case :
          (b : Bool) → kept_of (ps ++ qs) ≡ kept_of ps ++ kept_of qs →
          cond b (p.0 ∷ kept_of (ps ++ qs)) (kept_of (ps ++ qs)) ≡ cond b (p.0 ∷ kept_of ps) (kept_of ps) ++ kept_of
          qs
      by_case true r = ap (λ xs. p.0 ∷ xs) r
      by_case false r = r

  next_pair :
      (ps : List (A × Bor Bool)) (p : A × Bor Bool) → kept_of (map read_pair (ps ++ p ∷ [])) ≡ kept_of
      (map read_pair ps) ++ cond p.1.now (p.0 ∷ []) []
  next_pair ps p =
      ap (λ qs. kept_of qs) (map-append read_pair ps (p ∷ [])) ∙ kept_append (map read_pair ps) (read_pair p ∷ [])

  pub pair_kept :
      (ps : List (A × Bor Bool)) (p : A × Bor Bool) (kept news : List A) → p.1.now ≡ true →
      kept ≡ kept_of (map read_pair ps) → news ≡ kept ++ p.0 ∷ [] → news ≡ kept_of (map read_pair (ps ++ p ∷ []))
  pair_kept ps p kept news e is more =
      more ∙ ap (λ xs. xs ++ p.0 ∷ []) is ∙ ap (λ b. kept_of (map read_pair ps) ++ cond b (p.0 ∷ []) []) (sym e) ∙ sym
      (next_pair ps p)

  pub pair_left :
      (ps : List (A × Bor Bool)) (p : A × Bor Bool) (kept : List A) → p.1.now ≡ false →
      kept ≡ kept_of (map read_pair ps) → kept ≡ kept_of (map read_pair (ps ++ p ∷ []))
  pair_left ps p kept e is =
      is ∙ sym (append-nil (kept_of (map read_pair ps))) ∙ ap
      (λ b. kept_of (map read_pair ps) ++ cond b (p.0 ∷ []) []) (sym e) ∙ sym (next_pair ps p)

  kept_from :
      (stays : ℕ → Bool) (k : ℕ) (xs : List A) (flags : List Bool) → length xs ≡ length flags →
      ((j : ℕ) → j < length flags → stays (k + j) ≡ flag_of flags j) → kept_of (zip xs flags) ≡ staying stays k xs
  kept_from stays k [] flags l h = refl
  kept_from stays k (x ∷ xs) [] l h = absurd (omega (arith, l))
  kept_from stays k (x ∷ xs) (b ∷ flags) l h =
      let z : k + 0 ≡ k = omega arith in
      let here : b ≡ stays k = sym (h 0 (omega arith)) ∙ ap stays z in
      let rest = kept_from stays (suc k) xs flags (omega (arith, l))
      (λ j less. (let y : suc k + j ≡ k + suc j = omega arith in ap stays y ∙ h (suc j) (omega (arith, less)))) in
      λ i. cond (here i) (x ∷ rest i) (rest i)

  -- the items whose flags are set are those that stay
  pub kept_staying :
      (xs : List A) (flags : List Bool) → length xs ≡ length flags →
      kept_of (zip xs flags) ≡ staying (flag_of flags) 0 xs
  kept_staying xs flags l =
      kept_from (flag_of flags) 0 xs flags l (λ j less. (let y : 0 + j ≡ j = omega arith in ap (flag_of flags) y))
