-- What is in a list that is made of other lists.
use Rattle.std.proofs.Common.{◌≡◌, List, [], ◌∷◌, ◌++◌, Bool, true, false, cond, Some, None, ◌⊎◌, inl, inr, refl, ap}
use Rattle.std.proofs.Common.{sym, ◌∙◌, subst}
use Rattle.std.specs.Prelude.{filter, map, slice_get}
use Rattle.std.specs.List.{flat_map}
use Rattle.std.proofs.lemmas.List.Elements.{Contains-append_left, Contains-append_right, Contains-append_cases}
use Rattle.term_core.specs.Tree.{Tree}
use Rattle.term_core.specs.declared.ids.SortId.{SortId}
use Rattle.spec_core.specs.Order.{product}
use Rattle.term_core.proofs.Members.{In, in_contained, contained_in}

-- a list with an item has a first one
pub none_is_first : {X : Type 0} (xs : List X) (x : X) → In x xs → slice_get xs 0 ≡ None → ⊥
none_is_first [] x a e = a
none_is_first (y ∷ xs) x a e = let q : Some y ≡ None = e in cc

pub first_in : {X : Type 0} (xs : List X) (x : X) → slice_get xs 0 ≡ Some x → In x xs
first_in [] x e = let q : None ≡ Some x = e in cc
first_in (y ∷ xs) x e = let q : Some y ≡ Some x = e in inl cc

pub in_left : {X : Type 0} (xs ys : List X) (x : X) → In x xs → In x (xs ++ ys)
in_left xs ys x a = in_contained (xs ++ ys) x (Contains-append_left xs ys x (contained_in xs x a))

pub in_right : {X : Type 0} (xs ys : List X) (x : X) → In x ys → In x (xs ++ ys)
in_right xs ys x a = in_contained (xs ++ ys) x (Contains-append_right xs ys x (contained_in ys x a))

pub in_either : {X : Type 0} (xs ys : List X) (x : X) → In x (xs ++ ys) → In x xs ⊎ In x ys
in_either xs ys x a = elim (Contains-append_cases xs ys x (contained_in (xs ++ ys) x a)) [
  | inl b ↦ inl (in_contained xs x b)
  | inr b ↦ inr (in_contained ys x b)
]

kept : {X : Type 0} (b : Bool) (y x : X) (xs : List X) → b ≡ true → In x (y ∷ xs) → In x (cond b (y ∷ xs) xs)
kept true y x xs e a = a
kept false y x xs e a = let q : false ≡ true = e in cc

kept_later : {X : Type 0} (b : Bool) (y x : X) (xs : List X) → In x xs → In x (cond b (y ∷ xs) xs)
kept_later true y x xs a = inr a
kept_later false y x xs a = a

-- an item that passes the test is in the filtered list
pub in_filter : {X : Type 0} (p : X → Bool) (xs : List X) (x : X) → In x xs → p x ≡ true → In x (filter p xs)
in_filter p [] x a e = a
in_filter p (y ∷ xs) x (inl k) e = kept (p y) y x (filter p xs) (ap p (sym k) ∙ e) (inl k)
in_filter p (y ∷ xs) x (inr a) e = kept_later (p y) y x (filter p xs) (in_filter p xs x a e)

kept_cases : {X : Type 0} (b : Bool) (y x : X) (xs : List X) → In x (cond b (y ∷ xs) xs) →
    ((b ≡ true) × (x ≡ y)) ⊎ In x xs
kept_cases true y x xs (inl e) = inl (refl, e)
kept_cases true y x xs (inr a) = inr a
kept_cases false y x xs a = inr a

-- and no other is there
pub filter_parts : {X : Type 0} (p : X → Bool) (xs : List X) (x : X) → In x (filter p xs) → In x xs × (p x ≡ true)
filter_parts p [] x a = absurd a
filter_parts p (y ∷ xs) x a = elim (kept_cases (p y) y x (filter p xs) a) [
  | inl w ↦ (inl w.1, ap p w.1 ∙ w.0)
  | inr b ↦
      let w = filter_parts p xs x b in
      (inr w.0, w.1)
]

pub in_map : {X Y : Type 0} (f : X → Y) (xs : List X) (x : X) → In x xs → In (f x) (map f xs)
in_map f [] x a = a
in_map f (y ∷ xs) x (inl e) = inl (ap f e)
in_map f (y ∷ xs) x (inr a) = inr (in_map f xs x a)

pub map_parts : {X Y : Type 0} (f : X → Y) (xs : List X) (y : Y) → In y (map f xs) → (x : X) × In x xs × (f x ≡ y)
map_parts f [] y a = absurd a
map_parts f (x ∷ xs) y (inl e) = (x, inl refl, sym e)
map_parts f (x ∷ xs) y (inr a) =
    let w = map_parts f xs y a in
    (w.0, inr w.1, w.2)

pub in_flat_map : {X Y : Type 0} (f : X → List Y) (xs : List X) (x : X) (y : Y) → In x xs → In y (f x) →
    In y (flat_map f xs)
in_flat_map f [] x y a b = absurd a
in_flat_map f (z ∷ xs) x y (inl e) b = in_left (f z) (flat_map f xs) y (subst (λ k. In y (f k)) e b)
in_flat_map f (z ∷ xs) x y (inr a) b = in_right (f z) (flat_map f xs) y (in_flat_map f xs x y a b)

pub flat_map_parts : {X Y : Type 0} (f : X → List Y) (xs : List X) (y : Y) → In y (flat_map f xs) →
    (x : X) × In x xs × In y (f x)
flat_map_parts f [] y a = absurd a
flat_map_parts f (x ∷ xs) y a = elim (in_either (f x) (flat_map f xs) y a) [
  | inl b ↦ (x, inl refl, b)
  | inr b ↦
      let w = flat_map_parts f xs y b in
      (w.0, inr w.1, w.2)
]

-- a row that begins with a term is one of the rows that begin with that term
pub begun_parts : (f : Tree → List (List Tree)) (ts : List Tree) (t : Tree) (r : List Tree) →
    In (t ∷ r) (flat_map (λ u. map (λ x. u ∷ x) (f u)) ts) → In t ts × In r (f t)
begun_parts f ts t r a =
    let w = flat_map_parts (λ u. map (λ x. u ∷ x) (f u)) ts (t ∷ r) a in
    let v = map_parts (λ x. w.0 ∷ x) (f w.0) (t ∷ r) w.2 in
    let q : w.0 ∷ v.0 ≡ t ∷ r = v.2 in
    let e : w.0 ≡ t = cc in
    let k : v.0 ≡ r = cc in
    (subst (λ x. In x ts) e w.1, subst (λ x. In r (f x)) e (subst (λ x. In x (f w.0)) k v.1))

pub in_begun : (f : Tree → List (List Tree)) (ts : List Tree) (t : Tree) (r : List Tree) → In t ts →
    In r (f t) → In (t ∷ r) (flat_map (λ u. map (λ x. u ∷ x) (f u)) ts)
in_begun f ts t r a b = in_flat_map (λ u. map (λ x. u ∷ x) (f u)) ts t (t ∷ r) a (in_map (λ x. t ∷ x) (f t) r b)

-- rows of members of larger lists
pub product_more : (V W : SortId → List Tree) → ((s : SortId) (t : Tree) → In t (V s) → In t (W s)) →
    (ss : List SortId) (r : List Tree) → In r (product (map V ss)) → In r (product (map W ss))
product_more V W h [] r a = a
product_more V W h (s ∷ ss) r a =
    let w = flat_map_parts (λ u. map (λ x. u ∷ x) (product (map V ss))) (V s) r a in
    let v = map_parts (λ x. w.0 ∷ x) (product (map V ss)) r w.2 in
    subst (λ x. In x (product (map W (s ∷ ss)))) v.2
    (in_begun (λ u. product (map W ss)) (W s) w.0 v.0 (h s w.0 w.1) (product_more V W h ss v.0 v.1))
