-- Where blocks are in the list of substitutions, and how large they are.
use Rattle.std.proofs.Common.{◌≡◌, ℕ, ◌*◌, ◌<◌, List, [], ◌∷◌, ◌++◌, Some, None, inl, inr, refl, ap, sym, ◌∙◌, subst}
use Rattle.std.proofs.Common.{arith, append_assoc, length, length-append}
use Rattle.std.specs.Prelude.{map, slice_get}
use Rattle.std.specs.List.{flat_map, AllByRecursion}
use Rattle.std.proofs.lemmas.Grind.{flat_map-append}
use Rattle.std.proofs.lemmas.List.{append-nil, map-id, map-append, length-map}
use Rattle.std.proofs.lemmas.List.Folds.{flat_map-map}
use Rattle.std.proofs.lemmas.Simd.{map-map}
use Rattle.std.proofs.Math.Nat.{suc-mul}
use Rattle.term_core.specs.Tree.{Tree}
use Rattle.term_core.specs.declared.ids.SortId.{SortId}
use Rattle.term_core.proofs.Members.{In, all_in}
use Rattle.spec_core.specs.Sig.{Sig}
use Rattle.spec_core.specs.Order.{values}
use Rattle.refuter.specs.Blocks.{rows_of, block}
use Rattle.refuter.proofs.InLists.{in_map, in_flat_map}

map_flat_map : {X Y Z : Type 0} (h : Y → Z) (f : X → List Y) (xs : List X) →
    map h (flat_map f xs) ≡ flat_map (λ x. map h (f x)) xs
map_flat_map h f [] = refl
map_flat_map h f (x ∷ xs) = map-append h (f x) (flat_map f xs) ∙ ap (λ zs. map h (f x) ++ zs) (map_flat_map h f xs)

flat_map_flat_map : {X Y Z : Type 0} (g : Y → List Z) (f : X → List Y) (xs : List X) →
    flat_map g (flat_map f xs) ≡ flat_map (λ x. flat_map g (f x)) xs
flat_map_flat_map g f [] = refl
flat_map_flat_map g f (x ∷ xs) = flat_map-append g (f x) (flat_map f xs)
    ∙ ap (λ zs. flat_map g (f x) ++ zs) (flat_map_flat_map g f xs)

flat_map_same : {X Y : Type 0} (f g : X → List Y) (xs : List X) → ((x : X) → f x ≡ g x) → flat_map f xs ≡ flat_map g xs
flat_map_same f g [] h = refl
flat_map_same f g (x ∷ xs) h = ap (λ zs. zs ++ flat_map f xs) (h x) ∙ ap (λ zs. g x ++ zs) (flat_map_same f g xs h)

-- rows that begin with the rows of one list and go on with those of another
unfoldable pub joins : List (List Tree) → List (List Tree) → List (List Tree)
joins rows others = flat_map (λ q. map (λ r. q ++ r) others) rows

joins_one : (others : List (List Tree)) → joins ([] ∷ []) others ≡ others
unfolding joins
joins_one others = append-nil (map (λ r. r) others) ∙ map-id others

begin_joined : (t : Tree) (rows others : List (List Tree)) →
    map (λ r. t ∷ r) (joins rows others) ≡ joins (map (λ r. t ∷ r) rows) others
unfolding joins
begin_joined t rows others =
    map_flat_map (λ r. t ∷ r) (λ q. map (λ r. q ++ r) others) rows
    ∙ flat_map_same _ _ rows (λ q. map-map (λ r. t ∷ r) (λ r. q ++ r) others)
    ∙ sym (flat_map-map (λ q. map (λ r. q ++ r) others) (λ r. t ∷ r) rows)

joins_flat : (f : Tree → List (List Tree)) (ts : List Tree) (others : List (List Tree)) →
    flat_map (λ t. joins (f t) others) ts ≡ joins (flat_map f ts) others
unfolding joins
joins_flat f ts others = sym (flat_map_flat_map (λ q. map (λ r. q ++ r) others) f ts)

none_joined : (rows : List (List Tree)) → joins rows [] ≡ []
unfolding joins
none_joined [] = refl
none_joined (q ∷ rows) = none_joined rows

some_joined : (rows others : List (List Tree)) → 0 < length (joins rows others) → 0 < length others
some_joined rows [] h = absurd (let e : length (joins rows []) ≡ 0 = ap (λ x. length x) (none_joined rows) in
    omega arith)
some_joined rows (r ∷ others) h = omega arith

maps_same : (f g : List Tree → List Tree) (rows : List (List Tree)) → ((r : List Tree) → f r ≡ g r) →
    map f rows ≡ map g rows
maps_same f g [] h = refl
maps_same f g (r ∷ rows) h = ap (λ y. y ∷ map f rows) (h r) ∙ ap (λ ys. g r ∷ ys) (maps_same f g rows h)

module _ (sig : Sig) (depth : ℕ) where
  -- the rows of all sorts are those of the first ones, each with those of the others
  pub rows_joined : (xs ys : List SortId) →
      rows_of sig depth (xs ++ ys) ≡ joins (rows_of sig depth xs) (rows_of sig depth ys)
  rows_joined [] ys = sym (joins_one (rows_of sig depth ys))
  rows_joined (s ∷ xs) ys =
      flat_map_same (λ t. map (λ r. t ∷ r) (rows_of sig depth (xs ++ ys)))
      (λ t. joins (map (λ r. t ∷ r) (rows_of sig depth xs)) (rows_of sig depth ys)) (values sig depth s)
      (λ t. ap (λ rows. map (λ r. t ∷ r) rows) (rows_joined xs ys)
      ∙ begin_joined t (rows_of sig depth xs) (rows_of sig depth ys))
      ∙ joins_flat (λ t. map (λ r. t ∷ r) (rows_of sig depth xs)) (values sig depth s) (rows_of sig depth ys)

  -- a block is made of the blocks that begin with further values
  pub block_parted : (p : List Tree) (xs ys : List SortId) →
      block sig depth p (xs ++ ys) ≡ flat_map (λ q. block sig depth (p ++ q) ys) (rows_of sig depth xs)
  unfolding joins
  block_parted p xs ys =
      ap (λ rows. map (λ r. p ++ r) rows) (rows_joined xs ys)
      ∙ map_flat_map (λ r. p ++ r) (λ q. map (λ r. q ++ r) (rows_of sig depth ys)) (rows_of sig depth xs)
      ∙ flat_map_same _ _ (rows_of sig depth xs)
      (λ q. map-map (λ r. p ++ r) (λ r. q ++ r) (rows_of sig depth ys)
      ∙ maps_same (λ r. p ++ (q ++ r)) (λ r. (p ++ q) ++ r) (rows_of sig depth ys) (λ r. sym (append_assoc p q r)))

  -- the whole list is the block of no values
  pub whole_block : (ss : List SortId) → block sig depth [] ss ≡ rows_of sig depth ss
  whole_block ss = map-id (rows_of sig depth ss)

  pub block_length : (p : List Tree) (ss : List SortId) → length (block sig depth p ss) ≡ length (rows_of sig depth ss)
  block_length p ss = length-map (rows_of sig depth ss) (λ r. p ++ r)

  pub joined_in : (xs ys : List SortId) (p r : List Tree) → In p (rows_of sig depth xs) →
      In r (rows_of sig depth ys) → In (p ++ r) (rows_of sig depth (xs ++ ys))
  unfolding joins
  joined_in xs ys p r a b = subst (λ rows. In (p ++ r) rows) (sym (rows_joined xs ys))
      (in_flat_map (λ q. map (λ x. q ++ x) (rows_of sig depth ys)) (rows_of sig depth xs) p (p ++ r) a
      (in_map (λ x. p ++ x) (rows_of sig depth ys) r b))

  -- if a block has a member, so have the blocks in it
  pub others_some : (xs ys : List SortId) → 0 < length (rows_of sig depth (xs ++ ys)) →
      0 < length (rows_of sig depth ys)
  others_some xs ys h = some_joined (rows_of sig depth xs) (rows_of sig depth ys)
      (subst (λ rows. 0 < length rows) (rows_joined xs ys) h)

  -- one more sort has this many times as many rows
  pub rows_times : (s : SortId) (ss : List SortId) →
      length (rows_of sig depth (s ∷ ss)) ≡ length (values sig depth s) * length (rows_of sig depth ss)
  rows_times s ss = times (values sig depth s) (rows_of sig depth ss)
    where
      times : (ts : List Tree) (rows : List (List Tree)) →
          length (flat_map (λ t. map (λ r. t ∷ r) rows) ts) ≡ length ts * length rows
      times [] rows = omega arith
      times (t ∷ ts) rows =
          let a = length-append (map (λ r. t ∷ r) rows) (flat_map (λ u. map (λ r. u ∷ r) rows) ts) in
          let b = length-map rows (λ r. t ∷ r) in
          let c = suc-mul (length ts) (length rows) in
          omega (arith, times ts rows)

  -- the first row of a block
  pub first_of_block : (p r : List Tree) (ss : List SortId) → slice_get (rows_of sig depth ss) 0 ≡ Some r →
      slice_get (block sig depth p ss) 0 ≡ Some (p ++ r)
  first_of_block p r ss e = first_mapped (rows_of sig depth ss) e
    where
      first_mapped : (rows : List (List Tree)) → slice_get rows 0 ≡ Some r →
          slice_get (map (λ x. p ++ x) rows) 0 ≡ Some (p ++ r)
      first_mapped [] e = let q : None ≡ Some r = e in cc
      first_mapped (x ∷ rows) e = let q : Some x ≡ Some r = e in let k : x ≡ r = cc in ap (λ y. Some (p ++ y)) k

  -- what holds of each row of all sorts holds of each row of a block
  pub all_of_block : (P : List Tree → Type 0) (xs ys : List SortId) (p : List Tree) →
      AllByRecursion P (rows_of sig depth (xs ++ ys)) → In p (rows_of sig depth xs) →
      AllByRecursion P (block sig depth p ys)
  all_of_block P xs ys p all a = all_mapped (rows_of sig depth ys)
      (λ r b. all_in P (rows_of sig depth (xs ++ ys)) (p ++ r) all (joined_in xs ys p r a b))
    where
      all_mapped : (rows : List (List Tree)) → ((r : List Tree) → In r rows → P (p ++ r)) →
          AllByRecursion P (map (λ r. p ++ r) rows)
      all_mapped [] h = tt
      all_mapped (r ∷ rows) h = (h r (inl refl), all_mapped rows (λ x b. h x (inr b)))
