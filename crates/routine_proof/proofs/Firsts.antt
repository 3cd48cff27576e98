-- The first item with a result is one, it is found if each item is decided, and items without a
-- result may be left out.
use Rattle.std.proofs.Common.{◌≡◌, ◌⊎◌, List, [], ◌∷◌, ◌++◌, Bool, true, false, cond, inl, inr, refl, ap}
use Rattle.std.specs.Prelude.{Option, Some, None}
use Rattle.std.specs.List.{AllByRecursion, filter, flat_map}
use Rattle.routine_proof.specs.First.{HasNone, FirstIs, NoneIs, IsFirst}

module _ {A R : Type 0} (is : A → R → Type 0) where
  -- at most one result of an item
  abbrev pub HasOne : A → Type 0
  HasOne a = (r s : R) → is a r → is a s → r ≡ s

  abbrev pub IsDecided : A → Type 0
  IsDecided a = ((r : R) × is a r) ⊎ HasNone is a

  pub first_one :
      (items : List A) → AllByRecursion HasOne items → (r s : R) →
      FirstIs is items r → FirstIs is items s → r ≡ s
  first_one [] one r s p q = absurd p
  first_one (a ∷ items) one r s (inl p) (inl q) = one.0 r s p q
  first_one (a ∷ items) one r s (inl p) (inr q) = absurd (q.0 r p)
  first_one (a ∷ items) one r s (inr p) (inl q) = absurd (p.0 s q)
  first_one (a ∷ items) one r s (inr p) (inr q) = first_one items one.1 r s p.1 q.1

  pub none_is_first : (items : List A) (r : R) → NoneIs is items → FirstIs is items r → ⊥
  none_is_first [] r none p = p
  none_is_first (a ∷ items) r none (inl p) = none.0 r p
  none_is_first (a ∷ items) r none (inr p) = none_is_first items r none.1 p.1

  -- a first result, or that there is none, is one too
  pub is_first_one :
      (items : List A) → AllByRecursion HasOne items → (r s : Option R) →
      IsFirst is items r → IsFirst is items s → r ≡ s
  is_first_one items one None None p q = refl
  is_first_one items one None (Some s) p q = absurd (none_is_first items s p q)
  is_first_one items one (Some r) None p q = absurd (none_is_first items r q p)
  is_first_one items one (Some r) (Some s) p q =
      ap (λ (x : R). Some x) (first_one items one r s p q)

  -- the item whose result is the first one
  pub first_among : (items : List A) (r : R) → FirstIs is items r → (a : A) × is a r
  first_among [] r p = absurd p
  first_among (a ∷ items) r (inl p) = (a, p)
  first_among (a ∷ items) r (inr p) = first_among items r p.1

  pub first_found :
      (items : List A) →
      AllByRecursion IsDecided items → ((r : R) × FirstIs is items r) ⊎ NoneIs is items
  first_found [] d = inr tt
  first_found (a ∷ items) d =
      elim d.0 [
        | inl p ↦ inl (p.0, inl p.1)
        | inr none ↦
            elim (first_found items d.1) [
              | inl q ↦ inl (q.0, inr (none, q.1))
              | inr rest ↦ inr (none, rest)
            ]
      ]

  -- what one list leaves, the next one gives
  pub first_left : (items more : List A) (r : R) → FirstIs is items r → FirstIs is (items ++ more) r
  first_left [] more r p = absurd p
  first_left (a ∷ items) more r (inl p) = inl p
  first_left (a ∷ items) more r (inr p) = inr (p.0, first_left items more r p.1)

  pub first_right :
      (items more : List A) (r : R) →
      NoneIs is items → FirstIs is more r → FirstIs is (items ++ more) r
  first_right [] more r none p = p
  first_right (a ∷ items) more r none p = inr (none.0, first_right items more r none.1 p)

  pub none_both :
      (items more : List A) → NoneIs is items → NoneIs is more → NoneIs is (items ++ more)
  none_both [] more none rest = rest
  none_both (a ∷ items) more none rest = (none.0, none_both items more none.1 rest)

  pub is_first_right :
      (items more : List A) (o : Option R) →
      NoneIs is items → IsFirst is more o → IsFirst is (items ++ more) o
  is_first_right items more None none p = none_both items more none p
  is_first_right items more (Some r) none p = first_right items more r none p

  kept_at :
      (b : Bool) (a : A) (items kept : List A) → (b ≡ false → HasNone is a) → (r : R) →
      (FirstIs is kept r → FirstIs is items r) →
      FirstIs is (cond b (a ∷ kept) kept) r → FirstIs is (a ∷ items) r
  kept_at true a items kept h r go f = elim f [ inl p ↦ inl p | inr p ↦ inr (p.0, go p.1) ]
  kept_at false a items kept h r go f = inr (h refl, go f)

  none_kept_at :
      (b : Bool) (a : A) (items kept : List A) → (b ≡ false → HasNone is a) →
      (NoneIs is kept → NoneIs is items) →
      NoneIs is (cond b (a ∷ kept) kept) → NoneIs is (a ∷ items)
  none_kept_at true a items kept h go f = (f.0, go f.1)
  none_kept_at false a items kept h go f = (h refl, go f)

  -- items that have no result may be left out
  pub first_kept :
      (p : A → Bool) → ((a : A) → p a ≡ false → HasNone is a) → (items : List A) (r : R) →
      FirstIs is (filter p items) r → FirstIs is items r
  first_kept p h [] r f = f
  first_kept p h (a ∷ items) r f =
      kept_at (p a) a items (filter p items) (h a) r (first_kept p h items r) f

  pub none_kept :
      (p : A → Bool) → ((a : A) → p a ≡ false → HasNone is a) → (items : List A) →
      NoneIs is (filter p items) → NoneIs is items
  none_kept p h [] f = tt
  none_kept p h (a ∷ items) f =
      none_kept_at (p a) a items (filter p items) (h a) (none_kept p h items) f

  pub is_first_kept :
      (p : A → Bool) → ((a : A) → p a ≡ false → HasNone is a) → (items : List A) (o : Option R) →
      IsFirst is (filter p items) o → IsFirst is items o
  is_first_kept p h items None f = none_kept p h items f
  is_first_kept p h items (Some r) f = first_kept p h items r f

-- the first of the lists that items have, one after the other
module _ {A B R : Type 0} (is : B → R → Type 0) (f : A → List B) where
  pub first_here :
      (item : A) (rest : List A) (r : R) →
      FirstIs is (f item) r → FirstIs is (flat_map f (item ∷ rest)) r
  first_here item rest r p = first_left is (f item) (flat_map f rest) r p

  pub first_later :
      (item : A) (rest : List A) (r : R) →
      NoneIs is (f item) → FirstIs is (flat_map f rest) r → FirstIs is (flat_map f (item ∷ rest)) r
  first_later item rest r none p = first_right is (f item) (flat_map f rest) r none p

  pub none_later :
      (item : A) (rest : List A) →
      NoneIs is (f item) → NoneIs is (flat_map f rest) → NoneIs is (flat_map f (item ∷ rest))
  none_later item rest none p = none_both is (f item) (flat_map f rest) none p

  -- items whose lists have no result may be left out
  pub none_flat :
      (items : List A) → AllByRecursion (λ (a : A). NoneIs is (f a)) items →
      NoneIs is (flat_map f items)
  none_flat [] none = tt
  none_flat (a ∷ items) none = none_later a items none.0 (none_flat items none.1)
