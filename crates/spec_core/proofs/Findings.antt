-- Laws of searches for the first fault.
use Rattle.std.proofs.Common.{◌≡◌, ℕ, suc, ◌+◌, ◌<◌, ◌≤◌, inl, inr, List, [], ◌∷◌, ◌++◌, sym, ◌∙◌, subst, get_or}
use Rattle.std.proofs.Common.{length, take, drop, append_assoc}
use Rattle.std.proofs.lemmas.List.{append-nil, take_all}
use Rattle.spec_core.specs.Findings.{Search, nothing, test, then, Clean, First, each, each_after}
use Rattle.term_core.proofs.Items.{parted_at, taken_next}

-- if nothing is found there is no first finding
pub not_both : {F : Type 0} (s : Search F) (f : F) → Clean s → First s f → ⊥
not_both nothing f c h = h
not_both (test fault Found) f c h = c h.0
not_both (then s t) f c (inl h) = not_both s f c.0 h
not_both (then s t) f c (inr h) = not_both t f c.1 h.1

-- the first finding is one
pub one_first : {F : Type 0} (s : Search F) (f g : F) → First s f → First s g → f ≡ g
one_first nothing f g h k = absurd h
one_first (test fault Found) f g h k = h.1 ∙ sym k.1
one_first (then s t) f g (inl h) (inl k) = one_first s f g h k
one_first (then s t) f g (inl h) (inr k) = absurd (not_both s f k.0 h)
one_first (then s t) f g (inr h) (inl k) = absurd (not_both s g h.0 k)
one_first (then s t) f g (inr h) (inr k) = one_first t f g h.1 k.1

-- a search of each element, element by element
module _ {F A : Type 0} (f : A → Search F) where
  each_more : (xs : List A) (x : A) → Clean (each f xs) → Clean (f x) → Clean (each f (xs ++ x ∷ []))
  each_more [] x c d = (d, tt)
  each_more (y ∷ ys) x c d = (c.0, each_more ys x c.1 d)

  each_fault : (xs ys : List A) (x : A) (e : F) → Clean (each f xs) → First (f x) e → First (each f (xs ++ x ∷ ys)) e
  each_fault [] ys x e c h = inl h
  each_fault (y ∷ zs) ys x e c h = inr (c.0, each_fault zs ys x e c.1 h)

  module _ (xs : List A) (i : ℕ) where
    pub each_next : (x : A) → i < length xs → x ≡ get_or xs i x → Clean (each f (take i xs)) → Clean (f x) →
        Clean (each f (take (i + 1) xs))
    each_next x lt is c d = subst (λ ys. Clean (each f ys)) (sym (taken_next xs i x lt is))
        (each_more (take i xs) x c d)

    pub each_stops : (x : A) (e : F) → i < length xs → x ≡ get_or xs i x → Clean (each f (take i xs)) →
        First (f x) e → First (each f xs) e
    each_stops x e lt is c h = subst (λ ys. First (each f ys) e) (parted_at xs i x lt is)
        (each_fault (take i xs) (drop (suc i) xs) x e c h)

    pub each_end : length xs ≤ i → Clean (each f (take i xs)) → Clean (each f xs)
    each_end end c = subst (λ ys. Clean (each f ys)) (take_all i xs end) c

-- and a search of each with those before it
module _ {F A : Type 0} (f : List A → A → Search F) where
  after_more : (before xs : List A) (x : A) → Clean (each_after f before xs) → Clean (f (before ++ xs) x) →
      Clean (each_after f before (xs ++ x ∷ []))
  after_more before [] x c d = (subst (λ bs. Clean (f bs x)) (append-nil before) d, tt)
  after_more before (y ∷ ys) x c d = (
    c.0,
    after_more (before ++ y ∷ []) ys x c.1 (subst (λ bs. Clean (f bs x)) (sym (append_assoc before (y ∷ []) ys)) d),
  )

  after_fault : (before xs ys : List A) (x : A) (e : F) → Clean (each_after f before xs) →
      First (f (before ++ xs) x) e → First (each_after f before (xs ++ x ∷ ys)) e
  after_fault before [] ys x e c h = inl (subst (λ bs. First (f bs x) e) (append-nil before) h)
  after_fault before (y ∷ zs) ys x e c h = inr (
    c.0,
    after_fault (before ++ y ∷ []) zs ys x e c.1
        (subst (λ bs. First (f bs x) e) (sym (append_assoc before (y ∷ []) zs)) h),
  )

  module _ (xs : List A) (i : ℕ) where
    pub after_next : (x : A) → i < length xs → x ≡ get_or xs i x → Clean (each_after f [] (take i xs)) →
        Clean (f (take i xs) x) → Clean (each_after f [] (take (i + 1) xs))
    after_next x lt is c d = subst (λ ys. Clean (each_after f [] ys)) (sym (taken_next xs i x lt is))
        (after_more [] (take i xs) x c d)

    pub after_stops : (x : A) (e : F) → i < length xs → x ≡ get_or xs i x →
        Clean (each_after f [] (take i xs)) → First (f (take i xs) x) e → First (each_after f [] xs) e
    after_stops x e lt is c h = subst (λ ys. First (each_after f [] ys) e) (parted_at xs i x lt is)
        (after_fault [] (take i xs) (drop (suc i) xs) x e c h)

    pub after_end : length xs ≤ i → Clean (each_after f [] (take i xs)) → Clean (each_after f [] xs)
    after_end end c = subst (λ ys. Clean (each_after f [] ys)) (take_all i xs end) c
