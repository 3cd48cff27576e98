-- First places in lists that grow.
use Rattle.std.proofs.Common.{◌≡◌, ◌≢◌, ℕ, suc, ◌+◌, List, [], ◌∷◌, ◌++◌, Bool, true, false, not, cond, ltb, Option}
use Rattle.std.proofs.Common.{Some, None, option_map, ◌⊎◌, inl, inr, refl, ap, sym, ◌∙◌, arith, length, position}
use Rattle.std.specs.List.{prefix_len}
use Rattle.std.proofs.lemmas.Bool.Decides.{nat_tests}
use Rattle.term_core.proofs.Numbers.{same_or_not}

-- a number that isn't another is the same
pub same_number : (m n : ℕ) → (m ≢ n → ⊥) → m ≡ n
same_number m n h = by (same_or_not m n)
  where
    by : (m ≡ n) ⊎ (m ≢ n) → m ≡ n
    by (inl p) = p
    by (inr q) = absurd (h q)

position_step : {X : Type 0} (p : X → Bool) (x : X) (xs : List X) →
    position p (x ∷ xs) ≡ cond (p x) (Some 0) (option_map (λ n. suc n) (position p xs))
position_step p x xs = by (p x) (prefix_len (λ y. not (p y)) xs) (length xs)
  where
    both : (c d : Bool) (m : ℕ) → c ≡ d → cond c (Some (1 + m)) None ≡ option_map (λ n. suc n) (cond d (Some m) None)
    both c true m e = let h : 1 + m ≡ suc m = omega arith in rw (e, h) refl
    both c false m e = rw e refl

    less : (m n : ℕ) → ltb (1 + m) (suc n) ≡ ltb m n
    less m n = grind (arith, nat_tests)

    by : (b : Bool) (m n : ℕ) → cond (ltb (cond (not b) (1 + m) 0) (suc n)) (Some (cond (not b) (1 + m) 0))
        None ≡ cond b (Some 0) (option_map (λ k. suc k) (cond (ltb m n) (Some m) None))
    by true m n = let h : ltb 0 (suc n) ≡ true = grind (arith, nat_tests) in rw h refl
    by false m n = both (ltb (1 + m) (suc n)) (ltb m n) m (less m n)

mapped : (o : Option ℕ) (n : ℕ) → option_map (λ k. suc k) o ≡ Some n → (m : ℕ) × (o ≡ Some m) × (n ≡ suc m)
mapped None n e = absurd (let q : None ≡ Some n = e in cc)
mapped (Some m) n e = (m, refl, let q : Some (suc m) ≡ Some n = e in cc)

stays : (o q : Option ℕ) (b : Bool) (n : ℕ) → ((m : ℕ) → o ≡ Some m → q ≡ Some m) →
    cond b (Some 0) (option_map (λ k. suc k) o) ≡ Some n → cond b (Some 0) (option_map (λ k. suc k) q) ≡ Some n
stays o q true n g h = h
stays o q false n g h =
    let m = mapped o n h in
    ap (λ x. option_map (λ k. suc k) x) (g m.0 m.1) ∙ (λ i. Some (sym m.2 i))

-- what is found stays found
pub position_stays : {X : Type 0} (p : X → Bool) (xs ys : List X) (n : ℕ) → position p xs ≡ Some n →
    position p (xs ++ ys) ≡ Some n
position_stays p [] ys n e = absurd (let q : None ≡ Some n = e in cc)
position_stays p (x ∷ xs) ys n e = position_step p x (xs ++ ys) ∙ stays (position p xs) (position p (xs ++ ys))
    (p x) n (λ m h. position_stays p xs ys m h) (sym (position_step p x xs) ∙ e)

lasts : (o q : Option ℕ) (b : Bool) (n : ℕ) → (o ≡ None → q ≡ Some n) →
    cond b (Some 0) (option_map (λ k. suc k) o) ≡ None → cond b (Some 0) (option_map (λ k. suc k) q) ≡ Some (suc n)
lasts o q true n g h = absurd (let z : Some 0 ≡ None = h in cc)
lasts None q false n g h = ap (λ x. option_map (λ k. suc k) x) (g refl)
lasts (Some m) q false n g h = absurd (let z : Some (suc m) ≡ None = h in cc)

-- what wasn't found is found after the others
pub position_last : {X : Type 0} (p : X → Bool) (xs : List X) (y : X) → position p xs ≡ None → p y ≡ true →
    position p (xs ++ y ∷ []) ≡ Some (length xs)
position_last p [] y e h = position_step p y [] ∙ rw h refl
position_last p (x ∷ xs) y e h = position_step p x (xs ++ y ∷ [])
    ∙ lasts (position p xs) (position p (xs ++ y ∷ [])) (p x) (length xs) (λ q. position_last p xs y q h)
    (sym (position_step p x xs) ∙ e)
